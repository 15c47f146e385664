use Rattle.std.proofs.Common.{◌≡◌, true, rules, ◌∙◌}
use Rattle.mj_rules.specs.View.{view_of}
use Rattle.mj_judge.proofs.Tried.{all_tried}
use Rattle.mj_judge.proofs.listing.possible_over.Goals as goal

pub returns-then-passes_alone-clause-ok : goal.returns-then-passes_alone-clause-ok
returns-then-passes_alone-clause-ok c =
    let alone : c.passes_alone.result ≡ true = search rules in
    c.set_pass_alone.ensures ∙ c.passes_alone.ensures alone

pub returns-clause-ok : goal.returns-clause-ok
unfolding view_of
returns-clause-ok c =
    all_tried c.args.table.now.rules c.args.table.now.deeds c.args.seat _ _ _ _ _ _ _ _ _
    c.in_ok-items.ensures.empty c.in_ok-push_discards.ensures c.in_ok-push_calls.ensures c.in_ok-push_closed_kans.ensures
    c.in_ok-push_added_kans.ensures c.in_ok-push_reach.ensures c.in_ok-push_win.ensures c.in_ok-push_nine_kinds.ensures
    c.in_ok-set_after_pass.ensures.ok
