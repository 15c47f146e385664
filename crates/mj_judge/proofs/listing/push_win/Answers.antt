use Rattle.std.proofs.Common.{◌≡◌, false, rules, sym, ◌∙◌}
use Rattle.mj_rules.specs.View.{view_of}
use Rattle.mj_rules.specs.Possible.{all_wins}
use Rattle.mj_judge.proofs.Tried.{none_added, no_wins}
use Rattle.mj_judge.proofs.listing.push_win.Goals as goal

pub returns-then-not-may_win : goal.returns-then-not-may_win
unfolding view_of
returns-then-not-may_win c =
    let shut : c.may_win.result ≡ false = search rules in
    none_added c.args.table.now.rules c.args.table.now.deeds c.args.seat (all_wins c.args.seat (view_of c.args.table.now.deeds c.args.seat).turn) _
    (no_wins c.args.table.now.rules c.args.table.now.deeds c.args.seat (sym c.may_win.ensures ∙ shut))
