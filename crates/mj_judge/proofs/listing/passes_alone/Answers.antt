use Rattle.std.proofs.Common.{◌≡◌, false, rules, sym, ◌∙◌}
use Rattle.mj_rules.specs.View.{view_of}
use Rattle.mj_judge.proofs.Calls.{passes_alone}
use Rattle.mj_judge.proofs.listing.passes_alone.Goals as goal

pub returns-then-not-may_win : goal.returns-then-not-may_win
unfolding view_of
returns-then-not-may_win c =
    let shut : c.is_discarding.result ≡ false = search rules in
    let dull : c.may_win.result ≡ false = search rules in
    λ so. passes_alone c.args.table.now.rules c.args.table.now.deeds c.args.seat (sym c.is_discarding.ensures ∙ shut) (sym c.may_win.ensures ∙ dull)
