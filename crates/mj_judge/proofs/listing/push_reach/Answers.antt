use Rattle.std.proofs.Common.{◌≡◌, false, rules, sym, ◌∙◌}
use Rattle.mj_deeds.specs.declared.answer.Answer.TheVariants.{Reach}
use Rattle.mj_judge.proofs.Drawn.{one_refused}
use Rattle.mj_judge.proofs.listing.push_reach.Goals as goal

pub returns-then-not-may_reach : goal.returns-then-not-may_reach
returns-then-not-may_reach c =
    let no : c.may_reach.result ≡ false = search rules in
    one_refused c.args.table.now.rules c.args.table.now.deeds c.args.seat (Reach c.args.seat) _ (sym c.may_reach.ensures ∙ no)
