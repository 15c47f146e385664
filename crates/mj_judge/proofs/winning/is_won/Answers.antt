use Rattle.std.proofs.Common.{ℕ, rules, ◌<◌, List, refl, ap, ◌∙◌}
use Rattle.mj_readings.specs.Tests.{complete, one_more}
use Rattle.mj_judge.proofs.Wins.{won_with}
use Rattle.mj_judge.proofs.winning.is_won.Goals as goal

pub returns-in-Some : goal.returns-in-Some
returns-in-Some c = λ tiles is.
    let small : c.kind.result < 34 = search rules in
    c.is_complete_with.ensures.value
    ∙ ap (λ (ns : List ℕ). complete ns c.args.melds)
    (won_with c.args.held.now tiles (one_more c.args.held.now c.kind.result) c.args.offered c.in-Some.tile c.kind.result c.in-Some.is c.kind.ensures small refl is)
