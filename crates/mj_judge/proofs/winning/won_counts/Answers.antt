use Rattle.std.proofs.Common.{rules, ◌<◌}
use Rattle.mj_judge.proofs.Wins.{won_with}
use Rattle.mj_judge.proofs.winning.won_counts.Goals as goal

pub returns-in-Some : goal.returns-in-Some
returns-in-Some c = λ tiles is.
    let small : c.kind.result < 34 = search rules in
    won_with c.args.held.now tiles c.with.result c.args.offered c.in-Some.tile c.kind.result c.in-Some.is c.kind.ensures small c.with.ensures is
