use Rattle.mj_judge.proofs.Wins.{closed_is, no_yaku}
use Rattle.mj_rules.specs.View.{view_of}
use Rattle.mj_judge.proofs.winning.has_no_yaku.Goals as goal

pub complete_has_yaku-requires-clause-closed : goal.complete_has_yaku-requires-clause-closed
complete_has_yaku-requires-clause-closed c = closed_is c.args.table.now.deeds c.args.seat c.args.melds.now c.case_now.result c.requires.melds c.case_now.ensures

pub returns-in-Some : goal.returns-in-Some
returns-in-Some c =
    no_yaku (view_of c.args.table.now.deeds c.args.seat) c.args.won.now c.args.melds.now c.case_now.result c.in-Some.winning c.complete_has_yaku.result
    c.requires.won c.requires.melds c.case_now.ensures c.in-Some.ensures c.complete_has_yaku.ensures.value
