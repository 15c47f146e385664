use Rattle.std.proofs.lemmas.Result.{on_ok_weaker}
use Rattle.mj_readings.proofs.Gathered.{none_more, end_none, end_left, end_wins}
use Rattle.mj_readings.proofs.gathering.gather_end.Goals as goal

pub returns-in_default : goal.returns-in_default
returns-in_default c = none_more _ c.args.melds.now c.args.winning c.args.sets.now _ (end_none c.args.spot.now.left c.args.spot.now.pair c.in_default.is)

pub returns-then-spot-gt0 : goal.returns-then-spot-gt0
returns-then-spot-gt0 c = none_more _ c.args.melds.now c.args.winning c.args.sets.now _ (end_left c.args.spot.now.left c.in-Some.pair c.args.spot.now.pair c.in-Some.is c.if-spot-gt0.true)

pub returns : goal.returns
returns c = on_ok_weaker c.gather_wins.result
    (end_wins c.args.found.now.items c.gather_wins.new.found.items c.args.melds.now c.args.sets.now c.args.winning c.in-Some.pair c.args.spot.now.left c.args.spot.now.pair c.in-Some.is
    c.if-spot-gt0.false) c.gather_wins.ensures
