use Rattle.mj_readings.proofs.Picking.{end-none, end-left, end-ok, end-past}
use Rattle.mj_readings.proofs.winning_way.end_at.Goals as goal

pub returns-in_default : goal.returns-in_default
returns-in_default c = end-none _ _ _ _ c.args.spot.now.pair c.in_default.is

pub returns-then-spot-gt0 : goal.returns-then-spot-gt0
returns-then-spot-gt0 c = end-left _ _ _ _ c.in-Some.pair c.args.spot.now.pair c.in-Some.is c.if-spot-gt0.true

pub returns-in-Ok : goal.returns-in-Ok
returns-in-Ok c = end-ok _ c.as_slice.result.now _ _ _ _ _ c.args.spot.now.pair c.in-Some.is c.if-spot-gt0.false c.as_slice.ensures.value c.in-Ok.ensures

pub returns-in-Err : goal.returns-in-Err
returns-in-Err c = end-past _ c.as_slice.result.now _ c.in-Some.pair _ _ _ c.args.spot.now.pair c.in-Some.is c.if-spot-gt0.false c.as_slice.ensures.value c.in-Err.ensures
