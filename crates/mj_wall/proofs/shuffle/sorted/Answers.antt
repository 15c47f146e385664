use Rattle.std.proofs.Common.{arith}
use Rattle.mj_wall.proofs.Shuffles.{all_sorted}
use Rattle.mj_wall.proofs.shuffle.sorted.Goals as goal

pub returns : goal.returns
returns c = all_sorted c.args.red c.loop-place.tiles c.loop-place.place (omega (arith, c.loop-place-test.false)) c.loop-place.invariant
