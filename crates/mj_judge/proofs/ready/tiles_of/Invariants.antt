use Rattle.std.proofs.Common.{◌≡◌, ◌≤◌, ◌*◌, take, sum}
use Rattle.mj_judge.proofs.ready.tiles_of.Given as goal

abbrev pub invariant-loop-number : goal.invariant-loop-number
invariant-loop-number l = (l.tiles ≡ sum (take l.number-index l.number-items)) × (l.tiles ≤ 255 * l.number-index)
