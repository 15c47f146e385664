-- The sum of the numbers gone through.
use Rattle.std.proofs.Common.{◌≡◌, ◌*◌, ◌≤◌, sum, take}
use Rattle.hand_tests.proofs.shanten.tiles_among.Given as goal

abbrev pub invariant-loop-number : goal.invariant-loop-number
invariant-loop-number l = record {
  counted : l.total ≡ sum (take l.number-index l.numbers);
  few : l.total ≤ 255 * l.number-index;
}
