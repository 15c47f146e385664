-- The sum of the numbers gone through.
use Rattle.std.proofs.Common.{◌≡◌, ◌*◌, ◌≤◌, sum, take}
use Rattle.mj_page.proofs.hand.total.Given as goal

abbrev pub invariant-loop-number : goal.invariant-loop-number
invariant-loop-number l = record {
  counted : l.total ≡ sum (take l.number-index l.counts);
  few : l.total ≤ 255 * l.number-index;
}
