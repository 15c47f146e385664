-- The tiles counted so far.
use Rattle.std.proofs.Common.{◌≡◌, ◌≤◌, ◌*◌}
use Rattle.mj_readings.specs.Inner.Sums.{tiles_from}
use Rattle.mj_readings.proofs.sums.tiles_from.Given as goal

abbrev pub invariant-loop-place : goal.invariant-loop-place
invariant-loop-place l = record {
  counted : l.tiles ≡ tiles_from l.numbers l.from l.place;
  few : l.tiles ≤ 255 * l.place;
}
