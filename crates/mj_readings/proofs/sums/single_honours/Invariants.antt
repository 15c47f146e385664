-- The honours gone through.
use Rattle.std.proofs.Common.{◌≡◌, ◌≤◌}
use Rattle.mj_readings.specs.Inner.Sums.{single_honours}
use Rattle.mj_readings.proofs.sums.single_honours.Given as goal

abbrev pub invariant-loop-honour : goal.invariant-loop-honour
invariant-loop-honour l = record {
  counted : l.singles ≡ single_honours l.numbers l.honour;
  few : l.singles ≤ l.honour;
}
