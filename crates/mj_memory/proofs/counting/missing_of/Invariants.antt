-- What is counted so far, and what is still to count, is the whole.
use Rattle.std.proofs.Common.{◌≡◌, ◌+◌, ◌*◌, ◌≤◌, drop}
use Rattle.mj_suits.specs.Targets.{missing}
use Rattle.mj_memory.proofs.counting.missing_of.Given as goal

abbrev pub invariant-loop-n : goal.invariant-loop-n
invariant-loop-n l = record {
  counted : l.number + missing (drop l.n l.target) (drop l.n l.numbers) ≡ missing l.target l.numbers;
  few : l.number ≤ 255 * l.n;
}
