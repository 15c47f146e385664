-- The kinds gone through.
use Rattle.std.proofs.Common.{◌≡◌, eqb, take}
use Rattle.std.specs.Prelude.{count_by}
use Rattle.mj_readings.proofs.completing_kinds.single_kinds.Given as goal

abbrev pub invariant-loop-number : goal.invariant-loop-number
invariant-loop-number l = record {
  many : l.many ≡ count_by (λ number. eqb number 1) (take l.number-index l.numbers);
}
