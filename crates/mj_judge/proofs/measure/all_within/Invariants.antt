use Rattle.std.proofs.Common.{◌≡◌, ◌<◌, ℕ, true, map}
use Rattle.mj_readings.specs.Sets.{set_of_meld}
use Rattle.mj_judge.specs.Measured.{is_kind_within}
use Rattle.mj_judge.proofs.measure.all_within.Given as goal

abbrev pub invariant-loop-number : goal.invariant-loop-number
invariant-loop-number l = (k : ℕ) → k < l.number → is_kind_within l.counts l.room (map set_of_meld l.melds) k ≡ true
