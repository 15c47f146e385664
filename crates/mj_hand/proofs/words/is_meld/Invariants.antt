-- No meld begins below.
use Rattle.std.proofs.Common.{ℕ, ◌≡◌, ◌<◌, false}
use Rattle.mj_hand.specs.Words.{make_meld_from}
use Rattle.mj_hand.proofs.words.is_meld.Given as goal

abbrev pub invariant-loop-low : goal.invariant-loop-low
invariant-loop-low l = (k : ℕ) → k < l.low → make_meld_from l.tiles k ≡ false
