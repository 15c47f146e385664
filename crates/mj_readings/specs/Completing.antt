-- The kinds that complete a hand.
use Rattle.std.specs.Prelude.{ℕ, ◌<◌, Bool, nat_lt, ◌&&◌, List, slice_index}
use Rattle.mj_readings.specs.Complete.{IsComplete}
use Rattle.mj_readings.specs.Tests.{complete, one_more}

-- A kind of which fewer than four tiles are held, and one tile more of which completes the hand.
abbrev pub IsCompleting : List ℕ → ℕ → ℕ → Type 0
IsCompleting counts melds kind = (slice_index counts kind < 4) × IsComplete (one_more counts kind) melds

-- The test whether a kind completes a hand that holds fewer than four tiles of it.
abbrev pub is_completing : List ℕ → ℕ → ℕ → Bool
is_completing counts melds kind = nat_lt (slice_index counts kind) 4 && complete (one_more counts kind) melds
