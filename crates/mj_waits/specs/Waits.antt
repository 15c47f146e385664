-- The waits of a hand.
use Rattle.std.specs.Prelude.{ℕ, ◌<◌, Bool, nat_lt, ◌&&◌, List, slice_index}
use Rattle.std.specs.List.{list_any}
use Rattle.mj_tiles.specs.Counts.{all_kinds}
use Rattle.mj_readings.specs.Complete.{IsComplete}
use Rattle.mj_readings.specs.Tests.{complete, one_more}

-- A kind is a wait where the hand has fewer of it than the room that its melds leave of the four, and the hand with one
-- more of it is complete.
abbrev pub IsWait : List ℕ → List ℕ → ℕ → ℕ → Type 0
IsWait counts room melds kind = (slice_index counts kind < slice_index room kind) × IsComplete (one_more counts kind) melds

-- The test whether a kind is a wait.
abbrev pub is_wait : List ℕ → List ℕ → ℕ → ℕ → Bool
is_wait counts room melds kind = nat_lt (slice_index counts kind) (slice_index room kind) && complete (one_more counts kind) melds

-- A hand is ready where some kind is a wait.
unfoldable pub is_ready : List ℕ → List ℕ → ℕ → Bool
is_ready counts room melds = list_any (is_wait counts room melds) all_kinds
