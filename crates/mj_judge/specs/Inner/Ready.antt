-- Whether a hand is ready once a tile is discarded, by the counts of its kinds.
use Rattle.std.specs.Prelude.{ℕ, ◌&&◌, Bool, nat_lt, List, slice_index}
use Rattle.mj_waits.specs.Waits.{is_ready}
use Rattle.mj_calls.specs.RiichiKans.{fewer}

-- A tile of the kind is held, and the hand with one fewer is ready.
abbrev pub leaves_ready : List ℕ → List ℕ → ℕ → ℕ → Bool
leaves_ready counts room melds kind = nat_lt 0 (slice_index counts kind) && is_ready (fewer counts kind 1) room melds
