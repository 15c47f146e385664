-- Whose turn it is to discard, and of which kinds.
use Rattle.std.specs.Prelude.{ℕ, ◌≡◌, ◌==◌, ◌&&◌, Bool, false, not, length}
use Rattle.std.specs.List.{list_any}
use Rattle.mj_tiles.specs.Faces.{kind_of}
use Rattle.mj_tiles.specs.Kinds.{has_kind}
use Rattle.mj_tiles.specs.Counts.{kind_counts}
use Rattle.mj_readings.specs.Tests.{complete}
use Rattle.mj_rules.specs.Broken.{is_ready_without, won_tiles}
use Rattle.mj_rules.specs.View.{SeatView, WindowTurn, Drew, Discarded, Added, Reached, Called, Nobodys, concealed}

-- The seat has drawn, or has to discard after its own reach or call.
abbrev pub is_own_turn : ℕ → WindowTurn → Bool
is_own_turn seat (Drew who) = who == seat
is_own_turn seat (Reached who) = who == seat
is_own_turn seat (Called who banned) = who == seat
is_own_turn seat other = false

-- The seat has drawn.
abbrev pub is_own_draw : ℕ → WindowTurn → Bool
is_own_draw seat (Drew who) = who == seat
is_own_draw seat other = false

-- Another answer than a pass is open to it.
abbrev pub has_say : ℕ → WindowTurn → Bool
has_say seat (Drew who) = who == seat
has_say seat (Discarded who tile) = not (who == seat)
has_say seat (Added who tile) = not (who == seat)
has_say seat (Reached who) = who == seat
has_say seat (Called who banned) = who == seat
has_say seat Nobodys = false

-- It has drawn and isn't in riichi: each tile that it holds may go.
abbrev pub is_free : Bool → ℕ → WindowTurn → Bool
is_free accepted seat turn = not accepted && is_own_draw seat turn

-- The face is of one of these kinds.
abbrev pub is_among : ℕ → ℕ → Bool
is_among kinds face = has_kind kinds (kind_of face)

-- No discard leaves the hand ready.
abbrev pub IsNeverReady : SeatView → Type 0
IsNeverReady view = list_any (is_ready_without view) (concealed view) ≡ false

-- The tiles that a win would be with aren't complete.
abbrev pub IsIncomplete : SeatView → Type 0
IsIncomplete view = complete (kind_counts (won_tiles view)) (length view.melds) ≡ false
