-- What is tried of the answers that a seat may give, and what of it is lawful.
use Rattle.std.specs.Prelude.{ℕ, ◌+◌, ◌==◌, ◌&&◌, Bool, false, not, nat_le, if◌then◌else◌, List, Option, Some, None, filter}
use Rattle.mj_tiles.specs.Faces.{kind_of}
use Rattle.mj_deeds.specs.declared.answer.Answer.{Answer}
use Rattle.mj_deeds.specs.declared.deed.Deed.{Deed}
use Rattle.mj_wall.specs.declared.setting.Rules.{Rules}
use Rattle.mj_rules.specs.View.{WindowTurn, Drew, Discarded, Added, Reached, Called, SeatView, view_of, held_count}
use Rattle.mj_rules.specs.Possible.{is_lawful}

-- The lawful ones among answers of a seat in the window on the newest deed.
unfoldable pub lawful_among : Rules → List Deed → ℕ → List Answer → List Answer
lawful_among rules deeds seat answers = filter (is_lawful rules seat (view_of deeds seat)) answers

-- The window is on a draw of the seat.
abbrev pub is_own_draw : ℕ → WindowTurn → Bool
is_own_draw seat (Drew who) = who == seat
is_own_draw seat other = false

-- In the window the seat may discard.
abbrev pub is_discarding : ℕ → WindowTurn → Bool
is_discarding seat (Drew who) = who == seat
is_discarding seat (Reached who) = who == seat
is_discarding seat (Called who banned) = who == seat
is_discarding seat other = false

-- The window is on a draw of the seat, or on a tile that another seat discarded or added to a kan.
abbrev pub is_winning : ℕ → WindowTurn → Bool
is_winning seat (Drew who) = who == seat
is_winning seat (Discarded who tile) = not (who == seat)
is_winning seat (Added who tile) = not (who == seat)
is_winning seat other = false

-- A seat may call a discard where a live tile is left and its hand isn't in riichi.
abbrev pub may_call : SeatView → Bool
may_call view = not (view.live == 0) && not view.accepted

-- The kinds of two tiles are at most two apart.
abbrev pub is_near : ℕ → ℕ → Bool
is_near tile a = nat_le (kind_of a) (kind_of tile + 2) && nat_le (kind_of tile) (kind_of a + 2)

-- The red five of a kind.
abbrev pub red_of : ℕ → Option ℕ
red_of kind = if kind == 4 then Some 34 else (if kind == 13 then Some 35 else (if kind == 22 then Some 36 else None))

-- How many of a red five are held, where a kind has one.
abbrev pub red_held : SeatView → Option ℕ → ℕ
red_held view None = 0
red_held view (Some red) = held_count view red

-- How many tiles of a kind are held, with its red five.
abbrev pub held_with : SeatView → ℕ → Option ℕ → ℕ
held_with view kind red = held_count view kind + red_held view red
