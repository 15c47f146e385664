-- The answer that stands for a seat which gives none.
use Rattle.std.specs.Prelude.{ℕ, ◌-◌, ◌==◌, ◌||◌, Bool, true, not, nat_lt, if◌then◌else◌, List, length, Option, None, is_none, option_map, unwrap_or, slice_get, filter}
use Rattle.mj_tiles.specs.Faces.{tile_order}
use Rattle.mj_wall.specs.declared.setting.Rules.{Rules}
use Rattle.mj_deeds.specs.declared.answer.Pai.TheVariants.{Known}
use Rattle.mj_deeds.specs.declared.answer.Answer.{Answer}
use Rattle.mj_deeds.specs.declared.answer.Answer.TheVariants.{Pass, Discard}
use Rattle.mj_deeds.specs.declared.deed.Deed.{Deed}
use Rattle.mj_rules.specs.Broken.{is_that, broken_by}
use Rattle.mj_rules.specs.View.{SeatView, view_of, WindowTurn, Drew, Reached, Called}

-- The discard of a tile of a face, marked as drawn exactly where the drawn tile has that face.
abbrev pub discard_of : ℕ → SeatView → ℕ → Answer
discard_of seat view face = Discard seat (Known face) (is_that view.drawn face)

-- The faces whose discard breaks no rule, in tile order.
unfoldable pub lawful_faces : Rules → ℕ → SeatView → List ℕ
lawful_faces rules seat view = filter (λ face. is_none (broken_by rules seat view (discard_of seat view face))) tile_order

-- The last of a list.
abbrev pub last_face : List ℕ → Option ℕ
last_face faces = slice_get faces (length faces - 1)

-- The discard of a face, or a pass where there is none.
abbrev pub discard_or_pass : ℕ → SeatView → Option ℕ → Answer
discard_or_pass seat view face = unwrap_or (option_map (discard_of seat view) face) (Pass None)

-- At its own draw the drawn tile; right after its own reach or call the last face in tile order whose discard breaks no rule;
-- else a pass.
abbrev pub default_in : Rules → ℕ → SeatView → WindowTurn → Answer
default_in rules seat view (Drew who) = if who == seat then discard_or_pass seat view view.drawn else Pass None
default_in rules seat view (Reached who) = if who == seat then discard_or_pass seat view (last_face (lawful_faces rules seat view)) else Pass None
default_in rules seat view (Called who banned) = if who == seat then discard_or_pass seat view (last_face (lawful_faces rules seat view)) else Pass None
default_in rules seat view other = Pass None

unfoldable pub default_by : Rules → ℕ → SeatView → Answer
default_by rules seat view = default_in rules seat view view.turn

-- The default answer of a seat in the window on the newest deed.
abbrev pub default_answer : Rules → List Deed → ℕ → Answer
default_answer rules deeds seat = default_by rules seat (view_of deeds seat)

-- Where a seat has to discard right after its own reach or call, some discard breaks no rule.
abbrev pub can_discard_in : Rules → ℕ → SeatView → WindowTurn → Bool
can_discard_in rules seat view (Reached who) = not (who == seat) || nat_lt 0 (length (lawful_faces rules seat view))
can_discard_in rules seat view (Called who banned) = not (who == seat) || nat_lt 0 (length (lawful_faces rules seat view))
can_discard_in rules seat view other = true

abbrev pub can_discard : Rules → List Deed → ℕ → Bool
can_discard rules deeds seat = can_discard_in rules seat (view_of deeds seat) (view_of deeds seat).turn
