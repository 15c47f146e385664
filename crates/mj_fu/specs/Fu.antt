-- Fu, the lesser measure of what a hand is worth.
use Rattle.std.specs.Prelude.{ℕ, ◌+◌, ◌*◌, ◌/◌, ◌%◌, ◌==◌, Bool, true, false, not, ◌&&◌, ◌||◌, if◌then◌else◌, List, [], ◌∷◌, slice_get}
use Rattle.std.specs.Option.{option_map_or}
use Rattle.mj_tiles.specs.Terminals.{is_terminal_or_honour}
use Rattle.mj_readings.specs.declared.reading.Set.{Set}
use Rattle.mj_readings.specs.declared.reading.SetForm.{SetForm}
use Rattle.mj_readings.specs.declared.reading.SetForm.TheVariants.{Run, Triplet, Kan}
use Rattle.mj_readings.specs.declared.reading.Case.{Case}
use Rattle.mj_readings.specs.declared.reading.Reading.{Reading}
use Rattle.mj_readings.specs.declared.reading.Reading.TheVariants.{Standard, Pairs, Orphans}
use Rattle.mj_fu.specs.Forms.{is_dragon, is_run, is_concealed_at, is_pinfu}

-- A triplet has 2 fu, a kan 8, a run none.
abbrev pub form_fu : SetForm → ℕ
form_fu Run = 0
form_fu Triplet = 2
form_fu Kan = 8

-- A concealed set counts twice, and one of terminals or honours twice again.
unfoldable pub set_fu : Bool → Set → ℕ
set_fu concealed set = form_fu set.form * (if concealed then 2 else 1) * (if is_terminal_or_honour set.low then 2 else 1)

-- The fu of the set at this place.
abbrev pub set_fu_at : ℕ → ℕ → Case → Set → ℕ
set_fu_at place win case set = set_fu (is_concealed_at place win case set) set

-- A pair has 2 fu as a dragon, 2 as the seat wind and 2 as the round wind.
unfoldable pub pair_fu : ℕ → Case → ℕ
pair_fu pair case =
    (if is_dragon pair then 2 else 0) + (if pair == case.seat_wind then 2 else 0)
    + (if pair == case.round_wind then 2 else 0)

-- The winning tile is the middle of the run, the 3 of 123 or the 7 of 789.
abbrev pub is_one_sided : ℕ → ℕ → Bool
is_one_sided low winning =
    winning == low + 1 || (winning == low + 2 && low % 9 == 0) || (winning == low && low % 9 == 6)

-- A wait for one kind alone has 2 fu: for the pair, the middle of a run, the 3 of 123 or the 7 of 789.
unfoldable pub wait_fu : List Set → ℕ → ℕ → ℕ
wait_fu sets win winning =
    if win == 4 || option_map_or (λ set. is_run set && is_one_sided set.low winning) (slice_get sets win) false
    then 2 else 0

-- A drawn win has 2 fu, and a ron 10 with a closed hand.
unfoldable pub win_fu : Case → ℕ
win_fu case = if case.by_draw then 2 else (if case.closed then 10 else 0)

-- Fu are rounded up to tens.
unfoldable pub to_tens : ℕ → ℕ
to_tens sum = (sum + 9) / 10 * 10

-- The parts of four sets and a pair together, with 20 for any hand.
unfoldable pub sum_of_parts : Set → Set → Set → Set → ℕ → ℕ → ℕ → Case → ℕ
sum_of_parts a b c d pair win winning case =
    20 + win_fu case
    + (set_fu_at 0 win case a + set_fu_at 1 win case b + set_fu_at 2 win case c + set_fu_at 3 win case d)
    + pair_fu pair case + wait_fu (a ∷ b ∷ c ∷ d ∷ []) win winning

-- An open hand won by ron with no more than the 20 fu of any hand has 30.
unfoldable pub rounded : ℕ → Case → ℕ
rounded sum case = if sum == 20 && not case.closed && not case.by_draw then 30 else to_tens sum

-- The fu of a reading: seven pairs have 25, thirteen orphans none, a drawn pinfu 20, and others the sum of their parts.
unfoldable pub fu_of : Reading → Case → ℕ
fu_of (Standard a b c d pair win winning) case =
    if is_pinfu (Standard a b c d pair win winning) case && case.by_draw then 20
    else rounded (sum_of_parts a b c d pair win winning case) case
fu_of (Pairs kinds) case = 25
fu_of (Orphans double) case = 0

-- Thirteen orphans.
abbrev pub is_orphans : Reading → Bool
is_orphans (Standard a b c d pair win winning) = false
is_orphans (Pairs kinds) = false
is_orphans (Orphans double) = true
