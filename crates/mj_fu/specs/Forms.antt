-- What the sets of a hand are to its worth: runs, triplets and kans, concealed or not, and pinfu.
use Rattle.std.specs.Prelude.{ℕ, ◌+◌, ◌%◌, ◌==◌, Bool, true, false, nat_le, not, ◌&&◌, ◌||◌, List, [], ◌∷◌, slice_get}
use Rattle.std.specs.List.{list_all}
use Rattle.std.specs.Option.{option_map_or}
use Rattle.mj_readings.specs.declared.reading.Set.{Set}
use Rattle.mj_readings.specs.declared.reading.SetForm.{SetForm}
use Rattle.mj_readings.specs.declared.reading.SetForm.TheVariants.{Run, Triplet, Kan}
use Rattle.mj_readings.specs.declared.reading.Case.{Case}
use Rattle.mj_readings.specs.declared.reading.Reading.{Reading}
use Rattle.mj_readings.specs.declared.reading.Reading.TheVariants.{Standard, Pairs, Orphans}

-- The dragons are P, F and C.
abbrev pub is_dragon : ℕ → Bool
is_dragon kind = nat_le 31 kind

abbrev pub is_run_form : SetForm → Bool
is_run_form Run = true
is_run_form Triplet = false
is_run_form Kan = false

-- The set is a run, and no triplet or kan.
abbrev pub is_run : Set → Bool
is_run set = is_run_form set.form

abbrev pub is_triplet_form : SetForm → Bool
is_triplet_form Run = false
is_triplet_form Triplet = true
is_triplet_form Kan = false

-- The set at this place is concealed: it isn't shown, and it isn't a triplet that the winning tile of a ron completed.
abbrev pub is_concealed_at : ℕ → ℕ → Case → Set → Bool
is_concealed_at place win case set =
    not set.shown && not (is_triplet_form set.form && place == win && not case.by_draw)

-- A pair of a dragon, of the seat wind or of the round wind has value.
abbrev pub has_value : Case → ℕ → Bool
has_value case pair = is_dragon pair || pair == case.seat_wind || pair == case.round_wind

-- The run waited on both sides: the winning tile is its low end, and the run isn't 789, or its high end, and it isn't 123.
abbrev pub is_two_sided : ℕ → ℕ → Bool
is_two_sided low winning =
    (winning == low && not (low % 9 == 6)) || (winning == low + 2 && not (low % 9 == 0))

-- Pinfu: four runs, a pair without value, and a wait on both sides.
abbrev pub is_pinfu_of : List Set → ℕ → ℕ → ℕ → Case → Bool
is_pinfu_of sets pair win winning case =
    list_all is_run sets && not (has_value case pair)
    && option_map_or (λ set. is_two_sided set.low winning) (slice_get sets win) false

-- The reading is a pinfu: a closed hand of four sets and a pair of that form.
unfoldable pub is_pinfu : Reading → Case → Bool
is_pinfu (Standard a b c d pair win winning) case =
    case.closed && is_pinfu_of (a ∷ b ∷ c ∷ d ∷ []) pair win winning case
is_pinfu (Pairs kinds) case = false
is_pinfu (Orphans double) case = false
