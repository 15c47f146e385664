-- A concealed kan of a seat in riichi.
use Rattle.std.specs.Prelude.{ℕ, ◌+◌, ◌-◌, ◌==◌, ◌&&◌, ◌||◌, Bool, true, false, not, nat_le, if◌then◌else◌, List, [], ◌∷◌, length, slice_index, slice_set}
use Rattle.std.specs.List.{list_any, list_all}
use Rattle.mj_tiles.specs.Counts.{all_kinds}
use Rattle.mj_tiles.specs.declared.meld.Meld.{Meld}
use Rattle.mj_readings.specs.declared.reading.Set.{Set}
use Rattle.mj_readings.specs.declared.reading.SetForm.{SetForm}
use Rattle.mj_readings.specs.declared.reading.SetForm.TheVariants.{Triplet}
use Rattle.mj_readings.specs.declared.reading.Reading.{Reading}
use Rattle.mj_readings.specs.declared.reading.Reading.TheVariants.{Standard}
use Rattle.mj_readings.specs.Tests.{one_more}
use Rattle.mj_readings.specs.AllReadings.{readings_of}
use Rattle.mj_waits.specs.Waits.{is_wait}

-- The numbers with so many tiles fewer of a kind.
abbrev pub fewer : List ℕ → ℕ → ℕ → List ℕ
fewer numbers kind count = slice_set numbers kind (slice_index numbers kind - count)

-- A set of concealed tiles that is a triplet of the kind.
abbrev pub is_triplet : SetForm → Bool
is_triplet Triplet = true
is_triplet other = false

abbrev pub is_own_triplet : ℕ → Set → Bool
is_own_triplet kind set = is_triplet set.form && set.low == kind && not set.shown

-- Three tiles of the kind are a triplet in the reading.
abbrev pub has_own_triplet : ℕ → Reading → Bool
has_own_triplet kind (Standard a b c d pair win winning) = list_any (is_own_triplet kind) (a ∷ b ∷ c ∷ d ∷ [])
has_own_triplet kind other = false

-- Two tests have the same answer.
abbrev pub is_same : Bool → Bool → Bool
is_same a b = if a then b else not b

-- The kan leaves a wait what it was: the kind is a wait after it exactly where it was one before.
abbrev pub keeps_wait : List ℕ → List ℕ → ℕ → ℕ → ℕ → Bool
keeps_wait counts room melds kind wait =
    is_same (is_wait counts room melds wait) (is_wait (fewer counts kind 3) (fewer room kind 4) (melds + 1) wait)

-- Where the kind is a wait, the three tiles are a triplet in every reading of the hand that it completes.
abbrev pub reads_as_triplet : List ℕ → List ℕ → List Meld → ℕ → ℕ → Bool
reads_as_triplet counts room melds kind wait =
    not (is_wait counts room (length melds) wait) || list_all (has_own_triplet kind) (readings_of (one_more counts wait) melds wait)

-- A seat in riichi may make a concealed kan of the kind that it drew, of which it held three, where its waits stay the same
-- and in every reading of every hand that it waited for these three are a triplet.
unfoldable pub is_riichi_kan : List ℕ → List ℕ → List Meld → ℕ → ℕ → Bool
is_riichi_kan counts room melds drawn kind =
    kind == drawn && nat_le 3 (slice_index counts kind)
    && list_all (keeps_wait counts room (length melds) kind) all_kinds
    && list_all (reads_as_triplet counts room melds kind) all_kinds
