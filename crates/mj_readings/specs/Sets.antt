-- The sets of a hand by kind: runs, triplets and kans, their tiles and their order.
use Rattle.std.specs.Prelude.{ℕ, ◌+◌, ◌*◌, ◌%◌, ◌==◌, Bool, true, false, nat_lt, nat_le, not, ◌&&◌, List, [], ◌∷◌, count_by, map}
use Rattle.std.specs.List.{list_all}
use Rattle.mj_tiles.specs.Faces.{kind_of}
use Rattle.mj_tiles.specs.Counts.{all_kinds}
use Rattle.mj_tiles.specs.declared.meld.Meld.{Meld}
use Rattle.mj_tiles.specs.declared.meld.Form.{Form}
use Rattle.mj_tiles.specs.declared.meld.Form.TheVariants.{Chi, Pon, OpenKan, ClosedKan, AddedKan}
use Rattle.mj_readings.specs.declared.reading.Set.{Set}
use Rattle.mj_readings.specs.declared.reading.SetForm.{SetForm}
use Rattle.mj_readings.specs.declared.reading.SetForm.TheVariants.{Run, Triplet, Kan}

-- A run is three neighbouring kinds of one suit, so its lowest tile is a number from one to seven.
unfoldable pub begins_run : ℕ → Bool
begins_run kind = nat_lt kind 27 && nat_lt (kind % 9) 7

-- The kinds of the tiles of a set.
abbrev pub tiles_of_form : SetForm → ℕ → List ℕ
tiles_of_form Run low = low ∷ (low + 1) ∷ (low + 2) ∷ []
tiles_of_form Triplet low = low ∷ low ∷ low ∷ []
tiles_of_form Kan low = low ∷ low ∷ low ∷ low ∷ []

abbrev pub tiles_of_set : Set → List ℕ
tiles_of_set set = tiles_of_form set.form set.low

-- Concealed tiles make runs and triplets, and no kans.
abbrev pub is_concealed_form : SetForm → ℕ → Bool
is_concealed_form Run low = begins_run low
is_concealed_form Triplet low = nat_lt low 34
is_concealed_form Kan low = false

-- A set of concealed tiles.
abbrev pub is_concealed : Set → Bool
is_concealed set = not set.shown && is_concealed_form set.form set.low

-- Sets of concealed tiles stand by their lowest kinds, a run before a triplet; two at one place are equal.
abbrev pub place_of_form : SetForm → ℕ → ℕ
place_of_form Run low = 2 * low
place_of_form Triplet low = 2 * low + 1
place_of_form Kan low = 2 * low + 1

abbrev pub place_of : Set → ℕ
place_of set = place_of_form set.form set.low

-- Each set stands at the place of every later one or before it.
unfoldable pub in_order : List Set → Bool
in_order [] = true
in_order (set ∷ others) = list_all (λ other. nat_le (place_of set) (place_of other)) others && in_order others

-- For each of the 34 kinds how often it stands in a list of kinds.
unfoldable pub tally : List ℕ → List ℕ
tally kinds = map (λ kind. count_by (λ other. other == kind) kinds) all_kinds

-- The set that a meld is: its lowest kind is that of its first tile, and all but a concealed kan are shown.
abbrev pub set_of_form : Form → ℕ → Set
set_of_form Chi low = record { form = Run; low = low; shown = true }
set_of_form Pon low = record { form = Triplet; low = low; shown = true }
set_of_form OpenKan low = record { form = Kan; low = low; shown = true }
set_of_form ClosedKan low = record { form = Kan; low = low; shown = false }
set_of_form AddedKan low = record { form = Kan; low = low; shown = true }

abbrev pub set_of_meld : Meld → Set
set_of_meld meld = set_of_form meld.form (kind_of meld.a)
