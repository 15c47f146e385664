-- All tiles of a hand as it is read, and its sets and pair where it has four sets and a pair.
use Rattle.std.specs.Prelude.{ℕ, ◌==◌, Bool, true, false, not, ◌&&◌, List, [], ◌∷◌, ◌++◌, filter, flat_map, replicate}
use Rattle.std.specs.List.{list_all, list_any}
use Rattle.mj_tiles.specs.Counts.{all_kinds}
use Rattle.mj_tiles.specs.Kinds.{has_kind}
use Rattle.mj_tiles.specs.declared.meld.Meld.{Meld}
use Rattle.mj_tiles.specs.declared.meld.Form.{Form}
use Rattle.mj_tiles.specs.declared.meld.Form.TheVariants.{Chi, Pon, OpenKan, ClosedKan, AddedKan}
use Rattle.mj_readings.specs.declared.reading.Set.{Set}
use Rattle.mj_readings.specs.declared.reading.Reading.{Reading}
use Rattle.mj_readings.specs.declared.reading.Reading.TheVariants.{Standard, Pairs, Orphans}
use Rattle.mj_readings.specs.Sets.{tiles_of_set}
use Rattle.mj_readings.specs.Complete.{orphan_number}
use Rattle.mj_fu.specs.Forms.{is_run}

-- A concealed kan.
abbrev pub is_closed_kan : Form → Bool
is_closed_kan Chi = false
is_closed_kan Pon = false
is_closed_kan OpenKan = false
is_closed_kan ClosedKan = true
is_closed_kan AddedKan = false

-- A hand is closed where its melds are concealed kans alone.
abbrev pub are_concealed : List Meld → Bool
are_concealed melds = list_all (λ meld. is_closed_kan meld.form) melds

-- The kinds of all tiles of a hand, each as often as it stands there: those of the sets and the pair, of the seven
-- pairs, or of the thirteen orphans.
unfoldable pub tiles_of : Reading → List ℕ
tiles_of (Standard a b c d pair win winning) =
    tiles_of_set a ++ tiles_of_set b ++ tiles_of_set c ++ tiles_of_set d ++ pair ∷ pair ∷ []
tiles_of (Pairs kinds) = flat_map (λ kind. kind ∷ kind ∷ []) (filter (has_kind kinds) all_kinds)
tiles_of (Orphans double) = flat_map (λ kind. replicate (orphan_number double kind) kind) all_kinds

-- Whether the hand has four sets and a pair for which this holds.
abbrev pub in_standard : (List Set → ℕ → Bool) → Reading → Bool
in_standard test (Standard a b c d pair win winning) = test (a ∷ b ∷ c ∷ d ∷ []) pair
in_standard test (Pairs kinds) = false
in_standard test (Orphans double) = false

abbrev pub is_pairs : Reading → Bool
is_pairs (Standard a b c d pair win winning) = false
is_pairs (Pairs kinds) = true
is_pairs (Orphans double) = false

-- A triplet or kan of the kind.
abbrev pub has_triple : ℕ → List Set → Bool
has_triple kind sets = list_any (λ set. not (is_run set) && set.low == kind) sets

-- A run with this low tile.
abbrev pub has_run : ℕ → List Set → Bool
has_run low sets = list_any (λ set. is_run set && set.low == low) sets

-- The three suits by their lowest kinds, and the numbers of a suit by their distance from the one.
abbrev pub suits : List ℕ
suits = 0 ∷ 9 ∷ 18 ∷ []

abbrev pub numbers : List ℕ
numbers = 0 ∷ 1 ∷ 2 ∷ 3 ∷ 4 ∷ 5 ∷ 6 ∷ 7 ∷ 8 ∷ []
