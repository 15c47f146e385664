-- The readings of a complete hand.
use Rattle.std.specs.Prelude.{ℕ, ◌≡◌, ◌≢◌, ◌≤◌, ◌-◌, ◌==◌, Bool, true, false, not, ◌&&◌, ◌||◌, List, [], ◌∷◌, length, take, drop, map, slice_get, slice_index, All, AllPairs, Contains, IsTrue}
use Rattle.std.specs.List.{list_all, list_any}
use Rattle.std.specs.Option.{option_map_or}
use Rattle.mj_tiles.specs.Kinds.{kinds_that}
use Rattle.mj_tiles.specs.declared.meld.Meld.{Meld}
use Rattle.mj_readings.specs.declared.reading.Set.{Set}
use Rattle.mj_readings.specs.declared.reading.Reading.{Reading}
use Rattle.mj_readings.specs.declared.reading.Reading.TheVariants.{Standard, Pairs, Orphans}
use Rattle.mj_readings.specs.Sets.{tiles_of_set, place_of, in_order, set_of_meld}
use Rattle.mj_readings.specs.Complete.{AreSetsAndPair, is_seven_pairs, AreOrphans}

-- The set has a tile of the kind.
abbrev pub set_has : ℕ → Set → Bool
set_has kind set = list_any (λ tile. tile == kind) (tiles_of_set set)

-- No set before this place equals the one that stands there.
abbrev pub has_no_equal_before : List Set → ℕ → Set → Bool
has_no_equal_before sets place set = list_all (λ other. not (place_of other == place_of set)) (take place sets)

-- The winning tile is in the pair, 4, or in the set of concealed tiles at this place, of equal ones in the first.
unfoldable pub names_winning : List Set → ℕ → ℕ → ℕ → Bool
names_winning sets pair winning win =
    (win == 4 && pair == winning)
    || option_map_or (λ set. set_has winning set && has_no_equal_before sets win set) (slice_get sets win) false

-- Four sets, those of the concealed tiles in order and then the melds, and a pair, with the place of the winning tile.
pub record IsStandard (counts : List ℕ) (melds : List Meld) (winning : ℕ) (sets : List Set) (pair win kind : ℕ) : Type 0 where
  pub few : length melds ≤ 4
  pub melds_last : drop (4 - length melds) sets ≡ map set_of_meld melds
  pub split : AreSetsAndPair counts (4 - length melds) (take (4 - length melds) sets) pair
  pub order : in_order (take (4 - length melds) sets) ≡ true
  pub win_place : names_winning (take (4 - length melds) sets) pair winning win ≡ true
  pub winning_kind : kind ≡ winning

-- A reading of a hand: standard, or without melds as seven pairs or as thirteen orphans.
abbrev pub IsReading : List ℕ → List Meld → ℕ → Reading → Type 0
IsReading counts melds winning (Standard a b c d pair win kind) =
    IsStandard counts melds winning (a ∷ b ∷ c ∷ d ∷ []) pair win kind
IsReading counts melds winning (Pairs kinds) =
    (melds ≡ []) × IsTrue (is_seven_pairs counts) × (kinds ≡ kinds_that (λ kind. slice_index counts kind == 2))
IsReading counts melds winning (Orphans double) = (melds ≡ []) × AreOrphans counts double

-- All readings of a hand, no others, and each once.
pub record AreReadings (counts : List ℕ) (melds : List Meld) (winning : ℕ) (readings : List Reading) : Type 0 where
  pub each : All (IsReading counts melds winning) readings
  pub all : (reading : Reading) → IsReading counts melds winning reading → Contains readings reading
  pub once : AllPairs (λ one other. one ≢ other) readings
