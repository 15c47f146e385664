-- Complete hands.
use Rattle.std.specs.Prelude.{ℕ, ◌≡◌, ◌<◌, ◌≤◌, ◌-◌, ◌==◌, ◌⊎◌, Bool, true, ◌&&◌, ◌||◌, if◌then◌else◌, List, [], ◌∷◌, ◌++◌, length, count_by, flat_map, map, IsTrue}
use Rattle.std.specs.List.{list_all}
use Rattle.mj_tiles.specs.Counts.{all_kinds}
use Rattle.mj_tiles.specs.Terminals.{is_terminal_or_honour}
use Rattle.mj_readings.specs.declared.reading.Set.{Set}
use Rattle.mj_readings.specs.Sets.{is_concealed, tiles_of_set, tally}

-- So many sets of concealed tiles and a pair that together have exactly these counts.
pub record AreSetsAndPair (counts : List ℕ) (number : ℕ) (sets : List Set) (pair : ℕ) : Type 0 where
  pub so_many : length sets ≡ number
  pub concealed : list_all is_concealed sets ≡ true
  pub pair_kind : pair < 34
  pub tiles : tally (flat_map tiles_of_set sets ++ pair ∷ pair ∷ []) ≡ counts

-- Seven different kinds, two tiles of each.
unfoldable pub is_seven_pairs : List ℕ → Bool
is_seven_pairs counts = list_all (λ number. number == 0 || number == 2) counts && count_by (λ number. number == 2) counts == 7

-- How often a kind stands in thirteen orphans with this kind twice: each terminal and honour once, and no other kind.
abbrev pub orphan_number : ℕ → ℕ → ℕ
orphan_number double kind = if is_terminal_or_honour kind then (if kind == double then 2 else 1) else 0

-- Thirteen orphans with this kind, a terminal or an honour, twice.
pub record AreOrphans (counts : List ℕ) (double : ℕ) : Type 0 where
  pub kind : double < 34
  pub orphan : is_terminal_or_honour double ≡ true
  pub tiles : counts ≡ map (orphan_number double) all_kinds

-- A hand of these concealed tiles and so many melds is complete as four sets and a pair, where each meld is a set, or
-- without melds as seven pairs or as thirteen orphans.
abbrev pub IsComplete : List ℕ → ℕ → Type 0
IsComplete counts melds =
    ((melds ≤ 4) × ((sets : List Set) × (pair : ℕ) × AreSetsAndPair counts (4 - melds) sets pair))
    ⊎ (((melds ≡ 0) × IsTrue (is_seven_pairs counts))
    ⊎ ((melds ≡ 0) × ((double : ℕ) × AreOrphans counts double)))
