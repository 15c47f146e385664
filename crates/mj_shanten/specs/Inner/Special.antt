-- Seven pairs and thirteen orphans with two numbers more, and the choice of the pairs.
use Rattle.std.specs.Prelude.{ℕ, ◌≡◌, ◌-◌, ◌<◌, ◌≤◌, ◌==◌, ◌⊎◌, true, nat_le, nat_lt, if◌then◌else◌, List, [], ◌∷◌, length, map, count_by, slice_index, IsTrue}
use Rattle.mj_tiles.specs.Counts.{all_kinds}
use Rattle.mj_tiles.specs.Terminals.{is_terminal_or_honour}
use Rattle.mj_readings.specs.Complete.{is_seven_pairs, orphan_number, AreOrphans}
use Rattle.mj_suits.specs.Targets.{missing}
use Rattle.mj_shanten.specs.Suits.{with_two, Padded}

-- seven pairs of the 34 kinds
pub record IsPairs (counts : List ℕ) : Type 0 where
  pub size : length counts ≡ 34
  pub seven : IsTrue (is_seven_pairs counts)

-- thirteen orphans with some kind twice
pub record IsOrphans (counts : List ℕ) : Type 0 where
  pub double : ℕ
  pub are : AreOrphans counts double

-- a terminal or an honour that is held twice
pub record IsHeldTwice (held : List ℕ) (kind : ℕ) : Type 0 where
  pub kind_is : kind < 34
  pub orphan : is_terminal_or_honour kind ≡ true
  pub twice : 2 ≤ slice_index held kind

-- thirteen orphans with this kind twice, where it is a terminal or an honour
pub record IsOrphansWith (double : ℕ) (numbers : List ℕ) : Type 0 where
  pub orphan : is_terminal_or_honour double ≡ true
  pub numbers_are : numbers ≡ with_two (map (orphan_number double) all_kinds)

-- thirteen orphans with a kind below this one twice
pub record IsOrphansBelow (kind : ℕ) (numbers : List ℕ) : Type 0 where
  pub double : ℕ
  pub below : nat_lt double kind ≡ true
  pub are : IsOrphansWith double numbers

-- without melds seven pairs and thirteen orphans are complete too
pub record IsSpecial (melds : ℕ) (numbers : List ℕ) : Type 0 where
  pub no_melds : melds ≡ 0
  pub either : Padded IsPairs numbers ⊎ Padded IsOrphans numbers

-- how many numbers are so large or larger
abbrev pub so_often : ℕ → List ℕ → ℕ
so_often times numbers = count_by (λ number. nat_le times number) numbers

-- how many later kinds go before a kind that is held so often, where so many later ones are held twice, and so many once
abbrev pub better : ℕ → ℕ → ℕ → ℕ
better number twice once = if nat_le 2 number then 0 else (if number == 1 then twice else once)

-- the nearest pairs, so many: a kind is taken where more pairs are still to come than later kinds go before it
abbrev pub nearest_pairs : List ℕ → ℕ → List ℕ
nearest_pairs [] left = []
nearest_pairs (number ∷ numbers) left =
    if nat_lt (better number (so_often 2 numbers) (so_often 1 numbers)) left
    then 2 ∷ nearest_pairs numbers (left - 1)
    else 0 ∷ nearest_pairs numbers left

-- the fewest that the sets miss, so many, or a hand with the property
pub record IsLeastWith (held : List ℕ) (P : List ℕ → Type 0) (sets number : ℕ) : Type 0 where
  pub at_most : number ≤ sets
  pub least : (target : List ℕ) → P target → number ≤ missing target held
  pub some : (number ≡ sets) ⊎ ((target : List ℕ) × (P target × (number ≡ missing target held)))
