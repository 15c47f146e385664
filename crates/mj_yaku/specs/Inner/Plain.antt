-- Hands that have a yaku however they are read.
use Rattle.std.specs.Prelude.{ℕ, ◌≡◌, ◌<◌, Bool, true, ◌||◌, List, slice_index}
use Rattle.std.specs.List.{list_all}
use Rattle.mj_tiles.specs.Terminals.{is_terminal_or_honour}
use Rattle.mj_tiles.specs.declared.meld.Meld.{Meld}
use Rattle.mj_readings.specs.declared.reading.Case.{Case}
use Rattle.mj_readings.specs.Sets.{tiles_of_set, set_of_meld}
use Rattle.mj_yaku.specs.Inner.Classes.{in_class}
use Rattle.mj_yaku.specs.Wins.{reach, double_reach, menzen_tsumo, haitei, houtei, is_rinshan, chankan}
use Rattle.mj_yaku.specs.declared.tiles.Class.TheVariants.{Simple}

-- The way in which the hand was won is a yaku.
abbrev pub won_with_yaku : Case → Bool
won_with_yaku case = reach case || double_reach case || menzen_tsumo case || haitei case || houtei case || is_rinshan case || chankan case

-- No terminal and no honour is held.
abbrev pub HasNoOutside : List ℕ → Type 0
HasNoOutside counts = (kind : ℕ) → kind < 34 → is_terminal_or_honour kind ≡ true → slice_index counts kind ≡ 0

-- Nor is one in a meld.
pub record AreSimple (counts : List ℕ) (melds : List Meld) : Type 0 where
  pub concealed : HasNoOutside counts
  pub melded : list_all (λ meld. list_all (in_class Simple) (tiles_of_set (set_of_meld meld))) melds ≡ true
