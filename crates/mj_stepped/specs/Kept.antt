-- What is kept of a game that goes on by the numbers of answers, beside the lists of its newest deed.
use Rattle.std.specs.Prelude.{◌≡◌, ◌≤◌, ◌==◌, ◌&&◌, ℕ, Bool, true, nat_lt, List, length}
use Rattle.mj_deeds.specs.declared.deed.Deed.{Deed}
use Rattle.mj_wall.specs.declared.setting.Rules.{Rules}
use Rattle.mj_rules.specs.Possible.{possible}
use Rattle.mj_table.specs.Plays.{Play}
use Rattle.mj_history.specs.Legal.{Game}
use Rattle.mj_core.specs.Calls.{after_of}
use Rattle.mj_stepped.specs.Lists.{AreTold}
use Rattle.mj_stepped.specs.declared.stepped.Asked.{Asked}

-- It was listed for this seat, when there were so many deeds.
abbrev pub is_of : Asked → ℕ → ℕ → Bool
is_of asked seat deeds = nat_lt 0 asked.deeds && (asked.deeds == deeds && asked.seat == seat)

-- What was listed last is right as long as no deed has come since.
pub record IsAskedOf (rules : Rules) (deeds : List Deed) (asked : Asked) : Type 0 where
  pub low : asked.deeds ≤ length deeds
  pub list : (seat : ℕ) → is_of asked seat (length deeds) ≡ true → asked.list ≡ possible rules deeds seat

-- The first deeds were told, and a list may have been asked for.
pub record IsKept (game : Game) (told : Play) (number : ℕ) (asked : Asked) : Type 0 where
  pub told_so : AreTold game told number
  pub asked_so : IsAskedOf game.setting.rules (after_of game).deeds asked
