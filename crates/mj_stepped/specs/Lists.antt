-- What is kept of a game that goes on by the numbers of answers.
use Rattle.std.specs.Prelude.{◌≡◌, ℕ, Bool, true, false, List, ◌++◌, length, None}
use Rattle.mj_deeds.specs.declared.four.Four.{Four}
use Rattle.mj_deeds.specs.declared.answer.Answer.{Answer}
use Rattle.mj_deeds.specs.declared.answer.Answer.TheVariants.{Pass}
use Rattle.mj_deeds.specs.declared.deed.Deed.{Deed}
use Rattle.mj_table.specs.Plays.{Play}
use Rattle.mj_rules.specs.View.{view_of}
use Rattle.mj_rules.specs.Possible.{is_lawful, possible}
use Rattle.mj_history.specs.Legal.{Game}
use Rattle.mj_core.specs.Calls.{after_of}

-- The list of a seat that may pass is what it may answer to the newest deed; of one that has to discard none is kept.
abbrev pub IsListed : Play → ℕ → List Answer → Type 0
IsListed play seat list =
    is_lawful play.rules seat (view_of play.deeds seat) (Pass None) ≡ true → list ≡ possible play.rules play.deeds seat

-- So the lists of the four seats.
pub record AllListed (play : Play) (lists : Four (List Answer)) : Type 0 where
  pub first : IsListed play 0 lists.first
  pub second : IsListed play 1 lists.second
  pub third : IsListed play 2 lists.third
  pub fourth : IsListed play 3 lists.fourth

-- The lists are these, where it is said so.
abbrev pub AreListed : Bool → Play → Four (List Answer) → Type 0
AreListed true play lists = AllListed play lists
AreListed false play lists = Unit {0}

-- The first of some deeds were told, so many of them.
pub record IsFront (told : List Deed) (number : ℕ) (deeds : List Deed) : Type 0 where
  pub rest : List Deed
  pub all : deeds ≡ told ++ rest
  pub many : number ≡ length told

-- The first deeds of a game were told under its rules.
pub record AreTold (game : Game) (told : Play) (number : ℕ) : Type 0 where
  pub rules : told.rules ≡ game.setting.rules
  pub front : IsFront told.deeds number (after_of game).deeds
