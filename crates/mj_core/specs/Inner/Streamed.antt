-- What a table keeps that its four seats are told of, and what its spare table does.
use Rattle.std.specs.Prelude.{◌≡◌, ℕ, Bool, true, false, IsTrue, List, [], ◌∷◌, ◌++◌, Option, Some}
use Rattle.mj_deeds.specs.declared.four.Four.{Four}
use Rattle.mj_deeds.specs.declared.answer.Answer.{Answer}
use Rattle.mj_deeds.specs.declared.deed.Deed.{Deed}
use Rattle.mj_deeds.specs.Fits.{fits}
use Rattle.mj_table.specs.Plays.{Play}
use Rattle.mj_wall.specs.declared.setting.Rules.{Rules}
use Rattle.mj_rules.specs.Possible.{possible}
use Rattle.mj_history.specs.After.{lines_for}

-- The lines of the four seats, and the answers that each may give to the newest deed.
abbrev pub lines_of_all : Rules → List Deed → Four (List (List ℕ))
lines_of_all rules deeds = record { first = lines_for rules 0 deeds; second = lines_for rules 1 deeds; third = lines_for rules 2 deeds; fourth = lines_for rules 3 deeds }

abbrev pub possible_of_all : Rules → List Deed → Four (List Answer)
possible_of_all rules deeds = record { first = possible rules deeds 0; second = possible rules deeds 1; third = possible rules deeds 2; fourth = possible rules deeds 3 }

-- A table of these rules lacks the newest of the deeds alone.
pub record LacksNewest (spare : Play) (rules : Rules) (deeds : List Deed) : Type 0 where
  pub newest : Deed
  pub same_rules : spare.rules ≡ rules
  pub others : deeds ≡ spare.deeds ++ newest ∷ []

-- It does where it is said so.
abbrev pub Follows : Bool → Play → Rules → List Deed → Type 0
Follows true spare rules deeds = LacksNewest spare rules deeds
Follows false spare rules deeds = Unit {0}

-- It becomes the same as a table that has them all by its newest deed, which fits.
pub record CatchesUp (spare table : Play) (deed : Deed) : Type 0 where
  pub fit : IsTrue (fits spare.rules.red spare.deeds deed)
  pub same : table ≡ record { rules = spare.rules; deeds = spare.deeds ++ deed ∷ [] }

abbrev pub CanCatchUp : Bool → Play → Play → Option Deed → Type 0
CanCatchUp true spare table (Some deed) = CatchesUp spare table deed
CanCatchUp other spare table newest = Unit {0}

-- The seats were told all deeds of the table; and its spare table lacks the newest deed alone, where it says so.
pub record IsTold (table : Play) (streamed : Four (List (List ℕ))) (is_behind : Bool) (spare : Play) : Type 0 where
  pub lines : streamed ≡ lines_of_all table.rules table.deeds
  pub follows : Follows is_behind spare table.rules table.deeds
