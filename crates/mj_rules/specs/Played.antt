-- Which deeds are played: those of a game in which every seat gives lawful answers.
use Rattle.std.specs.Prelude.{ℕ, ◌≡◌, ◌&&◌, Bool, true, false, IsTrue, List, [], ◌∷◌, ◌++◌, Some, None}
use Rattle.std.specs.List.{list_all}
use Rattle.mj_ports.specs.Names.{is_name, are_different}
use Rattle.mj_deeds.specs.declared.four.Four.{Four}
use Rattle.mj_deeds.specs.declared.answer.Answer.{Answer}
use Rattle.mj_deeds.specs.Answers.{is_in_form}
use Rattle.mj_deeds.specs.declared.deed.Deed.{Deed}
use Rattle.mj_deeds.specs.declared.deed.Deed.TheVariants.{StartGame}
use Rattle.mj_wall.specs.declared.setting.Rules.{Rules}
use Rattle.mj_rules.specs.Broken.{broken_rule}
use Rattle.mj_rules.specs.Outcome.{outcome}

-- An answer of a seat is lawful in the window on the newest deed: it is in form and breaks no rule.
pub record IsLawful (rules : Rules) (deeds : List Deed) (seat : ℕ) (answer : Answer) : Type 0 where
  pub form : is_in_form answer ≡ true
  pub clean : broken_rule rules deeds seat answer ≡ None

-- Each of four answers is lawful for its seat.
pub record AllLawful (rules : Rules) (deeds : List Deed) (given : Four Answer) : Type 0 where
  pub first : IsLawful rules deeds 0 given.first
  pub second : IsLawful rules deeds 1 given.second
  pub third : IsLawful rules deeds 2 given.third
  pub fourth : IsLawful rules deeds 3 given.fourth

-- Some four lawful answers give the deed.
pub record IsGiven (rules : Rules) (walls : List (List ℕ)) (deeds : List Deed) (deed : Deed) : Type 0 where
  pub given : Four Answer
  pub lawful : AllLawful rules deeds given
  pub gives : outcome rules walls deeds given ≡ Some deed

-- Four names are good, and no two of them are the same.
abbrev pub are_listed_names : List (List ℕ) → Bool
are_listed_names names = list_all is_name names && are_different names

abbrev pub are_names : Four (List ℕ) → Bool
are_names names = are_listed_names (names.first ∷ names.second ∷ names.third ∷ names.fourth ∷ [])

-- A start of a game with such names.
abbrev pub is_game_start : Deed → Bool
is_game_start (StartGame names) = are_names names
is_game_start other = false

-- A deed is played after others: as the first one it is a start of a game, and later some four lawful answers give it.
abbrev pub IsPlayedBehind : Rules → List (List ℕ) → List Deed → Deed → Type 0
IsPlayedBehind rules walls [] deed = IsTrue (is_game_start deed)
IsPlayedBehind rules walls (first ∷ others) deed = IsGiven rules walls (first ∷ others) deed

-- Each deed is played after those before it.
abbrev pub AllPlayed : Rules → List (List ℕ) → List Deed → List Deed → Type 0
AllPlayed rules walls before [] = Unit {0}
AllPlayed rules walls before (deed ∷ deeds) = IsPlayedBehind rules walls before deed × AllPlayed rules walls (before ++ deed ∷ []) deeds

-- Deeds are played.
abbrev pub IsPlayed : Rules → List (List ℕ) → List Deed → Type 0
IsPlayed rules walls deeds = AllPlayed rules walls [] deeds
