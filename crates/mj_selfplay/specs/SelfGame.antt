-- The game that four built-in players play, and what it comes to.
use Rattle.std.specs.Prelude.{ℕ, ◌≡◌, Bool, true, false, List, [], ◌∷◌, ◌++◌, length, codes, count_by, replicate, Option, Some}
use Rattle.std.specs.Int.{w64, to_le_bytes}
use Rattle.mj_deeds.specs.declared.four.Four.{Four}
use Rattle.mj_deeds.specs.declared.answer.Answer.{Answer}
use Rattle.mj_deeds.specs.declared.deed.Deed.{Deed}
use Rattle.mj_deeds.specs.declared.deed.Deed.TheVariants.{StartGame, DrawnHand, EndGame}
use Rattle.mj_deeds.specs.Facts.{newest}
use Rattle.mj_deeds.specs.Hand.{is_hand_start}
use Rattle.mj_deeds.specs.Points.{points, deposits, is_win}
use Rattle.mj_wall.specs.declared.setting.Rules.{Rules}
use Rattle.mj_wall.specs.Shuffle.{shuffled_walls}
use Rattle.mj_rules.specs.Outcome.{outcome}
use Rattle.mj_bot.specs.Choice.{IsChoice}
use Rattle.mj_selfplay.specs.declared.tally.Summary.{Summary}

-- Each of four answers is the choice of its seat.
pub record AreChoices (rules : Rules) (deeds : List Deed) (given : Four Answer) : Type 0 where
  pub first : IsChoice rules deeds 0 given.first
  pub second : IsChoice rules deeds 1 given.second
  pub third : IsChoice rules deeds 2 given.third
  pub fourth : IsChoice rules deeds 3 given.fourth

-- The choices of the four seats give the deed.
pub record IsChosen (rules : Rules) (walls : List (List ℕ)) (deeds : List Deed) (deed : Deed) : Type 0 where
  pub given : Four Answer
  pub choices : AreChoices rules deeds given
  pub gives : outcome rules walls deeds given ≡ Some deed

-- The start of the game: the seats have the names a, b, c and d.
unfoldable pub self_start : Deed
self_start = StartGame (record { first = codes "a"; second = codes "b"; third = codes "c"; fourth = codes "d" })

-- A deed stands after others: as the first one it is the start of the game, and later the choices of the four seats give it.
abbrev pub IsChosenBehind : Rules → List (List ℕ) → List Deed → Deed → Type 0
IsChosenBehind rules walls [] deed = deed ≡ self_start
IsChosenBehind rules walls (first ∷ others) deed = IsChosen rules walls (first ∷ others) deed

-- Each deed stands so after those before it.
abbrev pub AllChosen : Rules → List (List ℕ) → List Deed → List Deed → Type 0
AllChosen rules walls before [] = Unit {0}
AllChosen rules walls before (deed ∷ deeds) = IsChosenBehind rules walls before deed × AllChosen rules walls (before ++ deed ∷ []) deeds

-- The newest deed is the end of the game.
abbrev pub is_end : Option Deed → Bool
is_end (Some (EndGame points lying)) = true
is_end other = false

-- A whole game in which every window is answered by the choices of the four seats.
pub record IsWholeGame (rules : Rules) (walls : List (List ℕ)) (deeds : List Deed) : Type 0 where
  pub chosen : AllChosen rules walls [] deeds
  pub over : is_end (newest deeds) ≡ true

-- The rules of the game: neither the draw reasons nor red fives.
unfoldable pub self_rules : Rules
self_rules = record { limit = 10000; draws = false; red = false }

-- The seed of a number: its eight bytes, the lowest first, and then zeros.
unfoldable pub seed_of : ℕ → List ℕ
seed_of number = to_le_bytes w64 number ++ replicate 24 0

-- The game of a number is played with the first 200 walls of its seed.
abbrev pub IsSelfGame : ℕ → List Deed → Type 0
IsSelfGame number deeds = IsWholeGame self_rules (shuffled_walls (seed_of number) false 200) deeds

-- A hand that is drawn.
abbrev pub is_drawn_hand : Deed → Bool
is_drawn_hand (DrawnHand reason hands ready deltas points) = true
is_drawn_hand other = false

-- What a game comes to: how many hands started, how many wins and drawn hands there were, how many deeds, and the points and the
-- deposits that are left.
abbrev pub summary_of : List Deed → Summary
summary_of deeds = record {
  hands = count_by is_hand_start deeds;
  wins = count_by is_win deeds;
  draws = count_by is_drawn_hand deeds;
  deeds = length deeds;
  points = points deeds;
  deposits = deposits deeds;
}

-- The summary of a whole game.
pub record IsSummary (rules : Rules) (walls : List (List ℕ)) (summary : Summary) : Type 0 where
  pub deeds : List Deed
  pub whole : IsWholeGame rules walls deeds
  pub is : summary ≡ summary_of deeds

-- That of the game of a number.
abbrev pub IsSelfSummary : ℕ → Summary → Type 0
IsSelfSummary number summary = IsSummary self_rules (shuffled_walls (seed_of number) false 200) summary
