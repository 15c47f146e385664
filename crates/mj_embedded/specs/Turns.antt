-- Answers by their numbers, and seats that pass where they can do nothing else.
use Rattle.std.specs.Prelude.{ℕ, ◌≡◌, ◌≤◌, ◌<◌, ◌⊎◌, ◌&&◌, ◌==◌, not, Bool, true, false, nat_lt, List, length, codes, Some, None, slice_get}
use Rattle.std.specs.List.{ends_with}
use Rattle.mj_deeds.specs.declared.answer.Answer.{Answer}
use Rattle.mj_deeds.specs.declared.answer.Answer.TheVariants.{Pass}
use Rattle.mj_history.specs.Legal.{Game, is_over}
use Rattle.mj_history.specs.Shown.{line_at}
use Rattle.mj_core.specs.Calls.{after_of, due_of, may_say_at}
use Rattle.mj_stepped.specs.Choices.{choices_of}
use Rattle.mj_embedded.specs.declared.turns.Turn.{Turn}
use Rattle.mj_embedded.specs.Answers.{done, late, no_memory, no_seat, no_choice, go_on}
use Rattle.mj_embedded.specs.Calls.{Gives}

-- A seat gives the answer of this number.
pub data Chooses (seat k old_rule rule : ℕ) (old new : Game) (answer : ℕ) : Type 0 where
  ChooseNoSeat : answer ≡ no_seat → 3 < seat → new ≡ old → rule ≡ old_rule → Chooses seat k old_rule rule old new answer
  NoChoice : answer ≡ no_choice → seat ≤ 3 → slice_get (choices_of old seat) k ≡ None → new ≡ old → rule ≡ old_rule → Chooses seat k old_rule rule old new answer
  ChooseNoMemory : answer ≡ no_memory → new ≡ old → rule ≡ old_rule → Chooses seat k old_rule rule old new answer
  Chosen : (choice : Answer) → seat ≤ 3 → slice_get (choices_of old seat) k ≡ Some choice → Gives seat choice old_rule rule old new answer
      → Chooses seat k old_rule rule old new answer

-- How the line of a deed ends whose list is a pass alone.
abbrev pub pass_list : List ℕ
pass_list = codes ",\"possible_actions\":[{\"type\":\"none\"}]}\n"

-- A line ends so.
abbrev pub shows_pass : List ℕ → Bool
shows_pass text = ends_with (λ a b. a == b) text pass_list

-- A seat may say a line, and its due deed's line lists a pass alone.
abbrev pub can_only_pass : Game → ℕ → Bool
can_only_pass game seat =
    may_say_at game seat && (nat_lt (due_of game seat) (length (after_of game).deeds)
    && shows_pass (line_at game.setting.rules (after_of game).deeds seat (due_of game seat)))

-- No seat can only pass.
abbrev pub is_at_rest : Game → Bool
is_at_rest game = not (can_only_pass game 0) && (not (can_only_pass game 1) && (not (can_only_pass game 2) && not (can_only_pass game 3)))

-- A seat passes.
pub record Passed (seat : ℕ) (old new : Game) (answer : ℕ) : Type 0 where
  pub rule : ℕ
  pub gives : Gives seat (Pass None) 0 rule old new answer

-- Seats that can only pass have passed, one after another.
pub data HavePassed (old : Game) : Game → Type 0 where
  Stays : HavePassed old old
  Passes : (mid new : Game) (seat answer : ℕ) → HavePassed old mid → can_only_pass mid seat ≡ true → Passed seat mid new answer → HavePassed old new

-- They pass until none is left that can only pass, unless memory is wanting to look what a seat may answer, a pass isn't taken, as where
-- memory is wanting too, or the call has to be made again.
pub data PassesOn (old new : Game) (answer : ℕ) : Type 0 where
  Rests : answer ≡ done → HavePassed old new → is_at_rest new ≡ true → PassesOn old new answer
  NotPassed : (mid : Game) (seat : ℕ) → HavePassed old mid → can_only_pass mid seat ≡ true → Passed seat mid new answer → (answer ≡ done → ⊥) → (answer ≡ late → ⊥)
      → PassesOn old new answer
  NotListed : answer ≡ no_memory → HavePassed old new → PassesOn old new answer
  GoesOn : answer ≡ go_on → HavePassed old new → PassesOn old new answer

-- Whose turn it is: the first seat that may say a line, or 4.
abbrev pub asked_from : Bool → Bool → Bool → Bool → ℕ
asked_from true b c d = 0
asked_from false true c d = 1
asked_from false false true d = 2
asked_from false false false true = 3
asked_from false false false false = 4

abbrev pub asked_seat : Game → ℕ
asked_seat game = asked_from (may_say_at game 0) (may_say_at game 1) (may_say_at game 2) (may_say_at game 3)

pub record IsTurn (turn : Turn) (game : Game) : Type 0 where
  pub seat : turn.seat ≡ asked_seat game
  pub deeds : turn.deeds ≡ length (after_of game).deeds
  pub over : turn.is_over ≡ is_over (after_of game).deeds

-- Those who can only pass pass, and then it is told whose turn it is.
pub record Turns (turn : Turn) (old new : Game) (answer : ℕ) : Type 0 where
  pub passes : PassesOn old new answer
  pub told : IsTurn turn new

-- A seat gives an answer; where it is taken or comes late, those who can only pass pass, and it is told whose turn it is.
pub data Plays (seat k old_rule rule : ℕ) (old_turn turn : Turn) (old new : Game) (answer : ℕ) : Type 0 where
  NotPlayed : Chooses seat k old_rule rule old new answer → turn ≡ old_turn → (answer ≡ done → ⊥) → (answer ≡ late → ⊥)
      → Plays seat k old_rule rule old_turn turn old new answer
  Played : (mid : Game) (chosen : ℕ) → Chooses seat k old_rule rule old mid chosen → (chosen ≡ done) ⊎ (chosen ≡ late) → Turns turn mid new answer
      → Plays seat k old_rule rule old_turn turn old new answer

-- How many answers a seat may give.
pub data Counts (seat : ℕ) (old_many many : ℕ) (old new : Game) (answer : ℕ) : Type 0 where
  CountNoSeat : answer ≡ no_seat → 3 < seat → new ≡ old → many ≡ old_many → Counts seat old_many many old new answer
  CountNoMemory : answer ≡ no_memory → new ≡ old → many ≡ old_many → Counts seat old_many many old new answer
  Counted : answer ≡ done → seat ≤ 3 → new ≡ old → many ≡ length (choices_of old seat) → Counts seat old_many many old new answer
