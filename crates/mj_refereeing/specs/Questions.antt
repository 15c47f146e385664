-- What may be asked of the game of arrivals for a seat.
use Rattle.std.specs.Prelude.{ℕ, List}
use Rattle.mj_history.specs.Legal.{Game}
use Rattle.mj_refereeing.specs.declared.intake.Question.{Question}
use Rattle.mj_refereeing.specs.declared.intake.Question.TheVariants as questions
use Rattle.mj_refereeing.specs.Referee.{IsTold}
use Rattle.mj_refereeing.specs.Safe.{IsSafeTold}

-- What is said of a game for a seat, by what is asked.
abbrev pub said_by : Question → (List ℕ → Type 0) → ℕ → Game → Type 0
said_by questions.Script IsWritten seat game = IsTold IsWritten seat game
said_by questions.SafeKinds IsWritten seat game = IsSafeTold IsWritten seat game
