-- What the command `selfplay` writes.
use Rattle.std.specs.Prelude.{◌≡◌, ℕ, List, Option}
use Rattle.std.specs.Io.KnownBytes.{Appends, Keeps}
use Rattle.mj_links.specs.Sinks.{WritesPrefix}
use Rattle.mj_selfplay.specs.declared.tally.Summary.{Summary}
use Rattle.mj_selfplay.specs.SelfGame.{IsSelfSummary}
use Rattle.mj_selfplay.specs.Text.{summary_text}
use Rattle.mj_front.specs.declared.self_game.SelfPlayEnd.{SelfPlayEnd}
use Rattle.mj_front.specs.declared.self_game.SelfPlayEnd.TheVariants as ends

-- A text is the six lines of the summary of the game that four built-in players play with the walls of a number.
pub record IsSelfText (number : ℕ) (text : List ℕ) : Type 0 where
  pub summary : Summary
  pub of_game : IsSelfSummary number summary
  pub is : text ≡ summary_text summary

-- These lines are written, whole or in part, as `IsWritten` says.
pub record IsSelfWritten (IsWritten : List ℕ → Type 0) (number : ℕ) : Type 0 where
  pub text : List ℕ
  pub is : IsSelfText number text
  pub bytes : IsWritten text

-- What is written of the game of a number, by the end. Running out of memory writes nothing.
abbrev pub WritesSelfPlay : SelfPlayEnd → ℕ → Option (List ℕ) → Option (List ℕ) → Type 0
WritesSelfPlay ends.Written number old new = IsSelfWritten (Appends old new) number
WritesSelfPlay ends.WriteFault number old new = IsSelfWritten (WritesPrefix old new) number
WritesSelfPlay ends.NoMemory number old new = Keeps old new
