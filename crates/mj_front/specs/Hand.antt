-- What the command `hand` writes.
use Rattle.std.specs.Prelude.{◌≡◌, ℕ, List, Option, None}
use Rattle.std.specs.Io.KnownBytes.{Appends, Keeps}
use Rattle.mj_links.specs.Sinks.{WritesPrefix}
use Rattle.mj_hand.specs.Hands.{hand_of}
use Rattle.mj_hand.specs.Text.{IsHandText}
use Rattle.mj_front.specs.declared.hand.HandLinesEnd.{HandLinesEnd}
use Rattle.mj_front.specs.declared.hand.HandLinesEnd.TheVariants as ends

-- Words name a hand, and its three lines are written, whole or in part, as `IsWritten` says.
pub record IsHandWritten (IsWritten : List ℕ → Type 0) (words : List (List ℕ)) : Type 0 where
  pub text : List ℕ
  pub is : IsHandText words text
  pub bytes : IsWritten text

-- Words name no hand, and nothing is written.
pub record IsNoHand (words : List (List ℕ)) (old new : Option (List ℕ)) : Type 0 where
  pub none : hand_of words ≡ None
  pub unwritten : Keeps old new

-- What is written of the hand that words name, by the end. Running out of memory writes nothing.
abbrev pub WritesHand : HandLinesEnd → List (List ℕ) → Option (List ℕ) → Option (List ℕ) → Type 0
WritesHand ends.Written words old new = IsHandWritten (Appends old new) words
WritesHand ends.NoHand words old new = IsNoHand words old new
WritesHand ends.WriteFault words old new = IsHandWritten (WritesPrefix old new) words
WritesHand ends.NoMemory words old new = Keeps old new
