-- What the calls on a game tell a seat that is watched.
use Rattle.std.specs.Prelude.{◌≡◌, ℕ, ◌<◌, Bool, true, false, List, []}
use Rattle.mj_bytes.specs.Adds.{Adds}
use Rattle.mj_ports.specs.declared.answers.SitAnswer.{SitAnswer}
use Rattle.mj_ports.specs.declared.answers.SitAnswer.TheVariants as sits
use Rattle.mj_ports.specs.declared.answers.Heard.{Heard}
use Rattle.mj_ports.specs.declared.answers.Heard.TheVariants as heard
use Rattle.mj_ports.specs.declared.answers.Left.{Left}
use Rattle.mj_ports.specs.declared.answers.Left.TheVariants as left
use Rattle.mj_deeds.specs.declared.rule.Rule.{Rule}
use Rattle.mj_forms.specs.Lines.{error_text}
use Rattle.mj_history.specs.Legal.{Game}
use Rattle.mj_refereeing.specs.Inner.Intake.{greeting, greeting_again}

-- What the answer to a join tells a seat.
abbrev pub told_by_sitting : SitAnswer → ℕ → Game → List ℕ
told_by_sitting (sits.Sat taken) seat game = greeting taken seat
told_by_sitting (sits.Back taken) seat game = greeting_again taken seat game
told_by_sitting (sits.Refused why) seat game = []
told_by_sitting sits.NoMemory seat game = []

-- A seat that is taken back is one of the four.
abbrev pub IsBelowFour : SitAnswer → Type 0
IsBelowFour (sits.Back taken) = taken < 4
IsBelowFour answer = Unit {0}

-- What the verdict on its own answer tells a seat; where memory was wanting it isn't told.
abbrev pub TellsVerdict : Bool → Heard Rule → List ℕ → List ℕ → Type 0
TellsVerdict false verdict old new = new ≡ old
TellsVerdict true heard.Taken old new = new ≡ old
TellsVerdict true heard.Late old new = new ≡ old
TellsVerdict true (heard.Refused rule) old new = Adds old new (error_text rule)
TellsVerdict true (heard.Closing rule) old new = Adds old new (error_text rule)
TellsVerdict true heard.NoMemory old new = ⊥

abbrev pub has_left : Left → Bool
has_left left.Gone = true
has_left left.NoMemory = false
