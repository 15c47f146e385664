-- What the steps of a check come to.
use Rattle.std.specs.Prelude.{◌≡◌, ℕ, ◌<◌, Bool, true, false, List, [], ◌∷◌, ◌++◌, Option, Some, None}
use Rattle.mj_bytes.specs.Parts.{has_byte, BeginsWithLine}
use Rattle.mj_ports.specs.Names.{are_different}
use Rattle.mj_deeds.specs.declared.four.Four.{Four}
use Rattle.mj_deeds.specs.declared.answer.Answer.{Answer}
use Rattle.mj_deeds.specs.declared.deed.Viewer.TheVariants.{Record}
use Rattle.mj_deeds.specs.declared.deed.Deed.{Deed}
use Rattle.mj_deeds.specs.declared.deed.Deed.TheVariants.{StartGame}
use Rattle.mj_rules.specs.Outcome.{outcome}
use Rattle.mj_rules.specs.Played.{AllLawful, IsPlayed, IsPlayedBehind}
use Rattle.mj_table.specs.Plays.{Play}
use Rattle.mj_forms.specs.Lines.{line}
use Rattle.mj_history.specs.Told.{Summary}
use Rattle.mj_history.specs.Records.{IsLineOf, IsOfNoNext, IsRecord, IsNoRecord, needs_wall}
use Rattle.mj_runs.specs.declared.cause.Cause.{Cause}
use Rattle.mj_runs.specs.declared.cause.Cause.TheVariants as causes
use Rattle.mj_replay.specs.declared.checking.Checked.{Checked}
use Rattle.mj_replay.specs.declared.checking.Checked.TheVariants.{Good, Bad, NoMemory}
use Rattle.mj_replay.specs.Checks.{summary_said, fault_of}
use Rattle.mj_records.specs.Deeds.{deed_in}
use Rattle.mj_records.specs.Settings.{IsWallLine, IsNoWallLine}
use Rattle.mj_records.specs.Usual.{deed_of}
use Rattle.mj_records.specs.declared.usual.Act.{Act}

-- Where a text ends, the cause is that nothing is left, or that what is left has no newline.
abbrev pub cause_at_end : List ℕ → Cause → Cause
cause_at_end [] cause = cause
cause_at_end (byte ∷ bytes) cause = causes.Cut

-- A line is a wall after so many others, 200 of them at most.
pub record IsNext (red : Bool) (before : ℕ) (line wall : List ℕ) : Type 0 where
  pub few : before < 200
  pub wall_is : IsWallLine red line wall

abbrev pub IsNoNext : Bool → ℕ → List ℕ → Type 0
IsNoNext red before line = before < 200 → IsNoWallLine red line

-- The first line of a text needn't be a wall.
abbrev pub NoneNeeded : List (List ℕ) → List Deed → List ℕ → Type 0
NoneNeeded walls deeds text = (first others : List ℕ) → text ≡ first ++ 10 ∷ others → has_byte 10 first ≡ false → needs_wall walls deeds (first ++ 10 ∷ []) ≡ false

-- The text begins with a line, which stands here with its newline, and the rest follows it.
pub record BeginsWithWhole (text line rest : List ℕ) : Type 0 where
  pub front : List ℕ
  pub begins : BeginsWithLine text front rest
  pub is : line ≡ front ++ 10 ∷ []

-- The text is the line of an act, of which its deed is read.
pub record IsOfAct (text : List ℕ) (act : Act) : Type 0 where
  pub line_of : IsLineOf text (deed_of act)
  pub read : deed_in text ≡ Some (deed_of act)

-- A start of a game with four different names.
abbrev pub has_different_names : Deed → Bool
has_different_names (StartGame names) = are_different (names.first ∷ names.second ∷ names.third ∷ names.fourth ∷ [])
has_different_names other = false

-- A game has one deed more, which has the line, and its deeds are played.
pub record Follows (walls : List (List ℕ)) (before after : Play) (text : List ℕ) : Type 0 where
  pub deed : Deed
  pub line_is : line Record deed ≡ text
  pub more : after ≡ record { rules = before.rules; deeds = before.deeds ++ deed ∷ [] }
  pub played : IsPlayed before.rules walls after.deeds

-- Or no deed with the line is played after its deeds.
abbrev pub FollowsIf : Bool → List (List ℕ) → Play → Play → List ℕ → Type 0
FollowsIf true walls before after text = Follows walls before after text
FollowsIf false walls before after text = (deed : Deed) → IsLineOf text deed → IsPlayedBehind before.rules walls before.deeds deed → ⊥

-- A text is the line of a deed, or of none.
pub record IsLine (text : List ℕ) : Type 0 where
  pub deed : Deed
  pub line_of : IsLineOf text deed

abbrev pub IsLineIf : Bool → List ℕ → Type 0
IsLineIf true text = IsLine text
IsLineIf false text = (deed : Deed) → IsLineOf text deed → ⊥

-- Or four answers are not lawful, or give no deed with the line.
abbrev pub FollowsBy : Bool → List (List ℕ) → Play → Play → Four Answer → List ℕ → Type 0
FollowsBy true walls before after given text = Follows walls before after text
FollowsBy false walls before after given text =
    (deed : Deed) → line Record deed ≡ text → AllLawful before.rules before.deeds given → outcome before.rules walls before.deeds given ≡ Some deed → ⊥

-- Or this is wrong with the line.
abbrev pub FollowsOr : Option Cause → List (List ℕ) → Play → Play → List ℕ → Type 0
FollowsOr None walls before after text = Follows walls before after text
FollowsOr (Some causes.Line) walls before after text = (deed : Deed) → IsLineOf text deed → ⊥
FollowsOr (Some causes.Next) walls before after text = IsOfNoNext before.rules walls before.deeds text
FollowsOr (Some other) walls before after text = ⊥

-- A text is the record of deeds that come to this, and where they are kept a list holds them.
abbrev pub IsList : Bool → List Deed → List Deed → Type 0
IsList true kept deeds = kept ≡ deeds
IsList false kept deeds = Unit {0}

pub record IsRecordKept (text : List ℕ) (summary : Summary) (keeps : Bool) (kept : List Deed) : Type 0 where
  pub record_is : IsRecord text summary
  pub kept_are : IsList keeps kept record_is.deeds

abbrev pub TellsKept : List ℕ → Checked → Bool → List Deed → Type 0
TellsKept text (Good said) keeps kept = IsRecordKept text (summary_said said) keeps kept
TellsKept text (Bad number cause) keeps kept = IsNoRecord text number (fault_of cause)
TellsKept text NoMemory keeps kept = Unit {0}
