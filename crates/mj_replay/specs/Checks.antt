-- What the answer of `check` says of a text.
use Rattle.std.specs.Prelude.{◌≡◌, ℕ, List}
use Rattle.mj_deeds.specs.declared.deed.Deed.{Deed}
use Rattle.mj_history.specs.Told.{Summary}
use Rattle.mj_history.specs.Records.{Fault, HeaderFault, WallFault, LineFault, NextFault, CutFault, IsRecord, IsNoRecord}
use Rattle.mj_runs.specs.declared.cause.Cause.{Cause}
use Rattle.mj_runs.specs.declared.cause.Cause.TheVariants as causes
use Rattle.mj_replay.specs.declared.checking.Summary.{Summary as Said}
use Rattle.mj_replay.specs.declared.checking.Checked.{Checked}
use Rattle.mj_replay.specs.declared.checking.Checked.TheVariants.{Good, Bad, NoMemory}
use Rattle.mj_replay.specs.declared.played.Played.{Played}
use Rattle.mj_replay.specs.declared.played.Played.TheVariants as played

-- What the numbers of an answer say that deeds come to.
abbrev pub summary_said : Said → Summary
summary_said said = record { deeds = said.deeds; points = said.points; deposits = said.deposits }

abbrev pub fault_of : Cause → Fault
fault_of causes.Header = HeaderFault
fault_of causes.Wall = WallFault
fault_of causes.Line = LineFault
fault_of causes.Next = NextFault
fault_of causes.Cut = CutFault

-- An answer says that a text is the record of deeds that come to these numbers, or that it is none and which line is the first
-- that breaks its form, and how. Running out of memory says nothing.
abbrev pub Tells : List ℕ → Checked → Type 0
Tells text (Good said) = IsRecord text (summary_said said)
Tells text (Bad number cause) = IsNoRecord text number (fault_of cause)
Tells text NoMemory = Unit {0}

-- A text is the record of these deeds.
pub record IsRecordOf (text : List ℕ) (deeds : List Deed) : Type 0 where
  pub summary : Summary
  pub record_is : IsRecord text summary
  pub deeds_are : record_is.deeds ≡ deeds

-- An answer says that a text is the record of these deeds, or that it is none and which line is the first that breaks its form,
-- and how. Running out of memory says nothing.
abbrev pub TellsPlayed : List ℕ → Played → Type 0
TellsPlayed text (played.Good deeds) = IsRecordOf text deeds
TellsPlayed text (played.Bad number cause) = IsNoRecord text number (fault_of cause)
TellsPlayed text played.NoMemory = Unit {0}

-- The answers are exact: of one text they say one thing.
pub record AnswersAreExact : Type 0 where
  -- a text is the record of deeds that come to one summary at most
  pub one_summary : (text : List ℕ) (one other : Summary) → IsRecord text one → IsRecord text other → one ≡ other
  -- no record is said to be none
  pub not_both : (text : List ℕ) (summary : Summary) (number : ℕ) (fault : Fault) → IsRecord text summary → IsNoRecord text number fault → ⊥
  -- where a text is none, one line is the first that breaks its form, and it does so in one way
  pub one_fault : (text : List ℕ) (one other : ℕ) (fault another : Fault) → IsNoRecord text one fault → IsNoRecord text other another → (one ≡ other) × (fault ≡ another)
