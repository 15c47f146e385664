-- What the command `record` does: it reads a journal, and writes the record of the game that the journal keeps.
use Rattle.std.specs.Prelude.{◌≡◌, ℕ, Bool, true, false, if◌then◌else◌, List, [], ◌∷◌, codes, bytes_eq, Option, Some, None, option_and_then}
use Rattle.std.specs.Io.KnownBytes.{Appends, Keeps}
use Rattle.mj_links.specs.Sinks.{WritesPrefix}
use Rattle.mj_ports.specs.declared.entry.Entry.{Entry}
use Rattle.mj_deeds.specs.declared.answer.Answer.{Answer}
use Rattle.mj_core.specs.Calls.{record_of}
use Rattle.mj_journal.specs.Journals.{first_record}
use Rattle.mj_journal.specs.Openings.{Opening, Bad, Open}
use Rattle.mj_refereeing.specs.Keep.{Base, base_of, opens_for}
use Rattle.mj_runs.specs.Inputs.{IsRead, IsCutOff, IsTooLong}
use Rattle.mj_runs.specs.declared.status.Status.{Status}
use Rattle.mj_runs.specs.declared.status.Status.TheVariants as statuses
use Rattle.mj_record.specs.declared.journal.RecordEnd.{RecordEnd}
use Rattle.mj_record.specs.declared.journal.RecordEnd.TheVariants as ends
use Rattle.mj_record.specs.Statuses.{record_status}

-- What founds a game, where it is all of a text.
abbrev pub if_whole : List ℕ → Base → Option Base
if_whole text base = if bytes_eq base.tag text then Some base else None

-- What founds the game of a journal: its first record is a header with walls after it, and nothing else.
abbrev pub founded : List ℕ → Option Base
founded journal = option_and_then (λ first. option_and_then (if_whole first.0) (base_of first.0)) (first_record journal)

-- How a journal opens. One whose first record founds no game is bad at its first byte.
abbrev pub opens_by : Option Base → List ℕ → Opening (List (Entry Answer))
opens_by None journal = Bad 0
opens_by (Some base) journal = opens_for base journal

-- A journal keeps a game, which its first record founds and all others tell, and the game's record is written, whole or in part,
-- as `IsWritten` says: the header, the walls, and each deed that was played.
pub record IsRecorded (IsWritten : List ℕ → Type 0) (journal : List ℕ) : Type 0 where
  pub base : Base
  pub founds : founded journal ≡ Some base
  pub entries : List (Entry Answer)
  pub end : ℕ
  pub opened : opens_for base journal ≡ Open entries end
  pub record_is : IsWritten (record_of (record { setting = base.setting; entries = entries }))

-- A journal is bad at a byte, and nothing is written.
pub record IsBad (place : ℕ) (journal : List ℕ) (old new : Option (List ℕ)) : Type 0 where
  pub bad : opens_by (founded journal) journal ≡ Bad place
  pub unwritten : Keeps old new

-- What is written once a journal was read, by the end; no read can fail any more.
abbrev pub TakesJournal : RecordEnd → List ℕ → Option (List ℕ) → Option (List ℕ) → Type 0
TakesJournal ends.Written journal old new = IsRecorded (Appends old new) journal
TakesJournal (ends.Bad place) journal old new = IsBad place journal old new
TakesJournal ends.WriteFault journal old new = IsRecorded (WritesPrefix old new) journal
TakesJournal ends.ReadFault journal old new = ⊥
TakesJournal ends.TooLong journal old new = ⊥
TakesJournal ends.NoMemory journal old new = Keeps old new

-- A journal was read, and this is what is written of it.
pub record TakesAll (end : RecordEnd) (old_left new_left old_written new_written : Option (List ℕ)) : Type 0 where
  pub journal : List ℕ
  pub read : IsRead old_left new_left journal
  pub written : TakesJournal end journal old_written new_written

-- What the command does, by its end. A fault of the source and running out of memory write nothing.
abbrev pub Records : RecordEnd → Option (List ℕ) → Option (List ℕ) → Option (List ℕ) → Option (List ℕ) → Type 0
Records ends.Written old_left new_left old_written new_written = TakesAll ends.Written old_left new_left old_written new_written
Records (ends.Bad place) old_left new_left old_written new_written = TakesAll (ends.Bad place) old_left new_left old_written new_written
Records ends.WriteFault old_left new_left old_written new_written = TakesAll ends.WriteFault old_left new_left old_written new_written
Records ends.ReadFault old_left new_left old_written new_written = IsCutOff old_left new_left old_written new_written
Records ends.TooLong old_left new_left old_written new_written = IsTooLong old_left new_left old_written new_written
Records ends.NoMemory old_left new_left old_written new_written = Keeps old_written new_written

-- The first word is that of the command.
abbrev pub begins_with_record : List (List ℕ) → Bool
begins_with_record [] = false
begins_with_record (word ∷ words) = bytes_eq word (codes "record")

-- It stands alone.
abbrev pub asks_record : List (List ℕ) → Bool
asks_record (word ∷ []) = bytes_eq word (codes "record")
asks_record words = false

-- Where the words ask for the command, its end gives the status; and else nothing is read and nothing written.
pub record RunsByEnd (status : Status) (old_left new_left old_written new_written : Option (List ℕ)) : Type 0 where
  pub end : RecordEnd
  pub gives : status ≡ record_status end
  pub does : Records end old_left new_left old_written new_written

pub record IsUnheard (status : Status) (old_left new_left old_written new_written : Option (List ℕ)) : Type 0 where
  pub words : status ≡ statuses.Words
  pub unread : Keeps old_left new_left
  pub unwritten : Keeps old_written new_written

abbrev pub RunsRecord : Bool → Status → Option (List ℕ) → Option (List ℕ) → Option (List ℕ) → Option (List ℕ) → Type 0
RunsRecord true status old_left new_left old_written new_written = RunsByEnd status old_left new_left old_written new_written
RunsRecord false status old_left new_left old_written new_written = IsUnheard status old_left new_left old_written new_written
