-- What the command `record` does once a journal was opened.
use Rattle.std.specs.Prelude.{◌≡◌, ℕ, List, Option}
use Rattle.std.specs.Io.KnownBytes.{Appends, Keeps}
use Rattle.mj_links.specs.Sinks.{WritesPrefix}
use Rattle.mj_ports.specs.declared.entry.Entry.{Entry}
use Rattle.mj_deeds.specs.declared.answer.Answer.{Answer}
use Rattle.mj_wall.specs.declared.setting.Setting.{Setting}
use Rattle.mj_core.specs.Calls.{record_of}
use Rattle.mj_journal.specs.Founding.{GivesEntries}
use Rattle.mj_journal.specs.Openings.{Opening, Bad}
use Rattle.mj_record.specs.declared.journal.RecordEnd.{RecordEnd}
use Rattle.mj_record.specs.declared.journal.RecordEnd.TheVariants as ends

-- What is written of a record, by the end: nothing is read any more, and the journal isn't bad.
abbrev pub WritesRecord : RecordEnd → List ℕ → Option (List ℕ) → Option (List ℕ) → Type 0
WritesRecord ends.Written text old new = Appends old new text
WritesRecord (ends.Bad place) text old new = ⊥
WritesRecord ends.WriteFault text old new = WritesPrefix old new text
WritesRecord ends.ReadFault text old new = ⊥
WritesRecord ends.TooLong text old new = ⊥
WritesRecord ends.NoMemory text old new = Keeps old new

-- The record of the game of a setting is written, whole or in part, with the entries that its journal gives.
pub record IsOpened (IsWritten : List ℕ → Type 0) (setting : Setting) (opening : Opening (List (Entry Answer))) : Type 0 where
  pub entries : List (Entry Answer)
  pub end : ℕ
  pub gives : GivesEntries opening entries end
  pub record_is : IsWritten (record_of (record { setting = setting; entries = entries }))

-- What is written of the game of a setting whose journal opens so, by the end; no read can fail any more.
abbrev pub WritesOpened : RecordEnd → Setting → Opening (List (Entry Answer)) → Option (List ℕ) → Option (List ℕ) → Type 0
WritesOpened ends.Written setting opening old new = IsOpened (Appends old new) setting opening
WritesOpened (ends.Bad place) setting opening old new = (opening ≡ Bad place) × Keeps old new
WritesOpened ends.WriteFault setting opening old new = IsOpened (WritesPrefix old new) setting opening
WritesOpened ends.ReadFault setting opening old new = ⊥
WritesOpened ends.TooLong setting opening old new = ⊥
WritesOpened ends.NoMemory setting opening old new = Keeps old new
