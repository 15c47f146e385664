-- What the command `replay` does once a record was checked.
use Rattle.std.specs.Prelude.{ℕ, List, Option}
use Rattle.std.specs.Io.KnownBytes.{Appends, Keeps}
use Rattle.mj_links.specs.Sinks.{WritesPrefix}
use Rattle.mj_history.specs.Told.{Summary}
use Rattle.mj_checking.specs.declared.replay.ReplayEnd.{ReplayEnd}
use Rattle.mj_checking.specs.declared.replay.ReplayEnd.TheVariants as ends
use Rattle.mj_checking.specs.Replay.{replay_text}

-- What is written of a summary, by the end: neither a fault of the record nor one of the source is met any more.
abbrev pub WritesSummary : ReplayEnd → Summary → Option (List ℕ) → Option (List ℕ) → Type 0
WritesSummary ends.Written summary old new = Appends old new (replay_text summary)
WritesSummary (ends.Bad line cause) summary old new = ⊥
WritesSummary ends.WriteFault summary old new = WritesPrefix old new (replay_text summary)
WritesSummary ends.ReadFault summary old new = ⊥
WritesSummary ends.TooLong summary old new = ⊥
WritesSummary ends.NoMemory summary old new = Keeps old new
