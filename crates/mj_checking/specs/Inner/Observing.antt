-- What the command `observe` does once a record was read.
use Rattle.std.specs.Prelude.{ℕ, List, Option}
use Rattle.std.specs.Io.KnownBytes.{Appends, Keeps}
use Rattle.mj_links.specs.Sinks.{WritesPrefix}
use Rattle.mj_deeds.specs.declared.deed.Deed.{Deed}
use Rattle.mj_observe.specs.Views.{public_view}
use Rattle.mj_checking.specs.declared.replay.ReplayEnd.{ReplayEnd}
use Rattle.mj_checking.specs.declared.replay.ReplayEnd.TheVariants as ends

-- What is written of deeds, by the end: neither a fault of the record nor one of the source is met any more.
abbrev pub WritesView : ReplayEnd → List Deed → Option (List ℕ) → Option (List ℕ) → Type 0
WritesView ends.Written deeds old new = Appends old new (public_view deeds)
WritesView (ends.Bad line cause) deeds old new = ⊥
WritesView ends.WriteFault deeds old new = WritesPrefix old new (public_view deeds)
WritesView ends.ReadFault deeds old new = ⊥
WritesView ends.TooLong deeds old new = ⊥
WritesView ends.NoMemory deeds old new = Keeps old new
