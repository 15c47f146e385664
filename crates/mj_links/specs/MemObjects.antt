-- What the objects in memory have left and written, and which of their calls fail next.
use Rattle.std.specs.Prelude.{ℕ, List, take, drop}
use Rattle.mj_links.specs.declared.plan.Plan.{Plan}
use Rattle.mj_links.specs.declared.mem_source.MemSource.{MemSource}
use Rattle.mj_links.specs.declared.mem_sink.MemSink.{MemSink}

-- the bytes that are still to be read
abbrev pub unread : MemSource → List ℕ
unread s = drop s.at s.bytes.items

-- the bytes that were read so far
abbrev pub gone : MemSource → List ℕ
gone s = take s.at s.bytes.items

-- which of the reads fail, and how many were made
abbrev pub read_plan : MemSource → Plan
read_plan s = s.plan

-- the faults that the source met
abbrev pub source_faults : MemSource → ℕ
source_faults s = s.faults.count

-- the bytes that were written
abbrev pub written_bytes : MemSink → List ℕ
written_bytes s = s.bytes.items

-- the faults that the sink met
abbrev pub sink_faults : MemSink → ℕ
sink_faults s = s.faults.count

-- which of the writes fail, and how many were made
abbrev pub write_plan : MemSink → Plan
write_plan s = s.plan
