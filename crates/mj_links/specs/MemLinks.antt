-- What links in memory have read, left and written, and which of their calls fail next.
use Rattle.std.specs.Prelude.{ℕ, List, Some}
use Rattle.mj_links.specs.declared.plan.Plan.{Plan}
use Rattle.mj_links.specs.declared.source.Got.{Got}
use Rattle.mj_links.specs.declared.sink.Put.{Put}
use Rattle.mj_links.specs.declared.mem_link.MemLink.{MemLink}
use Rattle.mj_links.specs.MemObjects.{unread, gone, read_plan, source_faults, written_bytes, sink_faults, write_plan}
use Rattle.mj_links.specs.Links.{ReadsOn, ReadingStays, WritingStays}

-- the bytes that are still to be read
abbrev pub link_unread : MemLink → List ℕ
link_unread l = unread l.source

-- the bytes that were read so far
abbrev pub link_gone : MemLink → List ℕ
link_gone l = gone l.source

-- the faults of reading that the link met
abbrev pub link_read_faults : MemLink → ℕ
link_read_faults l = source_faults l.source

-- which of the reads fail, and how many were made
abbrev pub link_reads : MemLink → Plan
link_reads l = read_plan l.source

-- the bytes that were written
abbrev pub link_written : MemLink → List ℕ
link_written l = written_bytes l.sink

-- the faults of writing that the link met
abbrev pub link_write_faults : MemLink → ℕ
link_write_faults l = sink_faults l.sink

-- which of the writes fail, and how many were made
abbrev pub link_writes : MemLink → Plan
link_writes l = write_plan l.sink

-- a read puts its bytes after what was read, and leaves the writing half alone
abbrev pub MemReadsApart : Got → List ℕ → MemLink → MemLink → Type 0
MemReadsApart got into old new =
    ReadsOn got into (Some (link_gone old)) (Some (link_gone new))
    × WritingStays (Some (link_written old)) (Some (link_written new)) (link_write_faults old) (link_write_faults new)

-- a write leaves the reading half alone
abbrev pub MemWritesApart : Put → List ℕ → MemLink → MemLink → Type 0
MemWritesApart put piece old new = ReadingStays (Some (link_gone old)) (Some (link_gone new)) (Some (link_unread old)) (Some (link_unread new)) (link_read_faults old) (link_read_faults new)
