use Rattle.std.proofs.Common.{length}
use Rattle.mj_links.specs.Links.{ReadingStays}
use Rattle.mj_links.proofs.WriteLaws.{WrittenSoFar}
use Rattle.mj_links.proofs.wire.push.Given as goal

abbrev pub invariant-loop-rest : goal.invariant-loop-rest
invariant-loop-rest g l =
    WrittenSoFar (g.L.Sink.written l.initial.link) (g.L.Sink.written l.link) l.piece l.rest (g.L.Sink.write_faults l.initial.link) (g.L.Sink.write_faults l.link)
    × ReadingStays (g.L.Link.was_read l.initial.link) (g.L.Link.was_read l.link) (g.L.Source.left l.initial.link) (g.L.Source.left l.link)
    (g.L.Source.read_faults l.initial.link) (g.L.Source.read_faults l.link)

abbrev pub decreases-loop-rest : goal.decreases-loop-rest
decreases-loop-rest g l = length l.rest
