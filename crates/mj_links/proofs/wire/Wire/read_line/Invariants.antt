use Rattle.std.proofs.Common.{◌≡◌, ◌-◌, [], length}
use Rattle.mj_links.specs.LineBuffers.{wire_held, wire_link}
use Rattle.mj_links.proofs.WireLaws.{ReadingLine}
use Rattle.mj_links.proofs.wire.Wire.read_line.Given as goal

abbrev pub invariant-loop-end : goal.invariant-loop-end
invariant-loop-end g l = ReadingLine
    (g.L.Source.left (wire_link l.initial.self)) (g.L.Source.left (wire_link l.self))
    (g.L.Link.was_read (wire_link l.initial.self)) (g.L.Link.was_read (wire_link l.self))
    (g.L.Sink.written (wire_link l.initial.self)) (g.L.Sink.written (wire_link l.self))
    (wire_held l.initial.self) (wire_held l.self) l.initial.line.items l.line.items
    (g.L.Source.read_faults (wire_link l.initial.self)) (g.L.Source.read_faults (wire_link l.self))
    (g.L.Sink.write_faults (wire_link l.initial.self)) (g.L.Sink.write_faults (wire_link l.self))
    × (wire_held l.initial.self ≡ [] → g.L.Link.at_end (wire_link l.initial.self) → (wire_held l.self ≡ []) × g.L.Link.at_end (wire_link l.self))

abbrev pub decreases-loop-end : goal.decreases-loop-end
decreases-loop-end g l = 4096 - length (wire_held l.self)
