use Rattle.std.proofs.Common.{length}
use Rattle.mj_links.proofs.WriteLaws.{WrittenSoFar}
use Rattle.mj_links.proofs.whole.write_all.Given as goal

abbrev pub invariant-loop-rest : goal.invariant-loop-rest
invariant-loop-rest g l = WrittenSoFar (g.K.Sink.written l.initial.sink) (g.K.Sink.written l.sink) l.piece l.rest (g.K.Sink.write_faults l.initial.sink) (g.K.Sink.write_faults l.sink)

abbrev pub decreases-loop-rest : goal.decreases-loop-rest
decreases-loop-rest g l = length l.rest
