use Rattle.mj_links.proofs.ReadLaws.{ReadSoFar}
use Rattle.mj_links.proofs.whole.read_all.Given as goal

abbrev pub invariant-loop-n : goal.invariant-loop-n
invariant-loop-n g l =
    ReadSoFar (g.S.Source.left l.initial.source) (g.S.Source.left l.source) l.initial.into.items l.into.items l.limit l.room
    (g.S.Source.read_faults l.initial.source) (g.S.Source.read_faults l.source)

abbrev pub decreases-loop-n : goal.decreases-loop-n
decreases-loop-n g l = l.room
