use Rattle.std.proofs.Common.{◌≡◌, length}
use Rattle.mj_table.proofs.Sights.{IsTaken}
use Rattle.mj_table.proofs.seeing.hide.Given as goal

abbrev pub invariant-loop-kind : goal.invariant-loop-kind
invariant-loop-kind l = (length l.numbers ≡ 34) × IsTaken l.held l.fn.numbers l.numbers l.kind
