use Rattle.std.proofs.Common.{refl, arith}
use Rattle.mj_shanten.proofs.Doubles.{written_orphans}
use Rattle.mj_shanten.proofs.Written.{written_more}
use Rattle.mj_lists.proofs.Fronts.{zero_at}
use Rattle.mj_shanten.proofs.orphans.with_double.Goals as goal

pub loop-kind-init : goal.loop-kind-init
loop-kind-init c = record { size = refl; before = λ k few. absurd (omega arith); later = λ k past. zero_at 36 k }

pub loop-kind-preserved : goal.loop-kind-preserved
loop-kind-preserved c = written_more _ _ _ _ (omega arith) c.number_in_orphans.ensures c.loop-kind.invariant

pub returns : goal.returns
returns c = written_orphans _ _ _ (omega arith) c.loop-kind.invariant
