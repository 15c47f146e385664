use Rattle.std.proofs.Common.{refl, arith, get_or, ap, sym}
use Rattle.mj_lists.proofs.Fronts.{zero_at}
use Rattle.mj_shanten.proofs.Written.{written_more, written_all}
use Rattle.mj_shanten.proofs.suits.with_room_for_two.Goals as goal

pub loop-kind-init : goal.loop-kind-init
loop-kind-init c = record { size = refl; before = λ k few. absurd (omega arith); later = λ k past. zero_at 36 k }

pub loop-kind-preserved : goal.loop-kind-preserved
loop-kind-preserved c = written_more (λ k. get_or c.numbers-numbers.result.now k 0) _ _ _ (omega arith) refl c.loop-kind.invariant

pub returns-clause-value : goal.returns-clause-value
returns-clause-value c = written_all (λ k. get_or c.numbers-numbers.result.now k 0) c.args.counts.now c.loop-kind.kind c.loop-kind.wide (omega arith) c.numbers-numbers.ensures.size
    (λ k low. ap (λ xs. get_or xs k 0) (sym c.numbers-numbers.ensures.value)) c.loop-kind.invariant
