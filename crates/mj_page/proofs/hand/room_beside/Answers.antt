use Rattle.std.proofs.Common.{refl, arith, ◌∙◌}
use Rattle.mj_tiles.proofs.CountSteps.{counts_none}
use Rattle.mj_page.proofs.Hands.{left_is}
use Rattle.mj_page.proofs.hand.room_beside.Goals as goal

pub loop-kind-init : goal.loop-kind-init
loop-kind-init c = record { size = refl; written = λ k few. absurd (omega arith); bound = counts_none.1 }

pub returns : goal.returns
returns c = c.from_numbers.ensures ∙ left_is c.args.melds.now c.loop-kind.room c.loop-kind.kind c.loop-kind.invariant.size (omega arith) c.loop-kind.invariant.written
