use Rattle.std.proofs.Common.{◌++◌, ◌∷◌, [], arith}
use Rattle.mj_facts.proofs.EachSeat.{each_seat}
use Rattle.mj_facts.specs.Seats.{Keeps}
use Rattle.mj_facts.proofs.seat_facts.keep_others.Goals as goal

pub returns : goal.returns
returns c before none few k =
    each_seat (λ seat facts. Keeps (before ++ c.args.deed.now ∷ []) seat facts) _ _ _ _
    (c.keep.ensures before none few (k 0 (omega arith))) (c.keep-2.ensures before none few (k 1 (omega arith)))
    (c.keep-3.ensures before none few (k 2 (omega arith))) (c.keep-4.ensures before none few (k 3 (omega arith)))
