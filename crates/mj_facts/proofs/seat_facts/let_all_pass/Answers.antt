use Rattle.std.proofs.Common.{◌++◌, ◌∷◌, [], arith}
use Rattle.mj_facts.proofs.EachSeat.{each_seat}
use Rattle.mj_facts.specs.Seats.{Keeps}
use Rattle.mj_facts.proofs.seat_facts.let_all_pass.Goals as goal

pub returns : goal.returns
returns c before deed o k =
    each_seat (λ seat facts. Keeps (before ++ deed ∷ []) seat facts) _ _ _ _
    (c.let_pass.ensures before deed 0 (o 0) (k 0 (omega arith))) (c.let_pass-2.ensures before deed 1 (o 1) (k 1 (omega arith)))
    (c.let_pass-3.ensures before deed 2 (o 2) (k 2 (omega arith))) (c.let_pass-4.ensures before deed 3 (o 3) (k 3 (omega arith)))
