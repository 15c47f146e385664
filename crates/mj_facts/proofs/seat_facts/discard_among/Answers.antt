use Rattle.std.proofs.Common.{◌++◌, ◌∷◌, [], refl, arith}
use Rattle.mj_deeds.specs.declared.deed.Deed.TheVariants.{Discard}
use Rattle.mj_facts.proofs.EachSeat.{each_seat}
use Rattle.mj_facts.specs.Seats.{Keeps}
use Rattle.mj_facts.proofs.seat_facts.discard_among.Goals as goal

pub returns : goal.returns
returns c before drawn k =
    each_seat (λ seat facts. Keeps (before ++ Discard c.args.from c.args.tile drawn ∷ []) seat facts) _ _ _ _
    (c.see_discard.ensures before c.args.from 0 drawn refl (k 0 (omega arith))) (c.see_discard-2.ensures before c.args.from 1 drawn refl (k 1 (omega arith)))
    (c.see_discard-3.ensures before c.args.from 2 drawn refl (k 2 (omega arith))) (c.see_discard-4.ensures before c.args.from 3 drawn refl (k 3 (omega arith)))
