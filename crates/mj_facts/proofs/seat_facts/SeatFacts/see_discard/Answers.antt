use Rattle.std.proofs.Common.{◌∙◌}
use Rattle.mj_deeds.specs.declared.deed.Deed.TheVariants.{Discard}
use Rattle.mj_facts.proofs.SeatTurns.{discard_offers}
use Rattle.mj_facts.proofs.seat_facts.SeatFacts.see_discard.Goals as goal

pub returns-then-own : goal.returns-then-own
returns-then-own c before from who drawn is k = c.discard.ensures before from who drawn (is ∙ c.if-own.true) k

pub returns : goal.returns
returns c before from who drawn is k =
    c.be_offered.ensures before (Discard from c.args.tile drawn) who (discard_offers from who c.args.tile drawn (is ∙ c.if-own.false)) k
