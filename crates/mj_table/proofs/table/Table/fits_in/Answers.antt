use Rattle.std.proofs.Common.{[], sym, ap, cond}
use Rattle.mj_deeds.specs.Hand.{hand}
use Rattle.mj_table.proofs.NewestHand.{few_in_hand, few_none}
use Rattle.mj_table.proofs.Readers.{inside_told}
use Rattle.mj_table.proofs.table.Table.fits_in.Goals as goal

pub returns-then-is_hand_start : goal.returns-then-is_hand_start
returns-then-is_hand_start c =
    inside_told c.self.inside.rules c.self.inside.past.items c.args.self.now c.args.deed.now c.is_hand_start.result c.fits_in.result [] c.self.view_is c.is_hand_start.ensures
    (ap (λ b. cond b [] (hand c.self.inside.past.items)) (sym c.if-is_hand_start.true)) (c.fits_in.ensures [] c.nothing_held.ensures few_none c.no_facts.ensures)

pub returns : goal.returns
returns c =
    inside_told c.self.inside.rules c.self.inside.past.items c.args.self.now c.args.deed.now c.is_hand_start.result c.fits_in-2.result
    (hand c.self.inside.past.items) c.self.view_is c.is_hand_start.ensures
    (ap (λ b. cond b [] (hand c.self.inside.past.items)) (sym c.if-is_hand_start.false))
    (c.fits_in-2.ensures (hand c.self.inside.past.items) c.self.invariant.concealed (few_in_hand c.self.inside.rules.red c.self.inside.past.items c.self.invariant.fit) c.self.invariant.facts)
