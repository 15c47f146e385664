use Rattle.std.proofs.Common.{arith, refl, sym, ap, ◌∙◌}
use Rattle.mj_suits.specs.Rows.{lane}
use Rattle.mj_shanten.proofs.Whole.{part_suit, target_rows, part_chosen, none_joint, found_joint, four_written}
use Rattle.mj_shanten.proofs.nearest_sets.nearest_sets.Goals as goal

pub walk_of-honours-requires-clause-suit : goal.walk_of-honours-requires-clause-suit
walk_of-honours-requires-clause-suit c = (let are = c.hand.invariant in part_suit _ _ 27 _ _ are.held_size (omega arith) are.within are.of_four are.room_size c.suit_at.ensures)

pub walk_of-bamboo-requires-clause-suit : goal.walk_of-bamboo-requires-clause-suit
walk_of-bamboo-requires-clause-suit c = (let are = c.hand.invariant in part_suit _ _ 18 _ _ are.held_size (omega arith) are.within are.of_four are.room_size c.suit_at-2.ensures)

pub walk_of-circles-requires-clause-suit : goal.walk_of-circles-requires-clause-suit
walk_of-circles-requires-clause-suit c = (let are = c.hand.invariant in part_suit _ _ 9 _ _ are.held_size (omega arith) are.within are.of_four are.room_size c.suit_at-3.ensures)

pub walk_of-characters-requires-clause-suit : goal.walk_of-characters-requires-clause-suit
walk_of-characters-requires-clause-suit c = (let are = c.hand.invariant in part_suit _ _ 0 _ _ are.held_size (omega arith) are.within are.of_four are.room_size c.suit_at-4.ensures)

pub returns-then-at-eq0 : goal.returns-then-at-eq0
returns-then-at-eq0 c = none_joint _ _ _ _ _ _ _ _ _ c.hand.view_is
    (target_rows _ _ _ _ _ _ _ _ _ _ _ _ _ _ c.hand.invariant c.start.ensures c.suit_at.ensures c.suit_at-2.ensures c.suit_at-3.ensures c.suit_at-4.ensures
    c.walk_of-honours.ensures c.row.ensures c.walk_of-bamboo.ensures c.row-2.ensures c.walk_of-circles.ensures c.row-3.ensures c.walk_of-characters.ensures)
    c.requires (sym (ap (λ r. lane r c.args.sets 1) c.row-4.ensures) ∙ sym c.at.ensures ∙ c.if-at-eq0.true)

pub returns : goal.returns
returns c = found_joint _ _ _ _ _ _ _ _ _ _ _ _ _ _ _ _ _ _ _ _ _ _ _ _ _ _ c.hand.view_is
    (target_rows _ _ _ _ _ _ _ _ _ _ _ _ _ _ c.hand.invariant c.start.ensures c.suit_at.ensures c.suit_at-2.ensures c.suit_at-3.ensures c.suit_at-4.ensures
    c.walk_of-honours.ensures c.row.ensures c.walk_of-bamboo.ensures c.row-2.ensures c.walk_of-circles.ensures c.row-3.ensures c.walk_of-characters.ensures)
    c.requires c.suit_at-4.ensures c.suit_at-3.ensures c.suit_at-2.ensures c.suit_at.ensures (λ none. c.if-at-eq0.false (c.at.ensures ∙ ap (λ r. lane r c.args.sets 1) c.row-4.ensures ∙ none))
    (part_chosen _ _ _ _ _ _ _ c.walk_of-characters.ensures c.row-3.ensures c.part-first.ensures)
    (part_chosen _ _ _ _ _ _ _ c.walk_of-circles.ensures c.row-2.ensures c.part-second.ensures)
    (part_chosen _ _ _ _ _ _ _ c.walk_of-bamboo.ensures c.row.ensures c.part-third.ensures)
    (part_chosen _ _ _ _ _ _ _ c.walk_of-honours.ensures refl c.part-fourth.ensures)
    (four_written _ _ _ _ _ _ _ _ (omega arith) c.with_nine-target.ensures c.with_nine-target-2.ensures c.with_nine-target-3.ensures c.with_nine.ensures)
