use Rattle.std.proofs.Common.{arith, ap, ◌∙◌}
use Rattle.mj_tiles.specs.Counts.{kind_counts}
use Rattle.mj_hand.proofs.HandSteps.{no_counts, no_room, not_within, red_twice, whole_hand}
use Rattle.mj_hand.proofs.hand.hand_with.Goals as goal

pub returns-in_default : goal.returns-in_default
returns-in_default c = no_counts _ _ _ _ c.as_slice.ensures.value c.in_default.ensures

pub returns-in_default-counts_of : goal.returns-in_default-counts_of
returns-in_default-counts_of c = no_room _ _ _ _ c.as_slice-2.ensures.value c.in_default-counts_of.ensures

pub returns-then-not-are_within_four : goal.returns-then-not-are_within_four
returns-then-not-are_within_four c =
    not_within _ _ _ _ _ c.are_within_four.result (c.in-Some.ensures.1 ∙ ap kind_counts c.as_slice.ensures.value)
    (c.in-Some-counts_of.ensures.1 ∙ ap kind_counts c.as_slice-2.ensures.value) c.are_within_four.ensures c.if-not-are_within_four.true

pub returns-then-not-has_each_red_once : goal.returns-then-not-has_each_red_once
returns-then-not-has_each_red_once c =
    red_twice _ _ _ _ _ c.has_each_red_once.result c.as_slice-3.ensures.value c.as_slice-4.ensures.value c.has_each_red_once.ensures c.if-not-has_each_red_once.true

pub returns : goal.returns
returns c =
    whole_hand c.args.gathered.now.held.items c.args.gathered.now.melded.items _ _ _ _ c.are_within_four.result (omega arith) (c.in-Some.ensures.1 ∙ ap kind_counts c.as_slice.ensures.value)
    (c.in-Some-counts_of.ensures.1 ∙ ap kind_counts c.as_slice-2.ensures.value) c.room_left.ensures c.are_within_four.ensures c.if-not-are_within_four.false _ _
    c.has_each_red_once.result c.as_slice-3.ensures.value c.as_slice-4.ensures.value c.has_each_red_once.ensures c.if-not-has_each_red_once.false
