-- What is chosen from a number on.
use Rattle.std.proofs.Common.{rules, refl, ap, set, arith}
use Rattle.mj_suits.proofs.Choices.{past_end, greater_choice, next_plan_is, way_greatest, first_and_others, only_goes_on, both_go_on}
use Rattle.mj_suits.proofs.choosing.+choosing.Goals as goal

pub choose_both-returns : goal.choose_both-returns
choose_both-returns t c = greater_choice _ _ _ _ _ _ c.choose_next.ensures c.choose_next-2.ensures c.greater_of.ensures

pub choose_next-choose_from-requires : goal.choose_next-choose_from-requires
choose_next-choose_from-requires t c = (search rules, next_plan_is _ _ _ _ _ _ c.requires.plan c.requires.way c.next_plan.ensures)

pub choose_next-returns : goal.choose_next-returns
choose_next-returns t c = way_greatest _ _ _ _ _ _ _ _ _ (omega arith) c.requires.plan c.requires.way c.next_plan.ensures
    (ap (λ n. set c.args.target.now c.args.plan.now.number n) c.tiles_at.ensures) c.choose_from.ensures

pub choose_from-returns : goal.choose_from-returns
choose_from-returns t c = c.loop-left.invariant.1.1.1 _ (past_end _ _ _ _ _ (omega arith) c.loop-left.invariant.1.0 c.loop-left.invariant.0 refl refl refl)

pub choose_from-returns-in-Some : goal.choose_from-returns-in-Some
choose_from-returns-in-Some t c = both_go_on _ _ _ _ _ _ _ _ _ _ _ _
    (first_and_others _ _ c.in-len1-up.len_at_least) c.loop-left.invariant.0 c.most_ways-ways.ensures c.in-Some.is c.loop-left.invariant.1.1.1 c.choose_both.ensures

pub choose_from-loop-left-preserved : goal.choose_from-loop-left-preserved
choose_from-loop-left-preserved t c =
    only_goes_on _ _ _ _ _ _ _ _ _ _ _ _
    (first_and_others _ _ c.in-len1-up.len_at_least) c.loop-left.invariant.1.0 c.loop-left.invariant.0 c.most_ways-ways.ensures c.in_default-second.is c.next_plan-next.ensures
    (ap (λ n. set c.loop-left.chosen c.loop-left.next.number n) c.tiles_at.ensures) c.loop-left.invariant.1.1.0 c.loop-left.invariant.1.1.1
