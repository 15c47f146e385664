-- Each call goes on to fewer numbers. What is chosen from the plan that was come to is what is chosen from the first one.
use Rattle.std.proofs.Common.{◌≡◌, ◌+◌, ◌*◌, ◌≤◌, length}
use Rattle.mj_suits.specs.Inner.Choosing.{IsPlan}
use Rattle.mj_suits.proofs.Choices.{GoesOn}
use Rattle.mj_suits.proofs.choosing.+choosing.Given as goal

abbrev pub decreases-choose_from : goal.decreases-choose_from
decreases-choose_from l = 3 * length l.levels.now

abbrev pub decreases-choose_both : goal.decreases-choose_both
decreases-choose_both l = 3 * length l.others.now + 2

abbrev pub decreases-choose_next : goal.decreases-choose_next
decreases-choose_next l = 3 * length l.others.now + 1

abbrev pub invariant-choose_from-loop-left : goal.invariant-choose_from-loop-left
invariant-choose_from-loop-left l =
    IsPlan l.aim l.left l.next
    × ((length l.chosen ≡ 9)
    × ((length l.left ≤ length l.levels)
    × GoesOn l.aim l.left l.next l.chosen l.levels l.plan l.target))

abbrev pub decreases-choose_from-loop-left : goal.decreases-choose_from-loop-left
decreases-choose_from-loop-left l = length l.left
