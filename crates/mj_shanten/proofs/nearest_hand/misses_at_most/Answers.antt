use Rattle.std.proofs.Common.{arith, sym, subst}
use Rattle.mj_shanten.specs.Inner.Special.{IsSpecial, IsLeastWith}
use Rattle.mj_shanten.proofs.Fewest.{sets_enough, sets_decide, all_decide}
use Rattle.mj_shanten.proofs.nearest_hand.misses_at_most.Goals as goal

pub returns-then-from-most : goal.returns-then-from-most
returns-then-from-most c = sets_enough _ _ _ _ _ c.requires.few c.requires.room c.held-held.ensures.size c.held-held.ensures.room_size c.missing_of_sets-sets.ensures.least (omega arith)

pub returns-then-melds-gt0 : goal.returns-then-melds-gt0
returns-then-melds-gt0 c = sets_decide _ _ _ _ _ c.requires.few (omega arith) c.requires.room c.held-held.ensures.size c.held-held.ensures.room_size c.missing_of_sets-sets.ensures.least (omega arith)

pub returns : goal.returns
returns c =
    all_decide _ _ c.held-held.result.now _ _ c.from-2.result _
    (omega arith) c.held-held.ensures.held c.requires.room c.held-held.ensures.size c.held-held.ensures.room_size c.missing_of_sets-sets.ensures.least
    (subst (λ n. IsLeastWith c.held-held.result.now (IsSpecial 0) c.missing_of_sets-sets.result n) (sym c.from-2.ensures) c.with_special.ensures)
