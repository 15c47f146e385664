use Rattle.std.proofs.Common.{◌≡◌, subst}
use Rattle.mj_suits.specs.Improves.{Improves}
use Rattle.mj_suits.proofs.Near.{Improves-not}
use Rattle.mj_shanten.proofs.Hands.{nearest_for_all}
use Rattle.mj_shanten.proofs.Whole.{held_of}
use Rattle.mj_shanten.proofs.nearest_sets.take_sets.Goals as goal

pub returns-in-Some : goal.returns-in-Some
returns-in-Some c = nearest_for_all _ _ _ _ _ c.in-Some.ensures
    (subst (λ h. Improves h (λ t. t ≡ c.in-Some.target) c.args.best.now c.keep_nearer.new.best) (held_of _ _ _ c.hand.view_is c.hand.invariant.held_is) c.keep_nearer.ensures)

pub returns-in_default : goal.returns-in_default
returns-in_default c = Improves-not _ _ _ (λ t joint. absurd (c.in_default.ensures t joint))
