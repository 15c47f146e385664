use Rattle.std.proofs.Common.{arith, subst, sym, ◌≡◌}
use Rattle.mj_shanten.specs.Inner.Special.{IsSpecial, IsLeastWith}
use Rattle.mj_shanten.proofs.Special.{least_goal, special_melds}
use Rattle.mj_shanten.proofs.nearest_hand.least_missing.Goals as goal

pub returns-then-melds-gt0 : goal.returns-then-melds-gt0
returns-then-melds-gt0 c = record {
  least = least_goal _ _ _ _ _ c.requires.few c.requires.room c.held-held.ensures.size c.held-held.ensures.room_size c.missing_of_sets-sets.ensures.least (special_melds _ _ _ c.if-melds-gt0.true);
  size = c.held-held.ensures.size;
}

pub returns : goal.returns
returns c =
    let none : c.args.melds ≡ 0 = omega arith in
    record {
      least = least_goal _ _ _ _ _ c.requires.few c.requires.room c.held-held.ensures.size c.held-held.ensures.room_size c.missing_of_sets-sets.ensures.least
          (subst (λ h. IsLeastWith h (IsSpecial c.args.melds) c.missing_of_sets-sets.result c.with_special.result) c.held-held.ensures.held
          (subst (λ m. IsLeastWith c.held-held.result.now (IsSpecial m) c.missing_of_sets-sets.result c.with_special.result) (sym none) c.with_special.ensures));
      size = c.held-held.ensures.size;
    }
