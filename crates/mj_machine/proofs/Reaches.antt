-- Whether a discard is that of a reach.
use Rattle.std.proofs.Common.{◌≡◌, ◌-◌, Bool, true, false, cond, List, [], ◌∷◌, length, take, refl, ap, sym, ◌∙◌}
use Rattle.std.specs.Prelude.{Option, Some, None, option_and_then}
use Rattle.std.specs.Option.{option_map_or}
use Rattle.mj_deeds.specs.declared.deed.Deed.{Deed}
use Rattle.mj_deeds.specs.declared.deed.Deed.TheVariants.{Discard}
use Rattle.mj_deeds.specs.Course.{cause, comes_of, only_if, is_reach}
use Rattle.mj_deeds.specs.Facts.{newest, before_newest, is_discard}
use Rattle.mj_deeds.specs.Fits.{all_fit, is_in_hand}
use Rattle.mj_deeds.specs.Hand.{hand}
use Rattle.mj_deeds.proofs.Fitted.{hand_begun}
use Rattle.mj_table.proofs.InHand.{cause_in_hand, newest_in_hand}

only_reaches : (o : Option Deed) → option_map_or is_reach (only_if is_reach o) false ≡ option_map_or is_reach o false
only_reaches None = refl
only_reaches (Some d) = by_test (is_reach d) refl
  where
    by_test : (b : Bool) → is_reach d ≡ b → option_map_or is_reach (cond b (Some d) None) false ≡ is_reach d
    by_test true e = refl
    by_test false e = sym e

discarded_in_hand : (o : Option Deed) → option_map_or is_discard o false ≡ true → is_in_hand o ≡ true
discarded_in_hand None h = cc
discarded_in_hand (Some (Discard who tile drawn)) h = refl
discarded_in_hand (Some other) h = cc

-- What a discard comes of is a reach exactly where the deed before it in its hand is one.
pub of_reach : (red : Bool) (ds : List Deed) → all_fit red [] ds ≡ true → option_map_or is_discard (newest ds) false ≡ true →
    option_map_or is_reach (cause ds) false ≡ option_map_or is_reach (before_newest (hand ds)) false
of_reach red ds fit h = ap (λ o. option_map_or is_reach o false) (sym (cause_in_hand red ds fit)) ∙ by_hand (hand ds) refl
  where
    by_newest : (hs : List Deed) (o : Option Deed) → option_map_or is_discard o false ≡ true →
        option_map_or is_reach (option_and_then (comes_of (take (length hs - 1) hs)) o) false ≡ option_map_or is_reach (before_newest hs) false
    by_newest hs None k = cc
    by_newest hs (Some (Discard who tile drawn)) k = only_reaches (before_newest hs)
    by_newest hs (Some other) k = cc

    by_hand : (hs : List Deed) → hand ds ≡ hs → option_map_or is_reach (cause (hand ds)) false ≡ option_map_or is_reach (before_newest (hand ds)) false
    by_hand [] e = absurd (hand_begun red ds fit (discarded_in_hand (newest ds) h) e)
    by_hand (x ∷ xs) e =
        ap (λ (hs : List Deed). option_map_or is_reach (cause hs) false) e
        ∙ by_newest (x ∷ xs) (newest (x ∷ xs)) (ap (λ o. option_map_or is_discard o false) (newest_in_hand ds x xs e) ∙ h)
        ∙ ap (λ (hs : List Deed). option_map_or is_reach (before_newest hs) false) (sym e)
