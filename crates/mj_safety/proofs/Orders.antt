-- The first reason that holds.
use Rattle.std.proofs.Common.{◌≡◌, ℕ, Bool, true, false, cond, List, [], ◌∷◌, refl, ap, ◌∙◌, subst}
use Rattle.std.specs.Prelude.{find, Some, None}
use Rattle.mj_deeds.specs.declared.deed.Deed.{Deed}
use Rattle.mj_safety.specs.declared.reason.Reason.{Reason}
use Rattle.mj_safety.specs.declared.reason.Reason.TheVariants.{OwnDiscard, PassedInRiichi, Passed, Blocked}
use Rattle.mj_safety.specs.Safe.{reason_holds, all_reasons, safe_reason}
use Rattle.mj_safety.specs.Laws.{FirstReasonIsGiven}

-- What is found passes.
found_passes : {A : Type 0} (p : A → Bool) (xs : List A) (x : A) → find p xs ≡ Some x → p x ≡ true
found_passes p [] x e = absurd (nothing x e)
  where
    nothing : {A : Type 0} (x : A) → None ≡ Some x → ⊥
    nothing x e = cc
found_passes {A = A} p (y ∷ ys) x e = by_test (p y) (λ k. found_passes p ys x k) refl e
  where
    same : (a b : A) → Some a ≡ Some b → a ≡ b
    same a b e = cc

    by_test : (b : Bool) → (find p ys ≡ Some x → p x ≡ true) → p y ≡ b → cond b (Some y) (find p ys) ≡ Some x → p x ≡ true
    by_test true rest h k = subst (λ (z : A). p z ≡ true) (same y x k) h
    by_test false rest h k = rest k

here : (p : Reason → Bool) (x : Reason) (xs : List Reason) → p x ≡ true → find p (x ∷ xs) ≡ Some x
here p x xs h = ap (λ b. cond b (Some x) (find p xs)) h

later : (p : Reason → Bool) (x : Reason) (xs : List Reason) → p x ≡ false → find p (x ∷ xs) ≡ find p xs
later p x xs h = ap (λ b. cond b (Some x) (find p xs)) h

pub given_holds : (ds : List Deed) (seat against kind : ℕ) (reason : Reason) → safe_reason ds seat against kind ≡ Some reason → reason_holds ds seat against kind reason ≡ true
unfolding safe_reason
given_holds ds seat against kind reason e = found_passes (reason_holds ds seat against kind) all_reasons reason e

pub first_reason : FirstReasonIsGiven
unfolding safe_reason
first_reason ds seat against kind = record {
  own = λ h. here p OwnDiscard behind_own h;
  since = λ a h. later p OwnDiscard behind_own a ∙ here p PassedInRiichi behind_since h;
  passed = λ a b h. later p OwnDiscard behind_own a ∙ later p PassedInRiichi behind_since b ∙ here p Passed behind_passed h;
  blocked = λ a b c h. later p OwnDiscard behind_own a ∙ later p PassedInRiichi behind_since b ∙ later p Passed behind_passed c ∙ here p Blocked [] h;
  none = λ h.
      later p OwnDiscard behind_own (h OwnDiscard) ∙ later p PassedInRiichi behind_since (h PassedInRiichi) ∙ later p Passed behind_passed (h Passed)
      ∙ later p Blocked [] (h Blocked);
  holds = λ reason e. given_holds ds seat against kind reason e;
}
  where
    p : Reason → Bool
    p reason = reason_holds ds seat against kind reason

    behind_passed : List Reason
    behind_passed = Blocked ∷ []

    behind_since : List Reason
    behind_since = Passed ∷ Blocked ∷ []

    behind_own : List Reason
    behind_own = PassedInRiichi ∷ Passed ∷ Blocked ∷ []
