-- The best hand so far, handed on for the functions of this crate.
use Rattle.std.proofs.Common.{◌≡◌, ◌≢◌, ◌⊎◌, ℕ, List, false, Ordering, Less, Equal, Greater, Option, Some, refl, sym, subst, ap, ◌∙◌, inl, inr, length, take, drop, [], ◌∷◌, arith}
use Rattle.std.specs.Ordering.{nat_cmp, is_gt}
use Rattle.std.specs.Cmp.Lexicographic.{slice_cmp}
use Rattle.std.proofs.lemmas.List.{take-append-drop, length-take-le}
use Rattle.std.proofs.lemmas.Bool.{cases_lt}
use Rattle.mj_suits.specs.Targets.{missing, IsNearest}
use Rattle.mj_suits.specs.Improves.{AsNear, Improves}
use Rattle.mj_suits.proofs.Near as near
use Rattle.mj_suits.proofs.Near.{missing-append}
use Rattle.mj_shanten.specs.Suits.{with_two}

-- one hand that is as near as all with the property stands for them
pub one_for_all : (held : List ℕ) (P : List ℕ → Type 0) (u : List ℕ) (a b : Option (ℕ × List ℕ)) → P u → ((t : List ℕ) → P t → AsNear (missing u held, u) (missing t held, t))
    → Improves held (λ t. t ≡ u) a b → Improves held P a b
one_for_all held P u a b p nearest found = record {
  one = which found.one;
  kept = found.kept;
  best = λ t h. near.AsGood-trans b (Some (missing u held, u)) (Some (missing t held, t)) (found.best u refl) (nearest t h);
}
  where
    which : (b ≡ a) ⊎ ((t : List ℕ) × (t ≡ u) × (b ≡ Some (missing t held, t))) → (b ≡ a) ⊎ ((t : List ℕ) × P t × (b ≡ Some (missing t held, t)))
    which (inl old) = inl old
    which (inr new) = inr (new.0, subst P (sym new.1) p, new.2)

-- the nearest of all with the property stands for them
pub nearest_for_all : (held : List ℕ) (P : List ℕ → Type 0) (target : List ℕ) (a b : Option (ℕ × List ℕ)) → IsNearest held P (missing target held) target
    → Improves held (λ t. t ≡ target) a b → Improves held P a b
nearest_for_all held P target a b nearest = one_for_all held P target a b nearest.is_one (λ t p. elim (cases_lt (missing target held) (missing t held)) [
  | inl less ↦ inl less
  | inr level ↦ (let l = nearest.least t p in let same : missing target held ≡ missing t held = omega arith in inr (same, not_gt (slice_cmp nat_cmp t target) (nearest.greatest t p (sym same))))
])
  where
    not_gt : (o : Ordering) → o ≢ Greater → is_gt o ≡ false
    not_gt Less other = refl
    not_gt Equal other = refl
    not_gt Greater other = absurd (other refl)

-- the two numbers that no kind has miss nothing
pub missing_two : (c held : List ℕ) → length c ≡ 34 → length held ≡ 36 → missing (with_two c) held ≡ missing c (take 34 held)
missing_two c held size wide =
    ap (λ h. missing (with_two c) h) (sym (take-append-drop 34 held))
    ∙ missing-append c (0 ∷ 0 ∷ []) (take 34 held) (drop 34 held) (size ∙ sym (length-take-le 34 held (omega arith)))
    ∙ (let e : missing (0 ∷ 0 ∷ []) (drop 34 held) ≡ 0 = nothing (drop 34 held) in omega arith)
  where
    nothing : (h : List ℕ) → missing (0 ∷ 0 ∷ []) h ≡ 0
    nothing [] = refl
    nothing (x ∷ []) = omega arith
    nothing (x ∷ y ∷ h) = omega arith
