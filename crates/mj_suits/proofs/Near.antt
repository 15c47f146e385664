-- What is as near, what is as good, and what a search makes of the best target so far.
use Rattle.std.proofs.Common.{◌≡◌, ◌≢◌, ◌⊎◌, false, ℕ, ◌+◌, ◌≤◌, Option, None, Some, List, [], ◌∷◌, ◌++◌, length, refl, sym, subst, ap, ◌∙◌, inl, inr, arith, Greater}
use Rattle.std.specs.Prelude.{MatchOption}
use Rattle.std.proofs.lemmas.Bool.{true≢false}
use Rattle.std.specs.Ordering.{nat_cmp, is_gt, ordering_reverse}
use Rattle.std.specs.Cmp.Lexicographic.{slice_cmp}
use Rattle.std.proofs.lemmas.Cmp.{upto, tied_itself, nat_list_cmp_total}
use Rattle.mj_suits.specs.Targets.{missing, IsNearest}
use Rattle.mj_suits.specs.Improves.{AsNear, AsGood, Improves}

-- what is greater is not less the other way round
pub not_less_back : (xs ys : List ℕ) → slice_cmp nat_cmp xs ys ≡ Greater → is_gt (slice_cmp nat_cmp ys xs) ≡ false
not_less_back xs ys greater = ap is_gt (nat_list_cmp_total.antisymm ys xs ∙ ap ordering_reverse greater)

AsNear-trans : (x y z : ℕ × List ℕ) → AsNear x y → AsNear y z → AsNear x z
AsNear-trans x y z (inl a) (inl b) = inl (omega arith)
AsNear-trans x y z (inl a) (inr b) = (let e : y.0 ≡ z.0 = b.0 in inl (omega arith))
AsNear-trans x y z (inr a) (inl b) = (let e : x.0 ≡ y.0 = a.0 in inl (omega arith))
AsNear-trans x y z (inr a) (inr b) = inr (a.0 ∙ b.0, upto nat_list_cmp_total z.1 y.1 x.1 b.1 a.1)

pub AsGood-trans : (x y z : Option (ℕ × List ℕ)) → AsGood x y → AsGood y z → AsGood x z
AsGood-trans x y None a b = tt
AsGood-trans x None (Some z) a b = absurd b
AsGood-trans None (Some y) (Some z) a b = absurd a
AsGood-trans (Some x) (Some y) (Some z) a b = AsNear-trans x y z a b

pub AsGood-refl : (x : Option (ℕ × List ℕ)) → AsGood x x
AsGood-refl None = tt
AsGood-refl (Some x) = inr (refl, ap is_gt (tied_itself nat_list_cmp_total x.1))

-- ---- two searches in a row

pub Improves-both : (held : List ℕ) (P Q R : List ℕ → Type 0) (a b c : Option (ℕ × List ℕ)) → ((t : List ℕ) → Q t → P t) → ((t : List ℕ) → R t → P t) → ((t : List ℕ) → P t → Q t ⊎ R t)
    → Improves held Q a b → Improves held R b c → Improves held P a c
Improves-both held P Q R a b c left right cases first second = record {
  one = which second.one first.one;
  kept = AsGood-trans c b a second.kept first.kept;
  best = λ t p. elim (cases t p) [
    | inl q ↦ AsGood-trans c b (Some (missing t held, t)) second.kept (first.best t q)
    | inr r ↦ second.best t r
  ];
}
  where
    which : (c ≡ b) ⊎ ((t : List ℕ) × R t × (c ≡ Some (missing t held, t))) → (b ≡ a) ⊎ ((t : List ℕ) × Q t × (b ≡ Some (missing t held, t)))
        → (c ≡ a) ⊎ ((t : List ℕ) × P t × (c ≡ Some (missing t held, t)))
    which (inl same) (inl old) = inl (same ∙ old)
    which (inl same) (inr new) = inr (new.0, left new.0 new.1, same ∙ new.2)
    which (inr new) first = inr (new.0, right new.0 new.1, new.2)

pub Improves-same : (held : List ℕ) (P Q : List ℕ → Type 0) (a b : Option (ℕ × List ℕ)) → ((t : List ℕ) → Q t → P t) → ((t : List ℕ) → P t → Q t) → Improves held Q a b → Improves held P a b
Improves-same held P Q a b to from found = record {
  one = which found.one;
  kept = found.kept;
  best = λ t p. found.best t (from t p);
}
  where
    which : (b ≡ a) ⊎ ((t : List ℕ) × Q t × (b ≡ Some (missing t held, t))) → (b ≡ a) ⊎ ((t : List ℕ) × P t × (b ≡ Some (missing t held, t)))
    which (inl old) = inl old
    which (inr new) = inr (new.0, to new.0 new.1, new.2)

-- nothing is better than what there is
pub Improves-not : (held : List ℕ) (P : List ℕ → Type 0) (a : Option (ℕ × List ℕ)) → ((t : List ℕ) → P t → AsGood a (Some (missing t held, t))) → Improves held P a a
Improves-not held P a good = record {
  one = inl refl;
  kept = AsGood-refl a;
  best = good;
}

-- one target that is not as good as what there is
pub kept_old : (held target : List ℕ) (a : Option (ℕ × List ℕ)) (number : ℕ) → number ≡ missing target held → AsGood a (Some (number, target)) → Improves held (λ t. t ≡ target) a a
kept_old held target a number is good = Improves-not held (λ t. t ≡ target) a
    (λ t same. subst (λ u. AsGood a (Some (missing u held, u))) (sym same) (subst (λ n. AsGood a (Some (n, target))) is good))

-- one target that is at least as good
pub kept_new : (held target : List ℕ) (a : Option (ℕ × List ℕ)) (number : ℕ) → number ≡ missing target held → AsGood (Some (number, target)) a
    → Improves held (λ t. t ≡ target) a (Some (number, target))
kept_new held target a number is good = record {
  one = inr (target, refl, ap (λ n. let x : ℕ × List ℕ = (n, target) in Some x) is);
  kept = good;
  best = λ t same. subst (λ u. AsGood (Some (number, target)) (Some (missing u held, u))) (sym same)
      (subst (λ n. AsGood (Some (number, target)) (Some (n, target))) is (AsGood-refl (Some (number, target))));
}

-- ---- the best target

-- what is missing of two parts is missing of the whole
pub missing-append : (first second held held' : List ℕ) → length first ≡ length held → missing (first ++ second) (held ++ held') ≡ missing first held + missing second held'
missing-append [] second [] held' long = omega arith
missing-append [] second (h ∷ hs) held' long = absurd (omega arith)
missing-append (x ∷ xs) second [] held' long = absurd (omega arith)
missing-append (x ∷ xs) second (h ∷ hs) held' long =
    let rest : missing (xs ++ second) (hs ++ held') ≡ missing xs hs + missing second held' = missing-append xs second hs held' (omega arith) in
    omega arith

-- the best target of a search from none on is the nearest
pub best_is_nearest : (held : List ℕ) (P : List ℕ → Type 0) (b : Option (ℕ × List ℕ)) → Improves held P None b → MatchOption b ((t : List ℕ) → P t → ⊥) (λ answer. IsNearest held P answer.0 answer.1)
best_is_nearest held P None h = h.best
best_is_nearest held P (Some answer) h = record {
  is_one = (from_one h.one).0;
  number_is = (from_one h.one).1;
  least = λ other p. no_more answer (missing other held, other) (h.best other p);
  greatest = λ other p level. no_greater answer (missing other held, other) (h.best other p) level;
}
  where
    from_one : (Some answer ≡ None) ⊎ ((t : List ℕ) × P t × (Some answer ≡ Some (missing t held, t))) → P answer.1 × (answer.0 ≡ missing answer.1 held)
    from_one (inl same) = cc
    from_one (inr new) =
        let same : answer ≡ (missing new.0 held, new.0) = cc in
        let target : new.0 ≡ answer.1 = ap (λ x. x.1) (sym same) in
        (subst P target new.1, ap (λ x. x.0) same ∙ ap (λ u. missing u held) target)

    no_more : (x y : ℕ × List ℕ) → AsGood (Some x) (Some y) → x.0 ≤ y.0
    no_more x y (inl less) = omega arith
    no_more x y (inr level) = (let e : x.0 ≡ y.0 = level.0 in omega arith)

    no_greater : (x y : ℕ × List ℕ) → AsGood (Some x) (Some y) → y.0 ≡ x.0 → slice_cmp nat_cmp y.1 x.1 ≢ Greater
    no_greater x y (inl less) same greater = omega arith
    no_greater x y (inr level) same greater = true≢false (sym (ap is_gt greater) ∙ level.1)
