-- The set of the kinds from one on that pass a test, gathered from the last kind down.
use Rattle.std.proofs.Common.{◌≡◌, ℕ, ◌+◌, ◌<◌, ◌≤◌, Bool, true, false, cond, List, ◌∷◌, drop, arith, refl, ap, sym, ◌∙◌}
use Rattle.std.specs.Prelude.{filter}
use Rattle.std.proofs.lemmas.List.{drop_more}
use Rattle.std.proofs.lemmas.List.FromFn.{length-range_with_len, get_or-range_with_len}
use Rattle.mj_tiles.specs.Counts.{all_kinds}
use Rattle.mj_tiles.specs.Kinds.{no_kinds, with_kind, set_of}

-- From 34 on there is none.
pub kinds-none : (p : ℕ → Bool) → no_kinds ≡ set_of (filter p (drop 34 all_kinds))
unfolding all_kinds
kinds-none p = refl

-- The kinds from one on are that kind and those after it.
from_kind : (k : ℕ) → k < 34 → drop k all_kinds ≡ k ∷ drop (k + 1) all_kinds
unfolding all_kinds
from_kind k h =
    drop_more all_kinds k 0 (omega (arith, h, length-range_with_len 0 34))
    ∙ ap (λ x. x ∷ drop (k + 1) all_kinds) (get_or-range_with_len 0 34 k 0 h ∙ same k)
  where
    same : (k : ℕ) → 0 + k ≡ k
    same k = omega arith

-- From 0 on there are all.
pub kinds-all : (p : ℕ → Bool) (kinds n : ℕ) → kinds ≡ set_of (filter p (drop n all_kinds)) → n ≤ 0 → kinds ≡ set_of (filter p all_kinds)
kinds-all p kinds n are h = are ∙ ap (λ m. set_of (filter p (drop m all_kinds))) (zero n h)
  where
    zero : (n : ℕ) → n ≤ 0 → n ≡ 0
    zero n h = omega arith

-- One kind more is looked at.
pub kinds-more : (p : ℕ → Bool) (b : Bool) (kinds kind n k : ℕ) → kinds ≡ set_of (filter p (drop n all_kinds)) → n ≡ k + 1 → k < 34 → kind ≡ k → b ≡ p kind →
    cond b (with_kind kinds kind) kinds ≡ set_of (filter p (drop k all_kinds))
kinds-more p b kinds kind n k are next h is test =
    joined b (p k) (filter p (drop (k + 1) all_kinds)) (test ∙ ap p is) (are ∙ ap (λ m. set_of (filter p (drop m all_kinds))) next)
    ∙ ap (λ xs. set_of (filter p xs)) (sym (from_kind k h))
  where
    joined : (b c : Bool) (others : List ℕ) → b ≡ c → kinds ≡ set_of others → cond b (with_kind kinds kind) kinds ≡ set_of (cond c (k ∷ others) others)
    joined true true others e f = rw (f, is) refl
    joined false false others e f = f
    joined true false others e f = cc
    joined false true others e f = cc
