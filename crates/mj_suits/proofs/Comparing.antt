-- The lexicographic order of lists of numbers.
use Rattle.std.proofs.Common.{◌≡◌, ◌≢◌, eqb, cond, ℕ, ◌<◌, false, List, [], ◌∷◌, ◌++◌, refl, ap, ◌∙◌, Ordering, Less, Equal, Greater}
use Rattle.std.specs.Ordering.{nat_cmp, is_gt, ordering_then, ordering_reverse}
use Rattle.std.specs.Cmp.Lexicographic.{slice_cmp}
use Rattle.std.proofs.lemmas.Bool.{lt-ltb}
use Rattle.std.proofs.lemmas.Cmp.{upto, tied_itself, nat_cmp_total, nat_list_cmp_total}
use Rattle.mj_suits.proofs.Near.{not_less_back}

-- after equal fronts the rest decides
pub cmp_after : (xs ys zs : List ℕ) → slice_cmp nat_cmp (xs ++ ys) (xs ++ zs) ≡ slice_cmp nat_cmp ys zs
cmp_after [] ys zs = refl
cmp_after (x ∷ xs) ys zs = ap (λ o. ordering_then o (slice_cmp nat_cmp (xs ++ ys) (xs ++ zs))) (tied_itself nat_cmp_total x) ∙ cmp_after xs ys zs

pub cmp_head : (x : ℕ) (ys zs : List ℕ) → slice_cmp nat_cmp (x ∷ ys) (x ∷ zs) ≡ slice_cmp nat_cmp ys zs
cmp_head x ys zs = cmp_after (x ∷ []) ys zs

-- a lesser head is less
pub cmp_lesser : (x y : ℕ) (xs ys : List ℕ) → x < y → slice_cmp nat_cmp (x ∷ xs) (y ∷ ys) ≡ Less
cmp_lesser x y xs ys less = ap (λ o. ordering_then o (slice_cmp nat_cmp xs ys)) (ap (λ t. cond t Less (cond (eqb x y) Equal Greater)) (lt-ltb x y less))

not_gt : (o : Ordering) → o ≢ Greater → is_gt o ≡ false
not_gt Less other = refl
not_gt Equal other = refl
not_gt Greater other = absurd (other refl)

gt_not : (o : Ordering) → is_gt o ≡ false → o ≢ Greater
gt_not Less other e = absurd (cc)
gt_not Equal other e = absurd (cc)
gt_not Greater other e = absurd (cc)

pub not_greater-trans : (xs ys zs : List ℕ) → slice_cmp nat_cmp xs ys ≢ Greater → slice_cmp nat_cmp ys zs ≢ Greater → slice_cmp nat_cmp xs zs ≢ Greater
not_greater-trans xs ys zs a b = gt_not (slice_cmp nat_cmp xs zs) (upto nat_list_cmp_total xs ys zs (not_gt (slice_cmp nat_cmp xs ys) a) (not_gt (slice_cmp nat_cmp ys zs) b))

pub not_greater-back : (xs ys : List ℕ) → slice_cmp nat_cmp xs ys ≡ Greater → slice_cmp nat_cmp ys xs ≢ Greater
not_greater-back xs ys greater = gt_not (slice_cmp nat_cmp ys xs) (not_less_back xs ys greater)

pub not_greater-less : (xs ys : List ℕ) → slice_cmp nat_cmp xs ys ≡ Less → slice_cmp nat_cmp xs ys ≢ Greater
not_greater-less xs ys less e = absurd (cc)

pub not_greater-equal : (xs ys : List ℕ) → slice_cmp nat_cmp xs ys ≡ Equal → slice_cmp nat_cmp ys xs ≢ Greater
not_greater-equal xs ys equal e = (let back : slice_cmp nat_cmp ys xs ≡ Equal = nat_list_cmp_total.antisymm ys xs ∙ ap ordering_reverse equal in absurd (cc))

pub not_greater-same : (xs : List ℕ) → slice_cmp nat_cmp xs xs ≢ Greater
not_greater-same xs e = (let same : slice_cmp nat_cmp xs xs ≡ Equal = tied_itself nat_list_cmp_total xs in absurd (cc))
