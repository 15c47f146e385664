-- Points and deposits, one deed further.
use Rattle.std.proofs.Common.{◌≡◌, ℕ, zero, suc, ◌+◌, ◌≤◌, ◌||◌, Bool, true, false, List, [], ◌∷◌, ◌++◌, cond, refl, sym, ap, ◌∙◌, arith}
use Rattle.std.specs.Prelude.{ℤ, pos, negsuc, ◌+ℤ◌, int_le, count_by}
use Rattle.std.specs.List.{list_any, list_all, slice_index_or}
use Rattle.std.proofs.lemmas.Bool.{and_parts, leb-true}
use Rattle.std.proofs.lemmas.List.Sums.{fold-append, sum_by-append}
use Rattle.std.proofs.lemmas.List.Folds.{list_any-append}
use Rattle.mj_deeds.specs.declared.deed.Deed.{Deed}
use Rattle.mj_deeds.specs.Points.{change_by, changed, points, points_of, deposits, is_deposit, is_win, behind_last}
use Rattle.mj_deeds.specs.Fits.{is_same, is_small, are_points, are_points_of, has_points}

-- The points of a seat with one deed more.
pub points_more : (ds : List Deed) (d : Deed) (seat : ℕ) → points_of (ds ++ d ∷ []) seat ≡ points_of ds seat +ℤ change_by seat d
points_more ds d seat = fold-append (λ points deed. points +ℤ change_by seat deed) (pos 30000) ds (d ∷ [])

-- What stands after the last one that passes, one further.
pub behind_last-more : {A : Type 0} (p : A → Bool) (xs : List A) (y : A) → behind_last p (xs ++ y ∷ []) ≡ cond (p y) [] (behind_last p xs ++ y ∷ [])
behind_last-more p [] y = alone (p y)
  where
    alone : (b : Bool) → cond (b || false) [] (y ∷ []) ≡ cond b [] (y ∷ [])
    alone true = refl
    alone false = refl
behind_last-more {A = A} p (x ∷ xs) y =
    ap (λ b. cond (p x || b) (behind_last p (xs ++ y ∷ [])) (x ∷ (xs ++ y ∷ []))) (list_any-append p xs (y ∷ []))
    ∙ by_tests (p x) (list_any p xs) (p y) (behind_last p (xs ++ y ∷ [])) (behind_last p xs) (behind_last-more p xs y)
  where
    by_tests : (a b c : Bool) (new old : List A) → new ≡ cond c [] (old ++ y ∷ []) →
        cond (a || (b || (c || false))) new (x ∷ (xs ++ y ∷ [])) ≡ cond c [] (cond (a || b) old (x ∷ xs) ++ y ∷ [])
    by_tests true b c new old e = e
    by_tests false true c new old e = e
    by_tests false false true new old e = e
    by_tests false false false new old e = refl

-- The deposits with one deed more.
pub deposits_more : (ds : List Deed) (d : Deed) → deposits (ds ++ d ∷ []) ≡ cond (is_win d) 0 (deposits ds + cond (is_deposit d) 1 0)
deposits_more ds d =
    ap (count_by is_deposit) (behind_last-more is_win ds d) ∙ by_test (is_win d) (behind_last is_win ds)
  where
    one : (b : Bool) (n : ℕ) → n + (0 + cond b 1 0) ≡ n + cond b 1 0
    one b n = omega arith

    by_test : (b : Bool) (xs : List Deed) → count_by is_deposit (cond b [] (xs ++ d ∷ [])) ≡ cond b 0 (count_by is_deposit xs + cond (is_deposit d) 1 0)
    by_test true xs = refl
    by_test false xs = sum_by-append (λ x. cond (is_deposit x) 1 0) xs (d ∷ []) ∙ one (is_deposit d) (count_by is_deposit xs)

-- The points of all seats with one deed more.
pub all_points_more : (ds : List Deed) (d : Deed) → points (ds ++ d ∷ []) ≡ changed (points ds) d
all_points_more ds d = four (points_more ds d 0) (points_more ds d 1) (points_more ds d 2) (points_more ds d 3)
  where
    four : {a b c e f g h k : ℤ} → a ≡ f → b ≡ g → c ≡ h → e ≡ k → ◌≡◌ {A = List ℤ} (a ∷ b ∷ c ∷ e ∷ []) (f ∷ g ∷ h ∷ k ∷ [])
    four p q r s = λ i. p i ∷ q i ∷ r i ∷ s i ∷ []

-- Numbers that pass the test are the same.
pub same_is : (x y : ℤ) → is_same x y ≡ true → x ≡ y
same_is (pos a) (pos b) h =
    let p = and_parts (int_le (pos a) (pos b)) (int_le (pos b) (pos a)) h in
    ap pos (both a b (leb-true a b p.0) (leb-true b a p.1))
  where
    both : (a b : ℕ) → a ≤ b → b ≤ a → a ≡ b
    both a b h k = omega (arith, h, k)
same_is (negsuc a) (negsuc b) h =
    let p = and_parts (int_le (negsuc a) (negsuc b)) (int_le (negsuc b) (negsuc a)) h in
    ap negsuc (both a b (leb-true a b p.1) (leb-true b a p.0))
  where
    both : (a b : ℕ) → a ≤ b → b ≤ a → a ≡ b
    both a b h k = omega (arith, h, k)
same_is (pos a) (negsuc b) h = cc
same_is (negsuc a) (pos b) h = cc

-- The points that a deed says of a seat are those after it.
pub said_is : (before : List ℤ) (d : Deed) (said : List ℤ) (seat : ℕ) → seat ≤ 3 → are_points before d said ≡ true →
    slice_index_or said seat (pos 0) ≡ slice_index_or before seat (pos 0) +ℤ change_by seat d
said_is before d said seat low h = at seat low
  where
    p0 : (are_points_of before d said 0 ≡ true) × (list_all (are_points_of before d said) (1 ∷ 2 ∷ 3 ∷ []) ≡ true)
    p0 = and_parts (are_points_of before d said 0) _ h

    p1 : (are_points_of before d said 1 ≡ true) × (list_all (are_points_of before d said) (2 ∷ 3 ∷ []) ≡ true)
    p1 = and_parts (are_points_of before d said 1) _ p0.1

    p2 : (are_points_of before d said 2 ≡ true) × (list_all (are_points_of before d said) (3 ∷ []) ≡ true)
    p2 = and_parts (are_points_of before d said 2) _ p1.1

    one : (n : ℕ) → are_points_of before d said n ≡ true → slice_index_or said n (pos 0) ≡ slice_index_or before n (pos 0) +ℤ change_by n d
    one n k = same_is _ _ (and_parts (is_same (slice_index_or said n (pos 0)) (slice_index_or before n (pos 0) +ℤ change_by n d)) (is_small (slice_index_or said n (pos 0))) k).0

    at : (n : ℕ) → n ≤ 3 → slice_index_or said n (pos 0) ≡ slice_index_or before n (pos 0) +ℤ change_by n d
    at zero l = one 0 p0.0
    at (suc zero) l = one 1 p1.0
    at (suc (suc zero)) l = one 2 p2.0
    at (suc (suc (suc zero))) l = one 3 (and_parts (are_points_of before d said 3) true p2.1).0
    at (suc (suc (suc (suc n)))) l = absurd (omega (arith, l))

pub said_by : (before : List ℤ) (d x : Deed) (said : List ℤ) (seat : ℕ) → d ≡ x → are_points before x said ≡ has_points before x → has_points before d ≡ true → seat ≤ 3 →
    slice_index_or said seat (pos 0) ≡ slice_index_or before seat (pos 0) +ℤ change_by seat d
said_by before d x said seat e f h low = said_is before d said seat low (ap (λ (y : Deed). are_points before y said) e ∙ f ∙ sym (ap (has_points before) e) ∙ h)
