-- The lexicographically greatest counts have the lexicographically least sorted list of kinds.
use Rattle.std.proofs.Common.{ℕ, ◌≡◌, ◌≢◌, ◌<◌, ◌≤◌, ◌+◌, ◌-◌, ◌++◌, ◌∷◌, [], List, length, get_or, sum, replicate, refl}
use Rattle.std.proofs.Common.{sym, ◌∙◌, ap, ap₂, subst, arith, zero, suc, inl, inr, Ordering, Less, Equal, Greater}
use Rattle.std.specs.List.{flat_map, range_with_len}
use Rattle.std.specs.Ordering.{nat_cmp, ordering_then}
use Rattle.std.specs.Cmp.Lexicographic.{slice_cmp}
use Rattle.std.proofs.lemmas.Bool.{cases_eq, cases_lt, lt-ltb, le-ltb, eq-eqb, ne_eqb}
use Rattle.std.proofs.lemmas.List.{append_assoc, replicate-append-replicate}
use Rattle.mj_tiles.specs.Counts.{all_kinds}
use Rattle.mj_shanten.specs.Shanten.{sorted_kinds}
use Rattle.mj_suits.proofs.Comparing.{cmp_after}
use Rattle.mj_shanten.proofs.Sums.{sum-cons}

-- the kinds from one on, each so often
abbrev listed : ℕ → List ℕ → List ℕ
listed from [] = []
listed from (x ∷ xs) = replicate x from ++ listed (from + 1) xs

listed_is : (f : ℕ → ℕ) (from : ℕ) (xs : List ℕ) → ((k : ℕ) → k < length xs → f (from + k) ≡ get_or xs k 0) → flat_map (λ k. replicate (f k) k) (range_with_len from (length xs)) ≡ listed from xs
listed_is f from [] each = refl
listed_is f from (x ∷ xs) each =
    let here : f from ≡ x = (let e : from + 0 ≡ from = omega arith in ap f (sym e) ∙ each 0 (omega arith)) in
    ap₂ (λ n r. replicate n from ++ r) here
    (listed_is f (from + 1) xs (λ k inside. (let e : from + 1 + k ≡ from + suc k = omega arith in ap f e ∙ each (suc k) (omega arith))))

sorted_is : (xs : List ℕ) → length xs ≡ 34 → sorted_kinds xs ≡ listed 0 xs
unfolding sorted_kinds all_kinds
sorted_is xs size =
    ap (λ n. flat_map (λ k. replicate (get_or xs k 0) k) (range_with_len 0 n)) (sym size)
    ∙ listed_is (λ k. get_or xs k 0) 0 xs (λ k inside. (let e : 0 + k ≡ k = omega arith in ap (λ j. get_or xs j 0) e))

-- where there are tiles, the first is of a kind from there on
record First (from : ℕ) (ys : List ℕ) : Type 0 where
  kind : ℕ
  rest : List ℕ
  is : listed from ys ≡ kind ∷ rest
  low : from ≤ kind

first_of_some : (from : ℕ) (ys : List ℕ) → 0 < sum ys → First from ys
first_of_some from [] some = absurd (omega arith)
first_of_some from (zero ∷ ys) some =
    let e = sum-cons 0 ys in
    let h : First (from + 1) ys = first_of_some (from + 1) ys (omega arith) in
    record { kind = h.kind; rest = h.rest; is = h.is; low = (let l = h.low in omega arith) }
first_of_some from (suc y ∷ ys) some = record { kind = from; rest = replicate y from ++ listed (from + 1) ys; is = refl; low = omega arith }

cmp_less : (x y : ℕ) → x < y → nat_cmp x y ≡ Less
cmp_less x y less = rw (lt-ltb x y less) refl

cmp_more : (x y : ℕ) → y < x → nat_cmp x y ≡ Greater
cmp_more x y more = (let a : y ≤ x = omega arith in let b : x ≢ y = omega arith in rw (le-ltb x y a) (rw (ne_eqb x y b) refl))

cmp_same : (x : ℕ) → nat_cmp x x ≡ Equal
cmp_same x = (let a : x ≤ x = omega arith in rw (le-ltb x x a) (rw (eq-eqb x x refl) refl))

less_not_greater : (o : Ordering) → o ≡ Less → o ≢ Greater
less_not_greater o a b = (let e : Less ≡ Greater = sym a ∙ b in apart e)
  where
    apart : Less ≡ Greater → ⊥
    apart e = cc

pub listed_order : (from : ℕ) (xs ys : List ℕ) → length xs ≡ length ys → sum xs ≡ sum ys → slice_cmp nat_cmp ys xs ≢ Greater → slice_cmp nat_cmp (listed from xs) (listed from ys) ≢ Greater
listed_order from [] [] same level not_over = not_over
listed_order from [] (y ∷ ys) same level not_over = absurd (omega arith)
listed_order from (x ∷ xs) [] same level not_over = absurd (omega arith)
listed_order from (x ∷ xs) (y ∷ ys) same level not_over =
    let a = sum-cons x xs in
    let b = sum-cons y ys in
    elim (cases_lt y x) [
      | inl fewer ↦
          (let h : First (from + 1) ys = first_of_some (from + 1) ys (omega arith) in
          less_not_greater (slice_cmp nat_cmp (listed from (x ∷ xs)) (listed from (y ∷ ys)))
          (ap (λ r. slice_cmp nat_cmp (r ++ listed (from + 1) xs) (replicate y from ++ listed (from + 1) ys)) (front fewer)
          ∙ ap (λ r. slice_cmp nat_cmp r (replicate y from ++ listed (from + 1) ys)) (append_assoc (replicate y from) (replicate (suc (x - y - 1)) from) (listed (from + 1) xs))
          ∙ cmp_after (replicate y from) (from ∷ (replicate (x - y - 1) from ++ listed (from + 1) xs)) (listed (from + 1) ys)
          ∙ ap (λ r. slice_cmp nat_cmp (from ∷ (replicate (x - y - 1) from ++ listed (from + 1) xs)) r) h.is
          ∙ (let l : from < h.kind = (let k = h.low in omega arith) in
          ap (λ o. ordering_then o (slice_cmp nat_cmp (replicate (x - y - 1) from ++ listed (from + 1) xs) h.rest)) (cmp_less from h.kind l))))
      | inr most ↦ elim (cases_eq y x) [
        | inl equal ↦
            (let rest : slice_cmp nat_cmp ys xs ≢ Greater = (λ e. not_over (ap (λ o. ordering_then o (slice_cmp nat_cmp ys xs)) (ap (λ n. nat_cmp y n) (sym equal) ∙ cmp_same y) ∙ e)) in
            let h = listed_order (from + 1) xs ys (omega arith) (omega arith) rest in
            subst (λ n. slice_cmp nat_cmp (replicate x from ++ listed (from + 1) xs) (replicate n from ++ listed (from + 1) ys) ≢ Greater) (sym equal)
            (subst (λ o. o ≢ Greater) (sym (cmp_after (replicate x from) (listed (from + 1) xs) (listed (from + 1) ys))) h))
        | inr apart ↦ (let more : x < y = omega arith in absurd (not_over (ap (λ o. ordering_then o (slice_cmp nat_cmp ys xs)) (cmp_more y x more))))
      ]
    ]
  where
    front : y < x → replicate x from ≡ replicate y from ++ replicate (suc (x - y - 1)) from
    front fewer = (let e : x ≡ y + suc (x - y - 1) = omega arith in ap (λ n. replicate n from) e ∙ sym (replicate-append-replicate y (suc (x - y - 1)) from))

pub sorted_order : (xs ys : List ℕ) → length xs ≡ 34 → length ys ≡ 34 → sum xs ≡ sum ys → slice_cmp nat_cmp ys xs ≢ Greater → slice_cmp nat_cmp (sorted_kinds xs) (sorted_kinds ys) ≢ Greater
sorted_order xs ys a b level not_over =
    subst (λ r. slice_cmp nat_cmp r (sorted_kinds ys) ≢ Greater) (sym (sorted_is xs a))
    (subst (λ r. slice_cmp nat_cmp (listed 0 xs) r ≢ Greater) (sym (sorted_is ys b))
    (listed_order 0 xs ys (a ∙ sym b) level not_over))
