-- The nearest pairs: no other pairs miss fewer, and of those that miss as few none is lexicographically greater.
use Rattle.std.proofs.Common.{ℕ, ◌≡◌, ◌≢◌, ◌<◌, ◌≤◌, ◌+◌, ◌-◌, ◌*◌, ◌++◌, ◌∷◌, [], Bool, true, false, cond, eqb, leb, ltb, ◌||◌, List}
use Rattle.std.proofs.Common.{length, get_or, set, take, drop, refl, sym, ◌∙◌, ap, ap₂, subst, arith, zero, suc, ◌⊎◌, inl, inr}
use Rattle.std.specs.List.{count_by, list_all}
use Rattle.std.specs.Ordering.{nat_cmp, is_gt}
use Rattle.std.specs.Cmp.Lexicographic.{slice_cmp}
use Rattle.std.proofs.lemmas.Bool.{and_parts, and_from, cases_lt, eq-eqb, eqb-true, lt-ltb, le-ltb, or_cases}
use Rattle.std.proofs.lemmas.Bool.Decides.{nat_tests}
use Rattle.std.proofs.lemmas.List.Sums.{sum_by-cons}
use mir.Val.{bool_byte}
use Rattle.std.proofs.lemmas.List.{length-take-le, length-drop, drop_more, drop_all, get_or-take, get_or-drop, take_more_set, append_assoc, append-nil, get_or-set_other, take-append-drop, ext_get_or}
use Rattle.mj_lists.proofs.Fronts.{zero_at}
use Rattle.mj_suits.specs.Targets.{missing}
use Rattle.mj_suits.specs.Improves.{AsNear}
use Rattle.mj_suits.specs.Tables.{IsLeast}
use Rattle.mj_readings.specs.Complete.{is_seven_pairs}
use Rattle.mj_shanten.specs.Suits.{with_two, Padded}
use Rattle.mj_shanten.specs.Inner.Special.{IsPairs, so_often, better, nearest_pairs}
use Rattle.mj_shanten.proofs.Hands.{missing_two}
use Rattle.mj_shanten.proofs.Joint.{cmp_before}

-- pairs of so many kinds miss at least so many tiles
abbrev pub least : List ℕ → ℕ → ℕ
least xs j = (j - so_often 2 xs) + (j - so_often 1 xs)

-- a number is that of no tile or of a pair
abbrev pub pair_or_none : ℕ → Bool
pair_or_none n = eqb n 0 || eqb n 2

abbrev pub pairs_in : List ℕ → ℕ
pairs_in ys = count_by (λ n. eqb n 2) ys

-- one number more
often_cons : (times x : ℕ) (xs : List ℕ) → so_often times (x ∷ xs) ≡ so_often times xs + cond (leb times x) 1 0
often_cons times x xs = (let e = sum_by-cons (λ n. cond (leb times n) 1 0) x xs in omega (arith, e))

pub pairs_cons : (y : ℕ) (ys : List ℕ) → pairs_in (y ∷ ys) ≡ pairs_in ys + cond (eqb y 2) 1 0
pairs_cons y ys = (let e = sum_by-cons (λ n. cond (eqb n 2) 1 0) y ys in omega (arith, e))

often_order : (xs : List ℕ) → so_often 2 xs ≤ so_often 1 xs
often_order [] = omega arith
often_order (x ∷ xs) = one_more x (so_often 2 xs) (so_often 1 xs) _ _ (often_order xs) (often_cons 2 x xs) (often_cons 1 x xs)
  where
    one_more : (x a o b p : ℕ) → a ≤ o → b ≡ a + cond (leb 2 x) 1 0 → p ≡ o + cond (leb 1 x) 1 0 → b ≤ p
    one_more x a o b p h e f = grind (arith, nat_tests)

often_few : (xs : List ℕ) → so_often 1 xs ≤ length xs
often_few [] = omega arith
often_few (x ∷ xs) = one_more x (so_often 1 xs) (length xs) _ (often_few xs) (often_cons 1 x xs)
  where
    one_more : (x o n p : ℕ) → o ≤ n → p ≡ o + cond (leb 1 x) 1 0 → p ≤ suc n
    one_more x o n p h f = grind (arith, nat_tests)

-- what a kind that is taken adds, and one that is not
-- a, o: how many later kinds are held twice, and once; b, p: the same with this kind
step_taken : (x j a o b p : ℕ) → a ≤ o → b ≡ a + cond (leb 2 x) 1 0 → p ≡ o + cond (leb 1 x) 1 0 → better x a o < j → (j - b) + (j - p) ≡ (2 - x) + ((j - 1 - a) + (j - 1 - o))
step_taken x j a o b p order e f taken = grind (arith, nat_tests)

step_left : (x j a o b p : ℕ) → a ≤ o → b ≡ a + cond (leb 2 x) 1 0 → p ≡ o + cond (leb 1 x) 1 0 → j ≤ better x a o → (j - b) + (j - p) ≡ (j - a) + (j - o)
step_left x j a o b p order e f left = grind (arith, nat_tests)

-- a pair of a kind that is not to be taken misses more
step_over : (x j a o b p : ℕ) → a ≤ o → b ≡ a + cond (leb 2 x) 1 0 → p ≡ o + cond (leb 1 x) 1 0 → suc j ≤ better x a o → (suc j - b) + (suc j - p) < (2 - x) + ((j - a) + (j - o))
step_over x j a o b p order e f left = grind (arith, nat_tests)

step_none : (x j a o b p : ℕ) → b ≡ a + cond (leb 2 x) 1 0 → p ≡ o + cond (leb 1 x) 1 0 → (j - b) + (j - p) ≤ (j - a) + (j - o)
step_none x j a o b p e f = grind (arith, nat_tests)

step_two : (x j a o b p : ℕ) → a ≤ o → b ≡ a + cond (leb 2 x) 1 0 → p ≡ o + cond (leb 1 x) 1 0 → (suc j - b) + (suc j - p) ≤ (2 - x) + ((j - a) + (j - o))
step_two x j a o b p order e f = grind (arith, nat_tests)

-- ---- any pairs

pub two_or_none : (y : ℕ) → pair_or_none y ≡ true → (y ≡ 0) ⊎ (y ≡ 2)
two_or_none y h = elim (or_cases (eqb y 0) (eqb y 2) h) [ inl e ↦ inl (eqb-true y 0 e) | inr e ↦ inr (eqb-true y 2 e) ]

pub miss_least : (ys xs : List ℕ) → length ys ≡ length xs → list_all pair_or_none ys ≡ true → least xs (pairs_in ys) ≤ missing ys xs
miss_least [] [] same each = omega arith
miss_least [] (x ∷ xs) same each = absurd (omega arith)
miss_least (y ∷ ys) [] same each = absurd (omega arith)
miss_least (y ∷ ys) (x ∷ xs) same each =
    let f = and_parts (pair_or_none y) (list_all pair_or_none ys) each in
    let h = miss_least ys xs (omega arith) f.1 in
    elim (two_or_none y f.0) [
      | inl none ↦ (let g : pairs_in (y ∷ ys) ≡ pairs_in ys = pairs_cons y ys ∙ ap (λ n. pairs_in ys + cond (eqb n 2) 1 0) none ∙ add_none (pairs_in ys) in
          let k = step_none x (pairs_in ys) (so_often 2 xs) (so_often 1 xs) (so_often 2 (x ∷ xs)) (so_often 1 (x ∷ xs)) (often_cons 2 x xs) (often_cons 1 x xs) in
          subst (λ n. least (x ∷ xs) n ≤ (y - x) + missing ys xs) (sym g) (omega arith))
      | inr two ↦ (let g : pairs_in (y ∷ ys) ≡ suc (pairs_in ys) = pairs_cons y ys ∙ ap (λ n. pairs_in ys + cond (eqb n 2) 1 0) two ∙ add_one (pairs_in ys) in
          let k = step_two x (pairs_in ys) (so_often 2 xs) (so_often 1 xs) (so_often 2 (x ∷ xs)) (so_often 1 (x ∷ xs)) (often_order xs) (often_cons 2 x xs) (often_cons 1 x xs) in
          subst (λ n. least (x ∷ xs) n ≤ (y - x) + missing ys xs) (sym g) (omega arith))
    ]
  where
    add_none : (n : ℕ) → n + 0 ≡ n
    add_none n = omega arith

    add_one : (n : ℕ) → n + 1 ≡ suc n
    add_one n = omega arith

-- ---- the nearest pairs

pub nearest_size : (xs : List ℕ) (j : ℕ) → length (nearest_pairs xs j) ≡ length xs
nearest_size [] j = refl
nearest_size (x ∷ xs) j = size (ltb (better x (so_often 2 xs) (so_often 1 xs)) j) (nearest_pairs xs (j - 1)) (nearest_pairs xs j) (nearest_size xs (j - 1)) (nearest_size xs j)
  where
    size : (b : Bool) (ys zs : List ℕ) → length ys ≡ length xs → length zs ≡ length xs → length (cond b (2 ∷ ys) (0 ∷ zs)) ≡ suc (length xs)
    size true ys zs e f = ap (λ n. suc n) e
    size false ys zs e f = ap (λ n. suc n) f

-- a kind is taken or not
taken_cases : (x j a o : ℕ) → ((ltb (better x a o) j ≡ true) × (better x a o < j)) ⊎ ((ltb (better x a o) j ≡ false) × (j ≤ better x a o))
taken_cases x j a o = elim (cases_lt (better x a o) j) [ inl e ↦ inl (lt-ltb _ _ e, e) | inr e ↦ inr (le-ltb _ _ e, e) ]

better_few : (x : ℕ) (xs : List ℕ) → better x (so_often 2 xs) (so_often 1 xs) ≤ length xs
better_few x xs = (let a = often_order xs in let b = often_few xs in grind (arith, nat_tests))

pub nearest_pairs_are : (xs : List ℕ) (j : ℕ) → j ≤ length xs → (list_all pair_or_none (nearest_pairs xs j) ≡ true) × (pairs_in (nearest_pairs xs j) ≡ j)
nearest_pairs_are [] j few = (refl, omega arith)
nearest_pairs_are (x ∷ xs) j few = elim (taken_cases x j (so_often 2 xs) (so_often 1 xs)) [
  | inl t ↦ (let h = nearest_pairs_are xs (j - 1) (omega arith) in
      let p : list_all pair_or_none (nearest_pairs xs (j - 1)) ≡ true = h.0 in let q : pairs_in (nearest_pairs xs (j - 1)) ≡ j - 1 = h.1 in
      let r : pairs_in (nearest_pairs xs (j - 1)) + 1 ≡ j = omega arith in rw t.0 (p, pairs_cons 2 (nearest_pairs xs (j - 1)) ∙ r))
  | inr t ↦ (let b = better_few x xs in let h = nearest_pairs_are xs j (omega arith) in
      let p : list_all pair_or_none (nearest_pairs xs j) ≡ true = h.0 in let q : pairs_in (nearest_pairs xs j) ≡ j = h.1 in
      let r : pairs_in (nearest_pairs xs j) + 0 ≡ j = omega arith in rw t.0 (p, pairs_cons 0 (nearest_pairs xs j) ∙ r))
]

miss_nearest : (xs : List ℕ) (j : ℕ) → j ≤ length xs → missing (nearest_pairs xs j) xs ≡ least xs j
miss_nearest [] j few = omega arith
miss_nearest (x ∷ xs) j few = elim (taken_cases x j (so_often 2 xs) (so_often 1 xs)) [
  | inl t ↦ (let h = miss_nearest xs (j - 1) (omega arith) in
      let s = step_taken x j (so_often 2 xs) (so_often 1 xs) (so_often 2 (x ∷ xs)) (so_often 1 (x ∷ xs)) (often_order xs) (often_cons 2 x xs) (often_cons 1 x xs) t.1 in
      let r : (2 - x) + missing (nearest_pairs xs (j - 1)) xs ≡ least (x ∷ xs) j = omega arith in rw t.0 r)
  | inr t ↦ (let b = better_few x xs in let h = miss_nearest xs j (omega arith) in
      let s = step_left x j (so_often 2 xs) (so_often 1 xs) (so_often 2 (x ∷ xs)) (so_often 1 (x ∷ xs)) (often_order xs) (often_cons 2 x xs) (often_cons 1 x xs) t.1 in
      let r : (0 - x) + missing (nearest_pairs xs j) xs ≡ least (x ∷ xs) j = omega arith in rw t.0 r)
]

-- of pairs that miss as few none is lexicographically greater
not_over : (ys xs : List ℕ) (j : ℕ) → length ys ≡ length xs → list_all pair_or_none ys ≡ true → pairs_in ys ≡ j → missing ys xs ≡ least xs j → is_gt (slice_cmp nat_cmp ys (nearest_pairs xs j)) ≡ false
not_over [] [] j same each many level = refl
not_over [] (x ∷ xs) j same each many level = absurd (omega arith)
not_over (y ∷ ys) [] j same each many level = absurd (omega arith)
not_over (y ∷ ys) (x ∷ xs) j same each many level =
    let f = and_parts (pair_or_none y) (list_all pair_or_none ys) each in
    elim (two_or_none y f.0) [
      | inl none ↦ (let g : pairs_in ys + 0 ≡ j = ap (λ n. pairs_in ys + cond (eqb n 2) 1 0) (sym none) ∙ sym (pairs_cons y ys) ∙ many in
          let l : (0 - x) + missing ys xs ≡ least (x ∷ xs) j = ap (λ n. (n - x) + missing ys xs) (sym none) ∙ level in
          elim (taken_cases x j (so_often 2 xs) (so_often 1 xs)) [
            | inl t ↦ rw t.0 (rw none refl)
            | inr t ↦ (let s = step_left x j (so_often 2 xs) (so_often 1 xs) (so_often 2 (x ∷ xs)) (so_often 1 (x ∷ xs)) (often_order xs) (often_cons 2 x xs) (often_cons 1 x xs) t.1 in
                let h = not_over ys xs j (omega arith) f.1 (omega arith) (omega arith) in rw t.0 (rw none h))
          ])
      | inr two ↦ (let g : pairs_in ys + 1 ≡ j = ap (λ n. pairs_in ys + cond (eqb n 2) 1 0) (sym two) ∙ sym (pairs_cons y ys) ∙ many in
          let l : (2 - x) + missing ys xs ≡ least (x ∷ xs) j = ap (λ n. (n - x) + missing ys xs) (sym two) ∙ level in
          elim (taken_cases x j (so_often 2 xs) (so_often 1 xs)) [
            | inl t ↦ (let s = step_taken x j (so_often 2 xs) (so_often 1 xs) (so_often 2 (x ∷ xs)) (so_often 1 (x ∷ xs)) (often_order xs) (often_cons 2 x xs) (often_cons 1 x xs) t.1 in
                let h = not_over ys xs (j - 1) (omega arith) f.1 (omega arith) (omega arith) in rw t.0 (rw two h))
            | inr t ↦ (let e : suc (pairs_in ys) ≡ j = omega arith in
                let m = miss_least ys xs (omega arith) f.1 in
                let s = step_over x (pairs_in ys) (so_often 2 xs) (so_often 1 xs) (so_often 2 (x ∷ xs)) (so_often 1 (x ∷ xs)) (often_order xs) (often_cons 2 x xs) (often_cons 1 x xs) (omega arith) in
                let k : least (x ∷ xs) (suc (pairs_in ys)) ≡ least (x ∷ xs) j = ap (λ n. least (x ∷ xs) n) e in
                absurd (omega arith))
          ])
    ]

-- ---- seven of them

pub seven_parts : (ys : List ℕ) → is_seven_pairs ys ≡ true → (list_all pair_or_none ys ≡ true) × (pairs_in ys ≡ 7)
unfolding is_seven_pairs
seven_parts ys h = (let f = and_parts (list_all pair_or_none ys) (eqb (pairs_in ys) 7) h in (f.0, eqb-true _ _ f.1))

pub seven_from : (ys : List ℕ) → list_all pair_or_none ys ≡ true → pairs_in ys ≡ 7 → is_seven_pairs ys ≡ true
unfolding is_seven_pairs
seven_from ys a b = and_from (list_all pair_or_none ys) (eqb (pairs_in ys) 7) a (eq-eqb _ _ b)

pub seven_are : (xs : List ℕ) → length xs ≡ 34 → Padded IsPairs (with_two (nearest_pairs xs 7))
seven_are xs size = record {
  counts = nearest_pairs xs 7;
  is = record { size = nearest_size xs 7 ∙ size; seven = (let h = nearest_pairs_are xs 7 (omega arith) in seven_from (nearest_pairs xs 7) h.0 h.1) };
  numbers_are = refl;
}

near_seven : (held c : List ℕ) → length held ≡ 36 → length (take 34 held) ≡ 34 → IsPairs c
    → AsNear (missing (with_two (nearest_pairs (take 34 held) 7)) held, with_two (nearest_pairs (take 34 held) 7)) (missing (with_two c) held, with_two c)
near_seven held c wide size h =
    let p = seven_parts c h.seven in
    let a : missing (with_two (nearest_pairs (take 34 held) 7)) held ≡ missing (nearest_pairs (take 34 held) 7) (take 34 held) =
    missing_two (nearest_pairs (take 34 held) 7) held (nearest_size (take 34 held) 7 ∙ size) wide in
    let b : missing (with_two c) held ≡ missing c (take 34 held) = missing_two c held h.size wide in
    let m : missing (nearest_pairs (take 34 held) 7) (take 34 held) ≡ least (take 34 held) 7 = miss_nearest (take 34 held) 7 (omega arith) in
    let l : least (take 34 held) (pairs_in c) ≤ missing c (take 34 held) = miss_least c (take 34 held) (h.size ∙ sym size) p.0 in
    let k : least (take 34 held) 7 ≤ missing c (take 34 held) = subst (λ n. least (take 34 held) n ≤ missing c (take 34 held)) p.1 l in
    elim (cases_lt (missing (with_two (nearest_pairs (take 34 held) 7)) held) (missing (with_two c) held)) [
      | inl less ↦ inl less
      | inr level ↦ inr (
        omega arith,
        (
            let e : missing c (take 34 held) ≡ least (take 34 held) 7 = omega arith in
            let n = not_over c (take 34 held) 7 (h.size ∙ sym size) p.0 p.1 e in
            ap is_gt (cmp_before c (nearest_pairs (take 34 held) 7) (0 ∷ 0 ∷ []) (h.size ∙ sym (nearest_size (take 34 held) 7 ∙ size))) ∙ n),
      )
    ]

pub nearest_seven : (held : List ℕ) → length held ≡ 36 → length (take 34 held) ≡ 34 → (t : List ℕ) → Padded IsPairs t
    → AsNear (missing (with_two (nearest_pairs (take 34 held) 7)) held, with_two (nearest_pairs (take 34 held) 7)) (missing t held, t)
nearest_seven held wide size t h =
    subst (λ u. AsNear (missing (with_two (nearest_pairs (take 34 held) 7)) held, with_two (nearest_pairs (take 34 held) 7)) (missing u held, u)) (sym h.numbers_are)
    (near_seven held h.counts wide size h.is)

-- what the nearest seven pairs miss
pub pairs_least : (held : List ℕ) (number : ℕ) → length held ≡ 36 → length (take 34 held) ≡ 34 → number ≡ least (take 34 held) 7 → IsLeast held (Padded IsPairs) number
pairs_least held number wide size is =
    let target = with_two (nearest_pairs (take 34 held) 7) in
    let a : missing target held ≡ missing (nearest_pairs (take 34 held) 7) (take 34 held) = missing_two (nearest_pairs (take 34 held) 7) held (nearest_size (take 34 held) 7 ∙ size) wide in
    let m : missing (nearest_pairs (take 34 held) 7) (take 34 held) ≡ least (take 34 held) 7 = miss_nearest (take 34 held) 7 (omega arith) in
    record {
      some = (target, (seven_are (take 34 held) size, is ∙ sym m ∙ sym a));
      least = λ t h.
          (let p = seven_parts h.counts h.is.seven in
          let b : missing t held ≡ missing h.counts (take 34 held) = ap (λ u. missing u held) h.numbers_are ∙ missing_two h.counts held h.is.size wide in
          let l : least (take 34 held) (pairs_in h.counts) ≤ missing h.counts (take 34 held) = miss_least h.counts (take 34 held) (h.is.size ∙ sym size) p.0 in
          let k : least (take 34 held) 7 ≤ missing h.counts (take 34 held) = subst (λ n. least (take 34 held) n ≤ missing h.counts (take 34 held)) p.1 l in
          omega arith);
    }

-- ---- one kind after another

pub kind_split : (held : List ℕ) (kind : ℕ) → length held ≡ 36 → kind < 34 → drop kind (take 34 held) ≡ get_or held kind 0 ∷ drop (kind + 1) (take 34 held)
kind_split held kind wide inside =
    let size : length (take 34 held) ≡ 34 = length-take-le 34 held (omega arith) in
    drop_more (take 34 held) kind 0 (omega arith) ∙ ap (λ x. x ∷ drop (kind + 1) (take 34 held)) (get_or-take 34 held kind 0 inside)

as_number : (b : Bool) → bool_byte b ≡ cond b 1 0
as_number true = refl
as_number false = refl

-- the kinds from this one on, and those from the next one on
pub often_here : (held : List ℕ) (times kind often : ℕ) → length held ≡ 36 → kind < 34 → often ≡ so_often times (drop kind (take 34 held))
    → often ≡ so_often times (drop (kind + 1) (take 34 held)) + bool_byte (leb times (get_or held kind 0))
often_here held times kind often wide inside is =
    is ∙ ap (λ xs. so_often times xs) (kind_split held kind wide inside) ∙ often_cons times (get_or held kind 0) (drop (kind + 1) (take 34 held))
    ∙ ap (λ n. so_often times (drop (kind + 1) (take 34 held)) + n) (sym (as_number (leb times (get_or held kind 0))))

choose : (b : Bool) (x left : ℕ) (rest : List ℕ) → b ≡ ltb (better x (so_often 2 rest) (so_often 1 rest)) left
    → nearest_pairs (x ∷ rest) left ≡ 2 * bool_byte b ∷ nearest_pairs rest (left - bool_byte b)
choose true x left rest is = rw (← is) refl
choose false x left rest is = rw (← is) (let e : left ≡ left - 0 = omega arith in ap (λ n. 0 ∷ nearest_pairs rest n) e)

pub whole_kept : (held target whole : List ℕ) (kind left twice once : ℕ) (taken : Bool) → length held ≡ 36 → length target ≡ 36 → kind < 34
    → take kind target ++ nearest_pairs (drop kind (take 34 held)) left ≡ whole
    → twice ≡ so_often 2 (drop (kind + 1) (take 34 held)) → once ≡ so_often 1 (drop (kind + 1) (take 34 held)) → taken ≡ ltb (better (get_or held kind 0) twice once) left
    → take (kind + 1) (set target kind (2 * bool_byte taken)) ++ nearest_pairs (drop (kind + 1) (take 34 held)) (left - bool_byte taken) ≡ whole
whole_kept held target whole kind left twice once taken wide size inside before twos ones is =
    ap (λ xs. xs ++ nearest_pairs (drop (kind + 1) (take 34 held)) (left - bool_byte taken)) (take_more_set target kind (2 * bool_byte taken) (omega arith))
    ∙ append_assoc (take kind target) (2 * bool_byte taken ∷ []) (nearest_pairs (drop (kind + 1) (take 34 held)) (left - bool_byte taken))
    ∙ ap (λ ys. take kind target ++ ys) (sym (ap (λ xs. nearest_pairs xs left) (kind_split held kind wide inside)
    ∙ choose taken (get_or held kind 0) left (drop (kind + 1) (take 34 held)) (is ∙ ap₂ (λ a b. ltb (better (get_or held kind 0) a b) left) twos ones)))
    ∙ before

pub later_kept : (target : List ℕ) (kind y : ℕ) → ((k : ℕ) → kind ≤ k → get_or target k 0 ≡ 0) → (k : ℕ) → kind + 1 ≤ k → get_or (set target kind y) k 0 ≡ 0
later_kept target kind y before k later = (let apart : k ≢ kind = omega arith in get_or-set_other target kind k y 0 apart ∙ before k (omega arith))

-- a list whose first 34 numbers are these, and the others none
pub two_more : (target counts : List ℕ) → length target ≡ 36 → take 34 target ≡ counts → ((k : ℕ) → 34 ≤ k → get_or target k 0 ≡ 0) → target ≡ with_two counts
two_more target counts size first later = sym (take-append-drop 34 target) ∙ ap₂ (λ xs ys. xs ++ ys) first rest
  where
    rest : drop 34 target ≡ 0 ∷ 0 ∷ []
    rest = ext_get_or 0 (drop 34 target) (0 ∷ 0 ∷ []) (let d = length-drop 34 target in omega arith) (λ k inside. get_or-drop 34 target k 0 ∙ later (34 + k) (omega arith) ∙ sym (zero_at 2 k))

pub pairs_end : (held target : List ℕ) (kind left : ℕ) → length target ≡ 36 → length held ≡ 36 → kind ≡ 34
    → take kind target ++ nearest_pairs (drop kind (take 34 held)) left ≡ nearest_pairs (take 34 held) 7
    → ((k : ℕ) → kind ≤ k → get_or target k 0 ≡ 0) → target ≡ with_two (nearest_pairs (take 34 held) 7)
pairs_end held target kind left size wide last whole later =
    two_more target (nearest_pairs (take 34 held) 7) size first (λ k past. later k (omega arith))
  where
    none : drop kind (take 34 held) ≡ []
    none = drop_all kind (take 34 held) (let d : length (take 34 held) ≡ 34 = length-take-le 34 held (omega arith) in omega arith)

    first : take 34 target ≡ nearest_pairs (take 34 held) 7
    first = ap (λ k. take k target) (sym last) ∙ sym (append-nil (take kind target)) ∙ ap (λ xs. take kind target ++ nearest_pairs xs left) (sym none) ∙ whole

-- none of the numbers is above four
pub pairs_few : (ys : List ℕ) (k : ℕ) → list_all pair_or_none ys ≡ true → get_or ys k 0 ≤ 4
pairs_few [] k each = omega arith
pairs_few (y ∷ ys) zero each = (let f = and_parts (pair_or_none y) (list_all pair_or_none ys) each in elim (two_or_none y f.0) [ inl none ↦ omega arith | inr two ↦ omega arith ])
pairs_few (y ∷ ys) (suc k) each = pairs_few ys k (and_parts (pair_or_none y) (list_all pair_or_none ys) each).1
