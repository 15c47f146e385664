-- How many tiles a complete hand has.
use Rattle.std.proofs.Common.{ℕ, ◌≡◌, ◌≢◌, ◌<◌, ◌≤◌, ◌+◌, ◌-◌, ◌*◌, ◌++◌, ◌∷◌, [], Bool, true, cond, eqb, ltb, not, ◌||◌}
use Rattle.std.proofs.Common.{List, length, map, sum, refl, sym, ◌∙◌, ap, ap₂, arith, zero, suc, ◌⊎◌, inl, inr}
use Rattle.std.specs.List.{count_by, flat_map, list_all, range_with_len}
use Rattle.std.proofs.lemmas.Bool.{and_parts, cases_eq, eq-eqb, ne_eqb, eqb-true, ltb-true, or_cases, agree_below_at, false≢true}
use Rattle.std.proofs.lemmas.Bool.Decides.{nat_tests}
use Rattle.std.proofs.lemmas.List.{length-append, append_assoc}
use Rattle.std.proofs.lemmas.List.Sums.{sum_by-cons}
use Rattle.mj_tiles.specs.Counts.{all_kinds}
use Rattle.mj_readings.specs.declared.reading.Set.{Set}
use Rattle.mj_readings.specs.declared.reading.SetForm.{SetForm}
use Rattle.mj_readings.specs.declared.reading.SetForm.TheVariants.{Run, Triplet, Kan}
use Rattle.mj_tiles.specs.Terminals.{is_terminal_or_honour}
use Rattle.mj_readings.specs.Sets.{tiles_of_set, tiles_of_form, is_concealed, is_concealed_form, tally}
use Rattle.mj_readings.specs.Complete.{AreSetsAndPair, IsComplete, orphan_number}
use Rattle.mj_suits.specs.Targets.{missing}
use Rattle.mj_shanten.proofs.Parting.{concealed_form, run_low}
use Rattle.mj_shanten.proofs.Pairs.{pairs_in, pairs_cons, pair_or_none, seven_parts, two_or_none}

-- one number more
pub sum-cons : (x : ℕ) (xs : List ℕ) → sum (x ∷ xs) ≡ x + sum xs
sum-cons x xs = sum_by-cons (λ n. n) x xs

-- what a list misses and what is held are no fewer than it
pub sum_missing : (t h : List ℕ) → sum t ≤ missing t h + sum h
sum_missing [] h = omega arith
sum_missing (x ∷ xs) [] = (let a = sum-cons x xs in let b = sum_missing xs [] in omega arith)
sum_missing (x ∷ xs) (y ∷ ys) = (let a = sum-cons x xs in let b = sum-cons y ys in let c = sum_missing xs ys in omega arith)

pub missing_few : (t h : List ℕ) → missing t h ≤ sum t
missing_few [] h = omega arith
missing_few (x ∷ xs) [] = (let a = sum-cons x xs in let b = missing_few xs [] in omega arith)
missing_few (x ∷ xs) (y ∷ ys) = (let a = sum-cons x xs in let c = missing_few xs ys in omega arith)

-- ---- a tally

sum_both : (f g h : ℕ → ℕ) (ks : List ℕ) → ((k : ℕ) → f k ≡ g k + h k) → sum (map f ks) ≡ sum (map g ks) + sum (map h ks)
sum_both f g h [] each = omega arith
sum_both f g h (k ∷ ks) each =
    let a = sum-cons (f k) (map f ks) in
    let b = sum-cons (g k) (map g ks) in
    let c = sum-cons (h k) (map h ks) in
    let d = sum_both f g h ks each in
    let e = each k in
    omega arith

-- a kind stands once in a row of kinds, or not at all
sum_one : (x from n : ℕ) → (x < from) ⊎ (from + n ≤ x) → sum (map (λ k. cond (eqb x k) 1 0) (range_with_len from n)) ≡ 0
sum_one x from zero out = refl
sum_one x from (suc n) out =
    let apart : x ≢ from = (λ e. outside e out) in
    let a = sum-cons (cond (eqb x from) 1 0) (map (λ k. cond (eqb x k) 1 0) (range_with_len (from + 1) n)) in
    let b : cond (eqb x from) 1 0 ≡ 0 = ap (λ b. cond b 1 0) (ne_eqb x from apart) in
    let c : sum (map (λ k. cond (eqb x k) 1 0) (range_with_len (from + 1) n)) ≡ 0 = sum_one x (from + 1) n (further out) in
    a ∙ ap₂ (λ p q. p + q) b c
  where
    outside : x ≡ from → (x < from) ⊎ (from + suc n ≤ x) → ⊥
    outside e (inl a) = omega arith
    outside e (inr a) = omega arith

    further : (x < from) ⊎ (from + suc n ≤ x) → (x < from + 1) ⊎ (from + 1 + n ≤ x)
    further (inl a) = inl (omega arith)
    further (inr a) = inr (omega arith)

sum_here : (x from n : ℕ) → from ≤ x → x < from + n → sum (map (λ k. cond (eqb x k) 1 0) (range_with_len from n)) ≡ 1
sum_here x from zero low high = absurd (omega arith)
sum_here x from (suc n) low high =
    let a = sum-cons (cond (eqb x from) 1 0) (map (λ k. cond (eqb x k) 1 0) (range_with_len (from + 1) n)) in
    elim (cases_eq x from) [
      | inl same ↦
          (let b : cond (eqb x from) 1 0 ≡ 1 = ap (λ b. cond b 1 0) (eq-eqb x from same) in
          let c : sum (map (λ k. cond (eqb x k) 1 0) (range_with_len (from + 1) n)) ≡ 0 = sum_one x (from + 1) n (inl (omega arith)) in
          a ∙ ap₂ (λ p q. p + q) b c)
      | inr apart ↦
          (let b : cond (eqb x from) 1 0 ≡ 0 = ap (λ b. cond b 1 0) (ne_eqb x from apart) in
          let c : sum (map (λ k. cond (eqb x k) 1 0) (range_with_len (from + 1) n)) ≡ 1 = sum_here x (from + 1) n (omega arith) (omega arith) in
          a ∙ ap₂ (λ p q. p + q) b c)
    ]

sum_none : (ks : List ℕ) → sum (map (λ k. 0) ks) ≡ 0
sum_none [] = refl
sum_none (k ∷ ks) = sum-cons 0 (map (λ k. 0) ks) ∙ ap (λ n. 0 + n) (sum_none ks)

-- each tile is of a kind
abbrev pub all_low : List ℕ → Bool
all_low tiles = list_all (λ tile. ltb tile 34) tiles

pub sum_tally : (tiles : List ℕ) → all_low tiles ≡ true → sum (tally tiles) ≡ length tiles
unfolding tally all_kinds
sum_tally [] low = sum_none (range_with_len 0 34)
sum_tally (x ∷ tiles) low =
    let f = and_parts (ltb x 34) (all_low tiles) low in
    let a : sum (map (λ kind. count_by (λ other. eqb other kind) (x ∷ tiles)) (range_with_len 0 34)) ≡ sum (map (λ k. cond (eqb x k) 1 0) (range_with_len 0 34)) + sum
    (map (λ kind. count_by (λ other. eqb other kind) tiles) (range_with_len 0 34)) =
    sum_both (λ kind. count_by (λ other. eqb other kind) (x ∷ tiles)) (λ k. cond (eqb x k) 1 0) (λ kind. count_by (λ other. eqb other kind) tiles) (range_with_len 0 34)
    (λ k. sum_by-cons (λ other. cond (eqb other k) 1 0) x tiles) in
    let b : sum (map (λ k. cond (eqb x k) 1 0) (range_with_len 0 34)) ≡ 1 = sum_here x 0 34 (omega arith) (ltb-true x 34 f.0) in
    let c : sum (map (λ kind. count_by (λ other. eqb other kind) tiles) (range_with_len 0 34)) ≡ length tiles = sum_tally tiles f.1 in
    a ∙ ap₂ (λ p q. p + q) b c ∙ (let e : 1 + length tiles ≡ suc (length tiles) = omega arith in e)

form_tiles : (form : SetForm) (low : ℕ) → is_concealed_form form low ≡ true → (length (tiles_of_form form low) ≡ 3) × (all_low (tiles_of_form form low) ≡ true)
form_tiles Run low formed = (let r = run_low low formed in (refl, grind (arith, nat_tests)))
form_tiles Triplet low formed = (refl, grind (arith, nat_tests, ltb-true low 34 formed))
form_tiles Kan low formed = absurd (false≢true formed)

all_low-append : (xs ys : List ℕ) → all_low xs ≡ true → all_low ys ≡ true → all_low (xs ++ ys) ≡ true
all_low-append [] ys a b = b
all_low-append (x ∷ xs) ys a b = (let f = and_parts (ltb x 34) (all_low xs) a in rw f.0 (all_low-append xs ys f.1 b))

sets_tiles : (sets : List Set) (more : List ℕ) → list_all is_concealed sets ≡ true → all_low more ≡ true
    → (length (flat_map tiles_of_set sets ++ more) ≡ 3 * length sets + length more) × (all_low (flat_map tiles_of_set sets ++ more) ≡ true)
sets_tiles [] more formed low = (omega arith, low)
sets_tiles (s ∷ ss) more formed low =
    let f = and_parts (is_concealed s) (list_all is_concealed ss) formed in
    let h = form_tiles s.form s.low (concealed_form s f.0) in
    let r = sets_tiles ss more f.1 low in
    let assoc : (tiles_of_set s ++ flat_map tiles_of_set ss) ++ more ≡ tiles_of_set s ++ (flat_map tiles_of_set ss ++ more) = append_assoc (tiles_of_set s) (flat_map tiles_of_set ss) more in (
      ap length assoc ∙ length-append (tiles_of_set s) (flat_map tiles_of_set ss ++ more) ∙ ap₂ (λ p q. p + q) h.0 r.0 ∙ three (length ss) (length more),
      ap all_low assoc ∙ all_low-append (tiles_of_set s) (flat_map tiles_of_set ss ++ more) h.1 r.1,
    )
  where
    three : (n m : ℕ) → 3 + (3 * n + m) ≡ 3 * suc n + m
    three n m = omega arith

sum_sets : (counts : List ℕ) (number : ℕ) (sets : List Set) (pair : ℕ) → AreSetsAndPair counts number sets pair → sum counts ≡ 3 * number + 2
sum_sets counts number sets pair h =
    let low : all_low (pair ∷ pair ∷ []) ≡ true = two_low pair h.pair_kind in
    let t = sets_tiles sets (pair ∷ pair ∷ []) h.concealed low in
    ap sum (sym h.tiles) ∙ sum_tally (flat_map tiles_of_set sets ++ pair ∷ pair ∷ []) t.1 ∙ t.0 ∙ ap (λ n. 3 * n + 2) h.so_many
  where
    two_low : (p : ℕ) → p < 34 → all_low (p ∷ p ∷ []) ≡ true
    two_low p small = grind (arith, nat_tests)

sum_pairs : (ys : List ℕ) → list_all pair_or_none ys ≡ true → sum ys ≡ 2 * pairs_in ys
sum_pairs [] each = refl
sum_pairs (y ∷ ys) each =
    let f = and_parts (pair_or_none y) (list_all pair_or_none ys) each in
    let a = sum-cons y ys in
    let b = pairs_cons y ys in
    let c = sum_pairs ys f.1 in
    elim (two_or_none y f.0) [
      | inl none ↦ (let d : ◌≡◌ {A = ℕ} (cond (eqb y 2) 1 0) 0 = ap (λ n. cond (eqb n 2) 1 0) none in omega arith)
      | inr two ↦ (let d : ◌≡◌ {A = ℕ} (cond (eqb y 2) 1 0) 1 = ap (λ n. cond (eqb n 2) 1 0) two in omega arith)
    ]

sum_orphans : (double : ℕ) → double < 34 → is_terminal_or_honour double ≡ true → sum (map (orphan_number double) all_kinds) ≡ 14
unfolding all_kinds is_terminal_or_honour
sum_orphans double low orphan = fourteen orphan (agree_below_at (λ d. not (is_terminal_or_honour d) || eqb (sum (map (orphan_number d) all_kinds)) 14) (λ d. true) 34 double refl low)
  where
    fourteen : is_terminal_or_honour double ≡ true → (not (is_terminal_or_honour double) || eqb (sum (map (orphan_number double) all_kinds)) 14) ≡ true
        → sum (map (orphan_number double) all_kinds) ≡ 14
    fourteen a b = elim (or_cases (not (is_terminal_or_honour double)) (eqb (sum (map (orphan_number double) all_kinds)) 14) b) [
      | inl c ↦ absurd (false≢true (sym (ap not a) ∙ c))
      | inr c ↦ eqb-true _ _ c
    ]

-- a complete hand has fourteen tiles with three for each meld
pub sum_complete : (counts : List ℕ) (melds : ℕ) → IsComplete counts melds → sum counts + 3 * melds ≡ 14
sum_complete counts melds (inl h) = (let s = sum_sets counts (4 - melds) h.1.0 h.1.1 h.1.2 in let f = h.0 in omega arith)
sum_complete counts melds (inr (inl h)) = (let p = seven_parts counts h.1 in let s = sum_pairs counts p.0 in let e = h.0 in let q = p.1 in omega arith)
sum_complete counts melds (inr (inr h)) = (let s : sum counts ≡ 14 = ap sum h.1.1.tiles ∙ sum_orphans h.1.0 h.1.1.kind h.1.1.orphan in let e = h.0 in omega arith)
