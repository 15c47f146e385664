-- The ends of the search: a split that is found, and the whole of it.
use Rattle.std.proofs.Common.{◌≡◌, ◌&&◌, ◌||◌, not, eqb, ltb, Bool, true, false, ℕ, ◌+◌, ◌*◌, ◌<◌, ◌≤◌, Option, None, Some, List, []}
use Rattle.std.proofs.Common.{◌∷◌, ◌++◌, length, get_or, refl, sym, subst, ap, ap₂, ◌∙◌, inl, inr, arith, append-nil, ext_get_or}
use Rattle.std.specs.List.{list_all}
use Rattle.std.proofs.lemmas.Bool.{cases_lt, cases_Bool, false≢true, ltb-true, lt-ltb, le-ltb, eqb-true, eq-eqb, and_parts, and_from, or_cases, or_left, or_right, agree_below_at}
use Rattle.std.proofs.lemmas.List.{get_or-map}
use Rattle.mj_suits.specs.Each.{AreAll}
use Rattle.mj_suits.specs.Sets.{tiles_of_sets, tiles_of_pair, count_of, counts_of, numbers, is_well_formed, stands_before, is_in_order, is_pair, IsPartition}
use Rattle.mj_suits.specs.Inner.Search.{place, SetsFrom, PairFrom, first_pair, Continues, Finds}
use Rattle.mj_suits.specs.declared.sets.SuitSet.{SuitSet}
use Rattle.mj_suits.specs.declared.sets.Split.{Split}
use Rattle.mj_suits.proofs.Lists.{AreAll-same, AreAll-one}
use Rattle.mj_suits.proofs.Tiles.{place_cases}

-- ---- a split that is found

-- a well-formed set begins within the suit
pub low_within : (runs : Bool) (s : SuitSet) → is_well_formed runs s ≡ true → s.low < 9
low_within runs s formed = elim (cases_Bool s.run) [
  | inl run ↦
      let f : (runs && ltb s.low 7) ≡ true = rw run at formed in
      let b : s.low < 7 = ltb-true s.low 7 ((and_parts runs (ltb s.low 7) f).1) in
      omega arith
  | inr triplet ↦
      let f : ltb s.low 9 ≡ true = rw triplet at formed in
      ltb-true s.low 9 f
]

-- no well-formed set stands after the last number's
pub sets_over : (runs : Bool) (at : ℕ) (more : List SuitSet) → SetsFrom runs at more → 27 ≤ at → more ≡ []
sets_over runs at [] formed end = refl
sets_over runs at (s ∷ ss) formed end =
    let reach : at ≤ place s = formed.0 in
    let low : s.low < 9 = low_within runs s formed.1 in
    elim (place_cases s) [ inl a ↦ absurd (omega arith) | inr a ↦ absurd (omega arith) ]

-- there the pair is the chosen one
pair_over : (at : ℕ) (pair last : Option ℕ) → PairFrom at pair last → 27 ≤ at → first_pair pair last ≡ pair
pair_over at (Some chosen) last from end = refl
pair_over at None None from end = refl
pair_over at None (Some m) from end = let here : at ≤ 3 * m + 2 = from.0 in let high : m < 9 = from.1 in absurd (omega arith)

no_pair_more : (at : ℕ) (pair : Option ℕ) → PairFrom at pair None
no_pair_more at (Some chosen) = refl
no_pair_more at None = tt

first_pair-None : (pair : Option ℕ) → pair ≡ first_pair pair None
first_pair-None (Some chosen) = refl
first_pair-None None = refl

same_split : (x y : Split) → x.sets ≡ y.sets → x.pair ≡ y.pair → x ≡ y
same_split x y sets pairs = ap₂ (λ (s : List SuitSet) (p : Option ℕ). let split : Split = record { sets = s; pair = p } in split) sets pairs

-- after the highest number the one split is the one made so far
pub split_found : (runs : Bool) (low : ℕ) (left : List ℕ) (sets : List SuitSet) (pair : Option ℕ) (a : List Split) (x : Split) → low ≡ 8 → get_or left low 0 ≡ 0 → x.sets ≡ sets
    → x.pair ≡ pair → Finds (Continues runs (3 * low + 3) low left sets pair) a (a ++ x ∷ [])
split_found runs low left sets pair a x last none sets_are pair_is = record {
  added = x ∷ [];
  is = refl;
  are = AreAll-one (Continues runs (3 * low + 3) low left sets pair) x record {
    more = [];
    last = None;
    formed = tt;
    paired = no_pair_more (3 * low + 3) pair;
    used = λ n at high. sym (subst (λ k. get_or left k 0 ≡ 0) (let e : low ≡ n = omega arith in e) none);
    sets_are = sets_are ∙ sym (append-nil sets);
    pair_is = pair_is ∙ first_pair-None pair;
  } (λ y h.
      let over : h.more ≡ [] = sets_over runs (3 * low + 3) h.more h.formed (omega arith) in
      same_split y x
      (h.sets_are ∙ ap (λ more. sets ++ more) over ∙ append-nil sets ∙ sym sets_are)
      (h.pair_is ∙ pair_over (3 * low + 3) pair h.last h.paired (omega arith) ∙ sym pair_is));
}

-- ---- the whole search

-- one set stands before another where its place is not after the other's
pub place-before : (s t : SuitSet) → stands_before s t ≡ true → place s ≤ place t
place-before s t before = elim (or_cases _ _ before) [
  | inl lower ↦ (let l : s.low < t.low = ltb-true s.low t.low lower in
      elim (place_cases s) [
        | inl a ↦ elim (place_cases t) [ inl b ↦ omega arith | inr b ↦ omega arith ]
        | inr a ↦ elim (place_cases t) [ inl b ↦ omega arith | inr b ↦ omega arith ]
      ])
  | inr level ↦
      let parts : ((eqb s.low t.low) ≡ true) × ((s.run || not t.run) ≡ true) = and_parts _ _ level in
      let same : s.low ≡ t.low = eqb-true s.low t.low parts.0 in
      elim (place_cases s) [
        | inl a ↦ elim (place_cases t) [ inl b ↦ omega arith | inr b ↦ omega arith ]
        | inr a ↦ elim (place_cases t) [
          | inl b ↦ (let bad : (false || not true) ≡ true = ap₂ (λ u v. u || not v) (sym a.0) (sym b.0) ∙ parts.1 in absurd (false≢true bad))
          | inr b ↦ omega arith
        ]
      ]
]

pub before-place : (s t : SuitSet) → place s ≤ place t → stands_before s t ≡ true
before-place s t le = elim (cases_lt s.low t.low) [
  | inl lower ↦ or_left (ltb s.low t.low) _ (lt-ltb s.low t.low lower)
  | inr ge ↦ elim (place_cases s) [
    | inl a ↦ elim (place_cases t) [
      | inl b ↦ level (omega arith) (or_left s.run (not t.run) a.0)
      | inr b ↦ level (omega arith) (or_left s.run (not t.run) a.0)
    ]
    | inr a ↦ elim (place_cases t) [
      | inl b ↦ absurd (omega arith)
      | inr b ↦ level (omega arith) (or_right s.run (not t.run) (ap not b.0))
    ]
  ]
]
  where
    level : s.low ≡ t.low → (s.run || not t.run) ≡ true → stands_before s t ≡ true
    level same first = or_right (ltb s.low t.low) _ (and_from (eqb s.low t.low) _ (eq-eqb s.low t.low same) first)

pub formed_all : (runs : Bool) (at : ℕ) (sets : List SuitSet) → SetsFrom runs at sets → list_all (is_well_formed runs) sets ≡ true
formed_all runs at [] from = refl
formed_all runs at (s ∷ ss) from = and_from (is_well_formed runs s) _ from.1 (formed_all runs (place s) ss from.2)

before_all : (runs : Bool) (s : SuitSet) (at : ℕ) (sets : List SuitSet) → place s ≤ at → SetsFrom runs at sets → list_all (stands_before s) sets ≡ true
before_all runs s at [] le from = refl
before_all runs s at (t ∷ ts) le from =
    let reach : at ≤ place t = from.0 in
    and_from (stands_before s t) _ (before-place s t (omega arith)) (before_all runs s (place t) ts (omega arith) from.2)

ordered_all : (runs : Bool) (at : ℕ) (sets : List SuitSet) → SetsFrom runs at sets → is_in_order sets ≡ true
ordered_all runs at [] from = refl
ordered_all runs at (s ∷ ss) from = and_from (list_all (stands_before s) ss) _ (before_all runs s (place s) ss (omega arith) from.2) (ordered_all runs (place s) ss from.2)

-- sets that are well formed and in order, from a place that none of them stands before
sets_from_tests : (runs : Bool) (at : ℕ) (sets : List SuitSet) → list_all (is_well_formed runs) sets ≡ true → is_in_order sets ≡ true
    → list_all (λ s. not (ltb (place s) at)) sets ≡ true → SetsFrom runs at sets
sets_from_tests runs at [] formed ordered reach = tt
sets_from_tests runs at (s ∷ ss) formed ordered reach =
    let f : (is_well_formed runs s ≡ true) × (list_all (is_well_formed runs) ss ≡ true) = and_parts _ _ formed in
    let o : (list_all (stands_before s) ss ≡ true) × (is_in_order ss ≡ true) = and_parts _ _ ordered in
    let r : (not (ltb (place s) at) ≡ true) × (list_all (λ s. not (ltb (place s) at)) ss ≡ true) = and_parts _ _ reach in
    (not_below (place s) at r.0, f.0, sets_from_tests runs (place s) ss f.1 o.1 (all_above s ss o.0))
  where
    not_below : (m n : ℕ) → not (ltb m n) ≡ true → n ≤ m
    not_below m n above = elim (cases_lt m n) [
      | inl below ↦ absurd (false≢true (ap not (sym (lt-ltb m n below)) ∙ above))
      | inr le ↦ le
    ]

    all_above : (s : SuitSet) (ss : List SuitSet) → list_all (stands_before s) ss ≡ true → list_all (λ t. not (ltb (place t) (place s))) ss ≡ true
    all_above s [] before = refl
    all_above s (t ∷ ts) before =
        let b : (stands_before s t ≡ true) × (list_all (stands_before s) ts ≡ true) = and_parts _ _ before in
        and_from _ _ (ap not (le-ltb (place t) (place s) (place-before s t b.0))) (all_above s ts b.1)

-- every set stands at the first place or after it
all_from_first : (sets : List SuitSet) → list_all (λ s. not (ltb (place s) 0)) sets ≡ true
all_from_first [] = refl
all_from_first (s ∷ ss) = and_from _ _ (ap not (le-ltb (place s) 0 (omega arith))) (all_from_first ss)

-- the nine counts, read one by one
pub get_or-counts_of : (tiles : List ℕ) (n : ℕ) → n < 9 → get_or (counts_of tiles) n 0 ≡ count_of n tiles
unfolding counts_of
get_or-counts_of tiles n high =
    let place : get_or numbers n 0 ≡ n = eqb-true _ _ (agree_below_at (λ k. eqb (get_or numbers k 0) k) (λ k. true) 9 n refl high) in
    get_or-map (λ k. count_of k tiles) numbers n 0 0 high ∙ ap (λ k. count_of k tiles) place

pub length-counts_of : (tiles : List ℕ) → length (counts_of tiles) ≡ 9
unfolding counts_of
length-counts_of tiles = refl

-- lists of nine counts are the same where each count is
pub counts_are : (tiles counts : List ℕ) → length counts ≡ 9 → ((n : ℕ) → n < 9 → count_of n tiles ≡ get_or counts n 0) → counts_of tiles ≡ counts
counts_are tiles counts nine each =
    ext_get_or 0 (counts_of tiles) counts (length-counts_of tiles ∙ sym nine)
    (λ n inside. let high : n < 9 = subst (λ m. n < m) (length-counts_of tiles) inside in get_or-counts_of tiles n high ∙ each n high)

pair_test : (last : Option ℕ) → PairFrom 0 None last → is_pair last ≡ true
pair_test None from = refl
pair_test (Some m) from = lt-ltb m 9 from.1

pair_from_test : (last : Option ℕ) → is_pair last ≡ true → PairFrom 0 None last
pair_from_test None test = tt
pair_from_test (Some m) test = (omega arith, ltb-true m 9 test)

-- what goes on from the first place with nothing chosen is a partition, and so is no other
pub whole_search : (runs : Bool) (at : ℕ) (counts : List ℕ) (a b : List Split) → length counts ≡ 9 → at ≡ 0 → a ≡ [] → Finds (Continues runs at 0 counts [] None) a b
    → AreAll (IsPartition counts runs) b
whole_search runs at counts a b nine first none found =
    let at_first : Finds (Continues runs 0 0 counts [] None) a b = subst (λ p. Finds (Continues runs p 0 counts [] None) a b) first found in
    subst (AreAll (IsPartition counts runs)) (sym (at_first.is ∙ ap (λ xs. xs ++ at_first.added) none))
    (AreAll-same (IsPartition counts runs) (Continues runs 0 0 counts [] None) at_first.added to from at_first.are)
  where
    to : (x : Split) → Continues runs 0 0 counts [] None x → IsPartition counts runs x
    to x h = record {
      formed = ap (list_all (is_well_formed runs)) h.sets_are ∙ formed_all runs 0 h.more h.formed;
      ordered = ap is_in_order h.sets_are ∙ ordered_all runs 0 h.more h.formed;
      paired = ap is_pair h.pair_is ∙ pair_test h.last h.paired;
      counted = ap₂ (λ sets pair. counts_of (tiles_of_sets sets ++ tiles_of_pair pair)) h.sets_are h.pair_is
          ∙ counts_are (tiles_of_sets h.more ++ tiles_of_pair h.last) counts nine (λ n high. h.used n (omega arith) high);
    }

    from : (x : Split) → IsPartition counts runs x → Continues runs 0 0 counts [] None x
    from x h = record {
      more = x.sets;
      last = x.pair;
      formed = sets_from_tests runs 0 x.sets h.formed h.ordered (all_from_first x.sets);
      paired = pair_from_test x.pair h.paired;
      used = λ n low high. sym (get_or-counts_of (tiles_of_sets x.sets ++ tiles_of_pair x.pair) n high) ∙ ap (λ counts. get_or counts n 0) h.counted;
      sets_are = refl;
      pair_is = refl;
    }
