-- The tiles of sets by their places in the order of the search.
use Rattle.std.proofs.Common.{◌≡◌, ◌≢◌, ◌⊎◌, cond, eqb, Bool, true, false, ℕ, ◌+◌, ◌-◌, ◌*◌, ◌<◌, ◌≤◌, Option, None, Some, List, [], ◌∷◌}
use Rattle.std.proofs.Common.{◌++◌, length, get_or, set, refl, sym, subst, ap₂, ◌∙◌, inl, inr, arith, get_or-set_same, get_or-set_other}
use Rattle.std.proofs.lemmas.Bool.{cases_eq, cases_Bool, ne_eqb, eq-eqb}
use Rattle.std.proofs.lemmas.List.Sums.{sum_by-append}
use Rattle.mj_suits.specs.Sets.{tiles_of_set, tiles_of_sets, tiles_of_pair, count_of}
use Rattle.mj_suits.specs.Inner.Search.{place, SetsFrom, PairFrom}
use Rattle.mj_suits.specs.declared.sets.SuitSet.{SuitSet}

-- the count of a list of two parts
pub count_of-append : (n : ℕ) (xs ys : List ℕ) → count_of n (xs ++ ys) ≡ count_of n xs + count_of n ys
count_of-append n xs ys = sum_by-append (λ tile. cond (eqb tile n) 1 0) xs ys

-- a set at each number is a run or a triplet, and its place says which
pub place_cases : (s : SuitSet) → ((s.run ≡ true) × (place s ≡ 3 * s.low)) ⊎ ((s.run ≡ false) × (place s ≡ 3 * s.low + 1))
place_cases s = elim (cases_Bool s.run) [
  | inl run ↦ inl (run, rw run (omega arith))
  | inr triplet ↦ inr (triplet, rw triplet (omega arith))
]

-- two sets at one place are the same
pub place-injective : (s t : SuitSet) → place s ≡ place t → s ≡ t
place-injective s t same = elim (place_cases s) [
  | inl a ↦ elim (place_cases t) [
    | inl b ↦ made s t (a.0 ∙ sym b.0) (omega arith)
    | inr b ↦ absurd (omega arith)
  ]
  | inr a ↦ elim (place_cases t) [
    | inl b ↦ absurd (omega arith)
    | inr b ↦ made s t (a.0 ∙ sym b.0) (omega arith)
  ]
]
  where
    made : (s t : SuitSet) → s.run ≡ t.run → s.low ≡ t.low → s ≡ t
    made s t runs lows = ap₂ (λ r l. let set : SuitSet = record { run = r; low = l } in set) runs lows

-- no set stands at the place of a pair
pub place-apart : (s : SuitSet) (n : ℕ) → place s ≡ 3 * n + 2 → ⊥
place-apart s n same = elim (place_cases s) [ inl a ↦ omega arith | inr a ↦ omega arith ]

-- a set has no tile below its lowest
pub count_of-below_set : (n : ℕ) (s : SuitSet) → n < s.low → count_of n (tiles_of_set s) ≡ 0
count_of-below_set n s below =
    let first : eqb s.low n ≡ false = ne_eqb s.low n (λ e. omega arith) in
    let second : eqb (s.low + 1) n ≡ false = ne_eqb (s.low + 1) n (λ e. omega arith) in
    let third : eqb (s.low + 2) n ≡ false = ne_eqb (s.low + 2) n (λ e. omega arith) in
    elim (cases_Bool s.run) [
      | inl run ↦ rw run (rw (first, second, third) refl)
      | inr triplet ↦ rw triplet (rw first refl)
    ]

-- sets from a place on have no tile of a number all of whose places are before
pub count_of-below_sets : (runs : Bool) (at n : ℕ) (sets : List SuitSet) → SetsFrom runs at sets → 3 * n + 2 < at → count_of n (tiles_of_sets sets) ≡ 0
count_of-below_sets runs at n [] from below = refl
count_of-below_sets runs at n (s ∷ ss) from below =
    let reach : at ≤ place s = from.0 in
    let low : n < s.low = elim (place_cases s) [ inl a ↦ omega arith | inr a ↦ omega arith ] in
    let here : count_of n (tiles_of_set s) ≡ 0 = count_of-below_set n s low in
    let later : 3 * n + 2 < place s = omega arith in
    let rest : count_of n (tiles_of_sets ss) ≡ 0 = count_of-below_sets runs (place s) n ss from.2 later in
    count_of-append n (tiles_of_set s) (tiles_of_sets ss) ∙ rw (here, rest) refl

-- a pair of another number has no tile of this one
pub count_of-other_pair : (m n : ℕ) → m ≢ n → count_of n (tiles_of_pair (Some m)) ≡ 0
count_of-other_pair m n other =
    let e : eqb m n ≡ false = ne_eqb m n other in
    rw e refl

-- a pair has two tiles of its number
pub count_of-pair : (n : ℕ) → count_of n (tiles_of_pair (Some n)) ≡ 2
count_of-pair n =
    let e : eqb n n ≡ true = eq-eqb n n refl in
    rw e refl

-- a pair from a place on has no tile of a number all of whose places are before
pub count_of-below_pair : (at n : ℕ) (pair last : Option ℕ) → PairFrom at pair last → 3 * n + 2 < at → count_of n (tiles_of_pair last) ≡ 0
count_of-below_pair at n (Some chosen) last from below = rw from refl
count_of-below_pair at n None None from below = refl
count_of-below_pair at n None (Some m) from below = let here : at ≤ 3 * m + 2 = from.0 in count_of-other_pair m n (λ e. omega arith)

-- sets from a later place on are sets from an earlier one on
pub SetsFrom-earlier : (runs : Bool) (at later : ℕ) (sets : List SuitSet) → at ≤ later → SetsFrom runs later sets → SetsFrom runs at sets
SetsFrom-earlier runs at later [] le from = tt
SetsFrom-earlier runs at later (s ∷ ss) le from = let reach : later ≤ place s = from.0 in (omega arith, from.1, from.2)

-- where no set stands at a place, they are from the next one on
pub SetsFrom-later : (runs : Bool) (at : ℕ) (sets : List SuitSet) → ((s : SuitSet) → place s ≢ at) → SetsFrom runs at sets → SetsFrom runs (at + 1) sets
SetsFrom-later runs at [] none from = tt
SetsFrom-later runs at (s ∷ ss) none from = let reach : at ≤ place s = from.0 in let apart : place s ≢ at = none s in (omega arith, from.1, from.2)

pub PairFrom-earlier : (at later : ℕ) (pair last : Option ℕ) → at ≤ later → PairFrom later pair last → PairFrom at pair last
PairFrom-earlier at later (Some chosen) last le from = from
PairFrom-earlier at later None None le from = tt
PairFrom-earlier at later None (Some m) le from = let here : later ≤ 3 * m + 2 = from.0 in (omega arith, from.1)

-- where the place is that of a set, the pair is at a later one
pub PairFrom-later : (s : SuitSet) (pair last : Option ℕ) → PairFrom (place s) pair last → PairFrom (place s + 1) pair last
PairFrom-later s (Some chosen) last from = from
PairFrom-later s None None from = tt
PairFrom-later s None (Some m) from =
    let here : place s ≤ 3 * m + 2 = from.0 in
    let apart : place s ≢ 3 * m + 2 = place-apart s m in
    (omega arith, from.1)

-- two tiles less of a number leave the other counts as they were
pub pair_parts : (left rest : List ℕ) (low n : ℕ) → low < length left → 2 ≤ get_or left low 0 → rest ≡ set left low (get_or left low 0 - 2)
    → get_or left n 0 ≡ count_of n (tiles_of_pair (Some low)) + get_or rest n 0
pair_parts left rest low n inside two is = elim (cases_eq low n) [
  | inl same ↦
      let here : get_or (set left low (get_or left low 0 - 2)) low 0 ≡ get_or left low 0 - 2 = get_or-set_same left low (get_or left low 0 - 2) 0 inside in
      let counted : count_of low (tiles_of_pair (Some low)) ≡ 2 = count_of-pair low in
      subst (λ m. get_or left m 0 ≡ count_of m (tiles_of_pair (Some low)) + get_or rest m 0) same
      (rw is (rw (here, counted) (omega arith)))
  | inr other ↦
      let away : n ≢ low = λ e. other (sym e) in
      let there : get_or (set left low (get_or left low 0 - 2)) n 0 ≡ get_or left n 0 = get_or-set_other left low n (get_or left low 0 - 2) 0 away in
      let none : count_of n (tiles_of_pair (Some low)) ≡ 0 = count_of-other_pair low n other in
      rw is (rw (there, none) (omega arith))
]
