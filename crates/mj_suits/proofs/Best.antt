-- The walk gives exactly what the best tiles leave: none leave more, and where something is left some tiles leave it.
use Rattle.std.proofs.Common.{◌≡◌, ◌⊎◌, ◌&&◌, eqb, cond, ℕ, zero, suc, ◌+◌, ◌-◌, ◌*◌, ◌<◌, ◌≤◌, Bool, true, false, max}
use Rattle.std.proofs.Common.{List, [], ◌∷◌, drop, length, get_or, refl, sym, subst, ap, ap₂, ◌∙◌, inl, inr, arith}
use Rattle.std.proofs.lemmas.Bool.{cases_lt, cases_eq, cases_Bool, cases_cond, eqb-true, and_parts}
use Rattle.std.proofs.lemmas.List.{get_or_past, get_or-drop, length-drop}
use Rattle.mj_suits.specs.Rows.{price, prices, most_left, begun, begun_by_tiles, stepped, walked}
use Rattle.mj_suits.specs.Targets.{missing}
use Rattle.mj_suits.proofs.Taken.{taken_in, taken_few_sets, taken_few_pairs}
use Rattle.mj_suits.proofs.Rows.{walked_at, walked_past, walked_none}
use Rattle.mj_suits.specs.Inner.Ends.{Goes, Ends}
use Rattle.mj_suits.proofs.Ends.{fewer_runs}

-- ---- the most that is left

same_le : (n : ℕ) → n ≤ n
same_le n = omega arith

le_max_left : (a b : ℕ) → a ≤ max a b
le_max_left a b = omega arith

le_max_right : (a b : ℕ) → b ≤ max a b
le_max_right a b = omega arith

most_left_bound : (lefts costs : List ℕ) (k : ℕ) → k < length lefts → k < length costs → get_or lefts k 0 ≤ most_left lefts costs + get_or costs k 0
most_left_bound [] costs k few few_costs = absurd (omega arith)
most_left_bound (l ∷ ls) [] k few few_costs = absurd (omega arith)
most_left_bound (l ∷ ls) (c ∷ cs) zero few few_costs = omega arith
most_left_bound (l ∷ ls) (c ∷ cs) (suc k) few few_costs =
    let rest : get_or ls k 0 ≤ most_left ls cs + get_or cs k 0 = most_left_bound ls cs k (omega arith) (omega arith) in
    omega arith

-- where something is left, one of the choices leaves it
pub record Leaves (lefts costs : List ℕ) : Type 0 where
  pub at : ℕ
  pub few : at < length lefts
  pub few_costs : at < length costs
  pub is : most_left lefts costs ≡ get_or lefts at 0 - get_or costs at 0

most_left_reached : (lefts costs : List ℕ) → (most_left lefts costs ≡ 0) ⊎ Leaves lefts costs
most_left_reached [] costs = inl refl
most_left_reached (l ∷ ls) [] = inl refl
most_left_reached (l ∷ ls) (c ∷ cs) = elim (most_left_reached ls cs) [
  | inl none ↦ inr record { at = 0; few = omega arith; few_costs = omega arith; is = omega arith }
  | inr later ↦ elim (cases_lt (l - c) (most_left ls cs)) [
    | inl less ↦ inr record { at = suc later.at; few = (let f = later.few in omega arith); few_costs = (let f = later.few_costs in omega arith); is = (let e = later.is in omega arith) }
    | inr more ↦ inr record { at = 0; few = omega arith; few_costs = omega arith; is = omega arith }
  ]
]

-- ---- the choices at a number

choice_bound : (runs : Bool) (next : ℕ → ℕ → ℕ → ℕ) (s p r t e : ℕ) → r ≤ 2 → t + e ≤ 1 → r + 3 * t + 2 * e ≤ 4 → (runs ≡ false → r ≡ 0)
    → begun next r t e s p ≤ get_or (begun_by_tiles runs next s p) (r + 3 * t + 2 * e) 0
choice_bound true next s p zero zero zero few one four only = same_le _
choice_bound true next s p (suc zero) zero zero few one four only = same_le _
choice_bound true next s p (suc (suc zero)) zero zero few one four only = le_max_left _ _
choice_bound true next s p zero (suc zero) zero few one four only = le_max_left _ _
choice_bound true next s p (suc zero) (suc zero) zero few one four only = le_max_left _ _
choice_bound true next s p zero zero (suc zero) few one four only = le_max_right _ _
choice_bound true next s p (suc zero) zero (suc zero) few one four only = le_max_right _ _
choice_bound true next s p (suc (suc zero)) zero (suc zero) few one four only = le_max_right _ _
choice_bound false next s p zero zero zero few one four only = same_le _
choice_bound false next s p zero zero (suc zero) few one four only = same_le _
choice_bound false next s p zero (suc zero) zero few one four only = same_le _
choice_bound false next s p (suc r) t e few one four only = absurd (let z : suc r ≡ 0 = only refl in omega arith)
choice_bound runs next s p (suc (suc (suc r))) t e few one four only = absurd (omega arith)
choice_bound runs next s p (suc (suc zero)) (suc t) e few one four only = absurd (omega arith)
choice_bound runs next s p r (suc (suc t)) e few one four only = absurd (omega arith)
choice_bound runs next s p r t (suc (suc e)) few one four only = absurd (omega arith)
choice_bound runs next s p r (suc t) (suc e) few one four only = absurd (omega arith)

-- so many tiles begin by one of the choices, and this is left
pub record Chooses (runs : Bool) (next : ℕ → ℕ → ℕ → ℕ) (s p tiles left : ℕ) : Type 0 where
  pub begin : ℕ
  pub triplets : ℕ
  pub pairs : ℕ
  pub tiles_are : tiles ≡ begin + 3 * triplets + 2 * pairs
  pub only : runs ≡ false → begin ≡ 0
  pub left_is : left ≡ begun next begin triplets pairs s p

chooses_max : (runs : Bool) (next : ℕ → ℕ → ℕ → ℕ) (s p tiles a b : ℕ) → Chooses runs next s p tiles a → Chooses runs next s p tiles b → Chooses runs next s p tiles (max a b)
chooses_max runs next s p tiles a b first second = elim (cases_lt a b) [
  | inl less ↦ subst (Chooses runs next s p tiles) (let e : b ≡ max a b = omega arith in e) second
  | inr more ↦ subst (Chooses runs next s p tiles) (let e : a ≡ max a b = omega arith in e) first
]

chosen : (next : ℕ → ℕ → ℕ → ℕ) (s p begin triplets pairs tiles : ℕ) → tiles ≡ begin + 3 * triplets + 2 * pairs → Chooses true next s p tiles (begun next begin triplets pairs s p)
chosen next s p begin triplets pairs tiles are = record { begin = begin; triplets = triplets; pairs = pairs; tiles_are = are; only = λ false_is. absurd (cc); left_is = refl }

chosen_alone : (next : ℕ → ℕ → ℕ → ℕ) (s p triplets pairs tiles : ℕ) → tiles ≡ 3 * triplets + 2 * pairs → Chooses false next s p tiles (begun next 0 triplets pairs s p)
chosen_alone next s p triplets pairs tiles are = record { begin = 0; triplets = triplets; pairs = pairs; tiles_are = omega arith; only = λ false_is. refl; left_is = refl }

pub choice_reached : (runs : Bool) (next : ℕ → ℕ → ℕ → ℕ) (s p k : ℕ) → (get_or (begun_by_tiles runs next s p) k 0 ≡ 0) ⊎ Chooses runs next s p k (get_or (begun_by_tiles runs next s p) k 0)
choice_reached true next s p zero = inr (chosen next s p 0 0 0 0 refl)
choice_reached true next s p (suc zero) = inr (chosen next s p 1 0 0 1 refl)
choice_reached true next s p (suc (suc zero)) = inr (chooses_max true next s p 2 _ _ (chosen next s p 2 0 0 2 refl) (chosen next s p 0 0 1 2 refl))
choice_reached true next s p (suc (suc (suc zero))) = inr (chooses_max true next s p 3 _ _ (chosen next s p 0 1 0 3 refl) (chosen next s p 1 0 1 3 refl))
choice_reached true next s p (suc (suc (suc (suc zero)))) = inr (chooses_max true next s p 4 _ _ (chosen next s p 1 1 0 4 refl) (chosen next s p 2 0 1 4 refl))
choice_reached true next s p (suc (suc (suc (suc (suc k))))) = inl refl
choice_reached false next s p zero = inr (chosen_alone next s p 0 0 0 refl)
choice_reached false next s p (suc zero) = inl refl
choice_reached false next s p (suc (suc zero)) = inr (chosen_alone next s p 0 1 2 refl)
choice_reached false next s p (suc (suc (suc zero))) = inr (chosen_alone next s p 1 0 3 refl)
choice_reached false next s p (suc (suc (suc (suc k)))) = inl refl

-- the choices are for none to four tiles
length-begun_by_tiles : (runs : Bool) (next : ℕ → ℕ → ℕ → ℕ) (s p : ℕ) → length (begun_by_tiles runs next s p) ≤ 5
length-begun_by_tiles true next s p = omega arith
length-begun_by_tiles false next s p = omega arith

prices_at : (held room j : ℕ) → j ≤ 4 → get_or (prices held room) j 0 ≡ price held room j
prices_at held room zero few = omega arith
prices_at held room (suc zero) few = refl
prices_at held room (suc (suc zero)) few = refl
prices_at held room (suc (suc (suc zero))) few = refl
prices_at held room (suc (suc (suc (suc zero)))) few = refl
prices_at held room (suc (suc (suc (suc (suc j))))) few = absurd (omega arith)

cost_at : (held room n k : ℕ) → n + k ≤ 4 → get_or (drop n (prices held room)) k 0 ≡ price held room (n + k)
cost_at held room n k few = get_or-drop n (prices held room) k 0 ∙ prices_at held room (n + k) few

-- ---- no tiles leave more

-- no number has room for more than four
abbrev pub OfFour : List ℕ → Type 0
OfFour [] = Unit {0}
OfFour (most ∷ room) = (most ≤ 4) × OfFour room

choices_for : (runs : Bool) (next : ℕ → ℕ → ℕ → ℕ) (s p k : ℕ) → k ≤ 4 → (k < length (begun_by_tiles runs next s p)) ⊎ (get_or (begun_by_tiles runs next s p) k 0 ≡ 0)
choices_for true next s p k few = inl (omega arith)
choices_for false next s p k few = elim (cases_lt k 4) [ inl less ↦ inl (omega arith) | inr more ↦ inr (get_or_past (begun_by_tiles false next s p) k 0 (omega arith)) ]

-- what a choice leaves is at most what the number leaves and the choice costs
pub step_bound : (runs : Bool) (next : ℕ → ℕ → ℕ → ℕ → ℕ) (held most before earlier s p r t e : ℕ) → most ≤ 4 → r ≤ 2 → t + e ≤ 1 → before + earlier + (r + 3 * t + 2 * e) ≤ most
    → (runs ≡ false → r ≡ 0) → r + t ≤ s → e ≤ p
    → next r before (s - (r + t)) (p - e) ≤ stepped runs held most next before earlier s p + (before + earlier + (r + 3 * t + 2 * e) - held)
step_bound runs next held most before earlier s p r t e of_four few one within only sets pairs =
    let k = r + 3 * t + 2 * e in
    let lefts = begun_by_tiles runs (λ begin. next begin before) s p in
    let left : begun (λ begin. next begin before) r t e s p ≤ get_or lefts k 0 = choice_bound runs (λ begin. next begin before) s p r t e few one (omega arith) only in
    let same : begun (λ begin. next begin before) r t e s p ≡ next r before (s - (r + t)) (p - e) = taken_in (r + t) e (next r before) s p sets pairs in
    let cost : get_or (drop (before + earlier) (prices held most)) k 0 ≡ price held most (before + earlier + k) = cost_at held most (before + earlier) k (omega arith) in
    let long : length (drop (before + earlier) (prices held most)) ≡ 5 - (before + earlier) = length-drop (before + earlier) (prices held most) in
    elim (choices_for runs (λ begin. next begin before) s p k (omega arith)) [
      | inl there ↦
          let bound : get_or lefts k 0 ≤ most_left lefts (drop (before + earlier) (prices held most)) + get_or (drop (before + earlier) (prices held most)) k 0 =
          most_left_bound lefts (drop (before + earlier) (prices held most)) k there (omega arith) in
          paid _ _ _ _ _ _ _ _ left same cost bound within
      | inr none ↦ nothing _ _ _ _ left same none
    ]
  where
    paid : (begun next left whole cost held most n : ℕ) → begun ≤ left → begun ≡ next → cost ≡ price held most n → left ≤ whole + cost → n ≤ most → next ≤ whole + (n - held)
    paid begun next left whole cost held most n a b c d e = omega arith

    nothing : (begun next left whole : ℕ) → begun ≤ left → begun ≡ next → left ≡ 0 → next ≤ whole
    nothing begun next left whole a b c = omega arith

-- tiles that go on from the number leave at most what it leaves and they miss
goes_bound : (runs : Bool) (next : ℕ → ℕ → ℕ → ℕ → ℕ) (room : List ℕ) (most have before earlier sets pairs : ℕ) (held tiles : List ℕ) (sl pl spare : ℕ)
    (goes : Goes runs (Ends runs room) most before earlier sets pairs tiles) → most ≤ 4 → goes.begin ≤ 2 → pairs + pl ≤ 1
    → spare ≤ next goes.begin before (goes.sets_later + sl) (goes.pairs_later + pl) + missing goes.rest held
    → spare ≤ stepped runs have most next before earlier (sets + sl) (pairs + pl) + missing tiles (have ∷ held)
goes_bound runs next room most have before earlier sets pairs held tiles sl pl spare goes of_four few one later =
    let sets_are : sets ≡ goes.begin + goes.triplets + goes.sets_later = goes.sets_are in
    let pairs_are : pairs ≡ goes.pairs_here + goes.pairs_later = goes.pairs_are in
    let within : before + earlier + (goes.begin + 3 * goes.triplets + 2 * goes.pairs_here) ≤ most = goes.within in
    let bound : next goes.begin before (sets + sl - (goes.begin + goes.triplets)) (pairs + pl - goes.pairs_here) ≤ stepped runs have most next before earlier (sets + sl) (pairs + pl) +
    (before + earlier + (goes.begin + 3 * goes.triplets + 2 * goes.pairs_here) - have) =
    step_bound runs next have most before earlier (sets + sl) (pairs + pl) goes.begin goes.triplets goes.pairs_here of_four few (omega arith) within goes.only (omega arith) (omega arith) in
    let s : sets + sl - (goes.begin + goes.triplets) ≡ goes.sets_later + sl = omega arith in
    let p : pairs + pl - goes.pairs_here ≡ goes.pairs_later + pl = omega arith in
    let same : next goes.begin before (sets + sl - (goes.begin + goes.triplets)) (pairs + pl - goes.pairs_here) ≡ next goes.begin before (goes.sets_later + sl) (goes.pairs_later + pl) =
    ap₂ (next goes.begin before) s p in
    let cost : missing tiles (have ∷ held) ≡ (before + earlier + (goes.begin + 3 * goes.triplets + 2 * goes.pairs_here) - have) + missing goes.rest held =
    ap (λ t. missing t (have ∷ held)) goes.tiles_are in
    joined _ _ _ _ _ _ _ bound same cost later
  where
    joined : (spare next next' whole here rest tiles : ℕ) → next ≤ whole + here → next ≡ next' → tiles ≡ here + rest → spare ≤ next' + rest → spare ≤ whole + tiles
    joined spare next next' whole here rest tiles a b c d = omega arith

pub walked_bound : (runs : Bool) (after : ℕ → ℕ → ℕ) (room held : List ℕ) (before earlier sets pairs : ℕ) (tiles : List ℕ) → length room ≡ length held → OfFour room
    → Ends runs room before earlier sets pairs tiles → (sl pl : ℕ) → pairs + pl ≤ 1
    → after sl pl ≤ walked runs after room held before earlier (sets + sl) (pairs + pl) + missing tiles held
walked_bound runs after [] held before earlier sets pairs tiles long of_four ends sl pl one =
    let s : sets + sl ≡ sl = (let z : sets ≡ 0 = ends.1.1.0 in omega arith) in
    let p : pairs + pl ≡ pl = (let z : pairs ≡ 0 = ends.1.1.1.0 in omega arith) in
    let there : ((eqb before 0) && (eqb earlier 0)) ≡ true = ap₂ (λ a b. (eqb a 0) && (eqb b 0)) ends.0 ends.1.0 in
    let is : walked runs after [] held before earlier (sets + sl) (pairs + pl) ≡ after sl pl =
    walked_past runs after held before earlier (sets + sl) (pairs + pl) ∙ ap₂ (λ t v. cond t v 0) there (ap₂ after s p) in
    omega arith
walked_bound runs after (most ∷ room) [] before earlier sets pairs tiles long of_four ends sl pl one = absurd (omega arith)
walked_bound runs after (most ∷ room) (have ∷ held) before earlier sets pairs tiles long of_four goes sl pl one =
    rw (walked_at runs after most have room held before earlier (sets + sl) (pairs + pl)) (elim (cases_lt goes.begin 3) [
      | inl few ↦ goes_bound runs (walked runs after room held) room most have before earlier sets pairs held tiles sl pl (after sl pl) goes of_four.0 (omega arith) one
          (walked_bound runs after room held goes.begin before goes.sets_later goes.pairs_later goes.rest (omega arith) of_four.1 goes.more sl pl (let e = goes.pairs_are in omega arith))
      | inr many ↦
          let swapped = fewer_runs runs room most before earlier sets pairs tiles goes many in
          let fewer = swapped.0 in
          let three : fewer.begin + 3 ≡ goes.begin = swapped.1 in
          goes_bound runs (walked runs after room held) room most have before earlier sets pairs held tiles sl pl (after sl pl) fewer of_four.0
          (let w = goes.within in let m = of_four.0 in omega arith) one
          (walked_bound runs after room held fewer.begin before fewer.sets_later fewer.pairs_later fewer.rest (omega arith) of_four.1 fewer.more sl pl (let e = fewer.pairs_are in omega arith))
    ])

-- ---- some tiles leave it

-- tiles with so many sets and pairs, and what is left after them
pub record Reached (runs : Bool) (after : ℕ → ℕ → ℕ) (room held : List ℕ) (before earlier s p left : ℕ) : Type 0 where
  pub sets : ℕ
  pub pairs : ℕ
  pub sets_left : ℕ
  pub pairs_left : ℕ
  pub tiles : List ℕ
  pub ends : Ends runs room before earlier sets pairs tiles
  pub sets_are : s ≡ sets + sets_left
  pub pairs_are : p ≡ pairs + pairs_left
  pub left_is : after sets_left pairs_left ≡ left + missing tiles held

-- what begins is no more than what is left after it
begun_few : (next : ℕ → ℕ → ℕ → ℕ) (r t e s p few : ℕ) → s < 8 → p < 2 → ((s p : ℕ) → s < 8 → p < 2 → next r s p ≤ few) → begun next r t e s p ≤ few
begun_few next r t e s p few few_sets one bound = elim (cases_lt s (r + t)) [
  | inl less ↦ (let z : begun next r t e s p ≡ 0 = taken_few_sets (r + t) e (next r) s p less in omega arith)
  | inr sets ↦ elim (cases_lt p e) [
    | inl less ↦ (let z : begun next r t e s p ≡ 0 = taken_few_pairs (r + t) e (next r) s p less in omega arith)
    | inr pairs ↦ (let z : begun next r t e s p ≡ next r (s - (r + t)) (p - e) = taken_in (r + t) e (next r) s p sets pairs in
        let b = bound (s - (r + t)) (p - e) (omega arith) (omega arith) in omega arith)
  ]
]

-- the walk leaves at most fifteen
pub walked_few : (runs : Bool) (after : ℕ → ℕ → ℕ) → ((s p : ℕ) → s < 8 → p < 2 → after s p ≤ 15) → (room held : List ℕ) (before earlier s p : ℕ) → s < 8 → p < 2
    → walked runs after room held before earlier s p ≤ 15
walked_few runs after few [] held before earlier s p few_sets one =
    let b = few s p few_sets one in
    elim (cases_cond ((eqb before 0) && (eqb earlier 0)) (after s p) 0 (walked runs after [] held before earlier s p) (walked_past runs after held before earlier s p))
    [ inl e ↦ omega arith | inr e ↦ omega arith ]
walked_few runs after few (most ∷ room) [] before earlier s p few_sets one = (let z = walked_none runs after most room before earlier s p in omega arith)
walked_few runs after few (most ∷ room) (have ∷ held) before earlier s p few_sets one = rw (walked_at runs after most have room held before earlier s p) (elim (most_left_reached lefts costs) [
  | inl none ↦ omega arith
  | inr leaves ↦
      let is : most_left lefts costs ≡ get_or lefts leaves.at 0 - get_or costs leaves.at 0 = leaves.is in
      elim (choice_reached runs next s p leaves.at) [
        | inl none ↦ omega arith
        | inr chooses ↦
            let b : begun next chooses.begin chooses.triplets chooses.pairs s p ≤ 15 =
            begun_few next chooses.begin chooses.triplets chooses.pairs s p 15 few_sets one (λ s p. walked_few runs after few room held chooses.begin before s p) in
            let c : get_or lefts leaves.at 0 ≡ begun next chooses.begin chooses.triplets chooses.pairs s p = chooses.left_is in
            omega arith
      ]
])
  where
    next : ℕ → ℕ → ℕ → ℕ
    next begin s p = walked runs after room held begin before s p

    lefts : List ℕ
    lefts = begun_by_tiles runs next s p

    costs : List ℕ
    costs = drop (before + earlier) (prices have most)

-- what begins is left where there are so many sets and pairs
record Begins (next : ℕ → ℕ → ℕ → ℕ) (r t e s p : ℕ) : Type 0 where
  pub sets : r + t ≤ s
  pub pairs : e ≤ p
  pub is : begun next r t e s p ≡ next r (s - (r + t)) (p - e)

begun_reached : (next : ℕ → ℕ → ℕ → ℕ) (r t e s p : ℕ) → 0 < begun next r t e s p → Begins next r t e s p
begun_reached next r t e s p some = elim (cases_lt s (r + t)) [
  | inl less ↦ absurd (let z : begun next r t e s p ≡ 0 = taken_few_sets (r + t) e (next r) s p less in omega arith)
  | inr sets ↦ elim (cases_lt p e) [
    | inl less ↦ absurd (let z : begun next r t e s p ≡ 0 = taken_few_pairs (r + t) e (next r) s p less in omega arith)
    | inr pairs ↦ record { sets = sets; pairs = pairs; is = taken_in (r + t) e (next r) s p sets pairs }
  ]
]

-- what is left at a number by tiles that go on from it
step_reached : (runs : Bool) (after : ℕ → ℕ → ℕ) (room held : List ℕ) (most have before earlier s p r t e : ℕ) (begins : Begins (λ begin. walked runs after room held begin before) r t e s p)
    → before + earlier + (r + 3 * t + 2 * e) ≤ most → (runs ≡ false → r ≡ 0)
    → (left : ℕ) → walked runs after room held r before (s - (r + t)) (p - e) ≡ left + (before + earlier + (r + 3 * t + 2 * e) - have)
    → Reached runs after room held r before (s - (r + t)) (p - e) (walked runs after room held r before (s - (r + t)) (p - e))
    → Reached runs after (most ∷ room) (have ∷ held) before earlier s p left
step_reached runs after room held most have before earlier s p r t e begins within only left left_is later =
    let sets = begins.sets in
    let pairs = begins.pairs in
    let sets_later = later.sets_are in
    let pairs_later = later.pairs_are in
    let after_is = later.left_is in
    record {
      sets = r + t + later.sets;
      pairs = e + later.pairs;
      sets_left = later.sets_left;
      pairs_left = later.pairs_left;
      tiles = (before + earlier + (r + 3 * t + 2 * e)) ∷ later.tiles;
      ends = record {
        begin = r;
        triplets = t;
        pairs_here = e;
        sets_later = later.sets;
        pairs_later = later.pairs;
        rest = later.tiles;
        more = later.ends;
        only = only;
        sets_are = refl;
        pairs_are = refl;
        tiles_are = refl;
        within = within;
      };
      sets_are = omega arith;
      pairs_are = omega arith;
      left_is = omega arith;
    }

pub walked_reached : (runs : Bool) (after : ℕ → ℕ → ℕ) → ((s p : ℕ) → s < 8 → p < 2 → after s p ≤ 15) → (room held : List ℕ) (before earlier s p : ℕ) → s < 8 → p < 2
    → length room ≡ length held → OfFour room
    → (walked runs after room held before earlier s p ≡ 0) ⊎ Reached runs after room held before earlier s p (walked runs after room held before earlier s p)
walked_reached runs after few [] [] before earlier s p few_sets one long of_four = elim (cases_Bool ((eqb before 0) && (eqb earlier 0))) [
  | inl none ↦
      let parts : (eqb before 0 ≡ true) × (eqb earlier 0 ≡ true) = and_parts (eqb before 0) (eqb earlier 0) none in
      inr record {
        sets = 0;
        pairs = 0;
        sets_left = s;
        pairs_left = p;
        tiles = [];
        ends = (eqb-true before 0 parts.0, (eqb-true earlier 0 parts.1, (refl, (refl, refl))));
        sets_are = omega arith;
        pairs_are = omega arith;
        left_is = sym (walked_past runs after [] before earlier s p ∙ ap (λ t. cond t (after s p) 0) none) ∙ omega arith;
      }
  | inr under_way ↦ inl (walked_past runs after [] before earlier s p ∙ ap (λ t. cond t (after s p) 0) under_way)
]
walked_reached runs after few [] (have ∷ held) before earlier s p few_sets one long of_four = absurd (omega arith)
walked_reached runs after few (most ∷ room) [] before earlier s p few_sets one long of_four = absurd (omega arith)
walked_reached runs after few (most ∷ room) (have ∷ held) before earlier s p few_sets one long of_four =
    let at = walked_at runs after most have room held before earlier s p in
    elim (cases_eq (walked runs after (most ∷ room) (have ∷ held) before earlier s p) 0) [
      | inl none ↦ inl none
      | inr some ↦ elim (most_left_reached lefts costs) [
        | inl none ↦ inl (at ∙ none)
        | inr leaves ↦ elim (choice_reached runs next s p leaves.at) [
          | inl none ↦ inl (let is = leaves.is in omega arith)
          | inr chooses ↦
              let is : most_left lefts costs ≡ get_or lefts leaves.at 0 - get_or costs leaves.at 0 = leaves.is in
              let left : get_or lefts leaves.at 0 ≡ begun next chooses.begin chooses.triplets chooses.pairs s p = chooses.left_is in
              let begins : Begins next chooses.begin chooses.triplets chooses.pairs s p = begun_reached next chooses.begin chooses.triplets chooses.pairs s p (omega arith) in
              let begun_is : begun next chooses.begin chooses.triplets chooses.pairs s p ≡ next chooses.begin (s - (chooses.begin + chooses.triplets)) (p - chooses.pairs) = begins.is in
              let bound : next chooses.begin (s - (chooses.begin + chooses.triplets)) (p - chooses.pairs) ≤ 15 =
              walked_few runs after few room held chooses.begin before (s - (chooses.begin + chooses.triplets)) (p - chooses.pairs) (omega arith) (omega arith) in
              let long_costs : length costs ≡ 5 - (before + earlier) = length-drop (before + earlier) (prices have most) in
              let few_costs : leaves.at < length costs = leaves.few_costs in
              let cost : get_or costs leaves.at 0 ≡ price have most (before + earlier + leaves.at) = cost_at have most (before + earlier) leaves.at (omega arith) in
              let tiles_are : leaves.at ≡ chooses.begin + 3 * chooses.triplets + 2 * chooses.pairs = chooses.tiles_are in
              let paid = paid_for _ _ _ _ _ _ _ _ _ some at is left begun_is bound cost in
              let within : before + earlier + (chooses.begin + 3 * chooses.triplets + 2 * chooses.pairs) ≤ most = (let w = paid.0 in omega arith) in
              let kept : next chooses.begin (s - (chooses.begin + chooses.triplets)) (p - chooses.pairs) ≡ walked runs after (most ∷ room) (have ∷ held) before earlier s p +
              (before + earlier + (chooses.begin + 3 * chooses.triplets + 2 * chooses.pairs) - have) = (let w = paid.1 in omega arith) in
              elim (walked_reached runs after few room held chooses.begin before (s - (chooses.begin + chooses.triplets)) (p - chooses.pairs) (omega arith) (omega arith) (omega arith) of_four.1) [
                | inl none ↦ inl (omega arith)
                | inr later ↦ inr (step_reached runs after room held most have before earlier s p chooses.begin chooses.triplets chooses.pairs begins within chooses.only
                    (walked runs after (most ∷ room) (have ∷ held) before earlier s p) kept later)
              ]
        ]
      ]
    ]
  where
    next : ℕ → ℕ → ℕ → ℕ
    next begin s p = walked runs after room held begin before s p

    lefts : List ℕ
    lefts = begun_by_tiles runs next s p

    costs : List ℕ
    costs = drop (before + earlier) (prices have most)

    paid_for : (whole most_of left here later cost have most n : ℕ) → (whole ≡ 0 → ⊥) → whole ≡ most_of → most_of ≡ left - cost → left ≡ here → here ≡ later → later ≤ 15
        → cost ≡ price have most n → (n ≤ most) × (later ≡ whole + (n - have))
    paid_for whole most_of left here later cost have most n some a b c d e f = (omega arith, omega arith)
