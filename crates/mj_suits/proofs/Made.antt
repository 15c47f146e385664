-- A target is the tiles of the numbers from the lowest on, with no run begun before.
use Rattle.std.proofs.Common.{◌≡◌, ◌&&◌, not, eqb, leb, cond, ℕ, zero, suc, ◌+◌, ◌*◌, ◌<◌, ◌≤◌, Bool, true, false, Option, None, Some}
use Rattle.std.proofs.Common.{List, [], ◌∷◌, ◌++◌, replicate, length, get_or, refl, sym, subst, ap, ap₂, ◌∙◌, inl, inr, arith}
use Rattle.std.specs.Prelude.{is_some}
use Rattle.std.specs.List.{list_all}
use Rattle.std.proofs.lemmas.Bool.{cases_lt, cases_eq, cases_Bool, ne_eqb, eq-eqb, le-leb, lt-leb, ltb-true, lt-ltb, and_parts, and_from, false≢true}
use Rattle.mj_suits.specs.Sets.{tiles_of_set, tiles_of_sets, tiles_of_pair, count_of, is_well_formed, is_pair}
use Rattle.mj_suits.specs.Targets.{IsTarget}
use Rattle.mj_suits.specs.declared.sets.SuitSet.{SuitSet}
use Rattle.mj_suits.proofs.Tiles.{count_of-append, count_of-below_set, count_of-other_pair}
use Rattle.mj_suits.proofs.Whole.{get_or-counts_of, length-counts_of, counts_are}
use Rattle.mj_suits.specs.Inner.Ends.{Goes, Ends}

-- ---- from a target to the tiles from number to number

-- whether a test holds, as a number
abbrev once : Bool → ℕ
once test = cond test 1 0

-- how many of the sets are runs from a number on, runs of which it is the second or the third, triplets of it, and sets from it on
abbrev runs_at : ℕ → List SuitSet → ℕ
runs_at n [] = 0
runs_at n (s ∷ ss) = once (s.run && eqb s.low n) + runs_at n ss

abbrev runs_before : ℕ → List SuitSet → ℕ
runs_before n [] = 0
runs_before n (s ∷ ss) = once (s.run && eqb (s.low + 1) n) + runs_before n ss

abbrev runs_earlier : ℕ → List SuitSet → ℕ
runs_earlier n [] = 0
runs_earlier n (s ∷ ss) = once (s.run && eqb (s.low + 2) n) + runs_earlier n ss

abbrev triplets_at : ℕ → List SuitSet → ℕ
triplets_at n [] = 0
triplets_at n (s ∷ ss) = once (not s.run && eqb s.low n) + triplets_at n ss

abbrev sets_from : ℕ → List SuitSet → ℕ
sets_from n [] = 0
sets_from n (s ∷ ss) = once (leb n s.low) + sets_from n ss

abbrev pair_at : ℕ → Option ℕ → ℕ
pair_at n None = 0
pair_at n (Some m) = once (eqb m n)

abbrev pair_from : ℕ → Option ℕ → ℕ
pair_from n None = 0
pair_from n (Some m) = once (leb n m)

-- the tiles of one set, and of all
count_of-set : (n : ℕ) (s : SuitSet)
    → count_of n (tiles_of_set s) ≡ once (s.run && eqb s.low n) + once (s.run && eqb (s.low + 1) n) + once (s.run && eqb (s.low + 2) n) + 3 * once (not s.run && eqb s.low n)
count_of-set n s = elim (cases_Bool s.run) [
  | inl run ↦ rw run (omega arith)
  | inr triplet ↦ rw triplet (omega arith)
]

count_of-sets : (n : ℕ) (sets : List SuitSet) → count_of n (tiles_of_sets sets) ≡ runs_at n sets + runs_before n sets + runs_earlier n sets + 3 * triplets_at n sets
count_of-sets n [] = refl
count_of-sets n (s ∷ ss) =
    let here = count_of-set n s in
    let rest = count_of-sets n ss in
    let both = count_of-append n (tiles_of_set s) (tiles_of_sets ss) in
    omega arith

count_of-pair_at : (n : ℕ) (pair : Option ℕ) → count_of n (tiles_of_pair pair) ≡ 2 * pair_at n pair
count_of-pair_at n None = refl
count_of-pair_at n (Some m) = omega arith

same_eqb : (a b c d : ℕ) → (a ≡ b → c ≡ d) → (c ≡ d → a ≡ b) → eqb a b ≡ eqb c d
same_eqb a b c d to from = elim (cases_eq a b) [
  | inl e ↦ eq-eqb a b e ∙ sym (eq-eqb c d (to e))
  | inr n ↦ ne_eqb a b n ∙ sym (ne_eqb c d (λ e. n (from e)))
]

-- one number further on
before_next : (n : ℕ) (sets : List SuitSet) → runs_before (suc n) sets ≡ runs_at n sets
before_next n [] = refl
before_next n (s ∷ ss) = ap₂ (λ t k. once (s.run && t) + k) (same_eqb (s.low + 1) (suc n) s.low n (λ e. omega arith) (λ e. omega arith)) (before_next n ss)

earlier_next : (n : ℕ) (sets : List SuitSet) → runs_earlier (suc n) sets ≡ runs_before n sets
earlier_next n [] = refl
earlier_next n (s ∷ ss) = ap₂ (λ t k. once (s.run && t) + k) (same_eqb (s.low + 2) (suc n) (s.low + 1) n (λ e. omega arith) (λ e. omega arith)) (earlier_next n ss)

-- the sets from a number on are those at it and those after it
from_next_one : (n low : ℕ) (run : Bool) → once (leb n low) ≡ once (run && eqb low n) + once (not run && eqb low n) + once (leb (suc n) low)
from_next_one n low run = elim (cases_lt low n) [
  | inl less ↦ rw (lt-leb n low less, ne_eqb low n (λ e. omega arith), lt-leb (suc n) low (omega arith)) (sides run false)
  | inr ge ↦ elim (cases_eq low n) [
    | inl e ↦ rw (le-leb n low ge, eq-eqb low n e, lt-leb (suc n) low (omega arith)) (one run)
    | inr other ↦ rw (le-leb n low ge, ne_eqb low n other, le-leb (suc n) low (omega arith)) (more run)
  ]
]
  where
    sides : (run here : Bool) → 0 ≡ once (run && false) + once (not run && false) + 0
    sides true here = refl
    sides false here = refl

    one : (run : Bool) → 1 ≡ once (run && true) + once (not run && true) + 0
    one true = refl
    one false = refl

    more : (run : Bool) → 1 ≡ once (run && false) + once (not run && false) + 1
    more true = refl
    more false = refl

from_next : (n : ℕ) (sets : List SuitSet) → sets_from n sets ≡ runs_at n sets + triplets_at n sets + sets_from (suc n) sets
from_next n [] = refl
from_next n (s ∷ ss) =
    let here = from_next_one n s.low s.run in
    let rest = from_next n ss in
    omega arith

pair_next : (n : ℕ) (pair : Option ℕ) → pair_from n pair ≡ pair_at n pair + pair_from (suc n) pair
pair_next n None = refl
pair_next n (Some m) = elim (cases_lt m n) [
  | inl less ↦ rw (lt-leb n m less, ne_eqb m n (λ e. omega arith), lt-leb (suc n) m (omega arith)) refl
  | inr ge ↦ elim (cases_eq m n) [
    | inl e ↦ rw (le-leb n m ge, eq-eqb m n e, lt-leb (suc n) m (omega arith)) refl
    | inr other ↦ rw (le-leb n m ge, ne_eqb m n other, le-leb (suc n) m (omega arith)) refl
  ]
]

-- a well-formed run begins at a number below seven, a set at one below nine
run_low : (runs : Bool) (s : SuitSet) → is_well_formed runs s ≡ true → s.run ≡ true → (runs ≡ true) × (s.low < 7)
run_low runs s formed run =
    let f = rw run at formed in
    let parts = and_parts runs _ f in
    (parts.0, ltb-true s.low 7 parts.1)

-- no run is under way past the highest number
no_run : (s : SuitSet) (runs : Bool) (n more : ℕ) → is_well_formed runs s ≡ true → 9 ≤ n → more ≤ 2 → once (s.run && eqb (s.low + more) n) ≡ 0
no_run s runs n more formed past few = elim (cases_Bool s.run) [
  | inl run ↦ (let low : s.low < 7 = (run_low runs s formed run).1 in rw (run, ne_eqb (s.low + more) n (λ e. omega arith)) refl)
  | inr triplet ↦ rw triplet refl
]

set_low : (runs : Bool) (s : SuitSet) → is_well_formed runs s ≡ true → s.low < 9
set_low runs s formed = elim (cases_Bool s.run) [
  | inl run ↦ (let low : s.low < 7 = (run_low runs s formed run).1 in omega arith)
  | inr triplet ↦ (let f = rw triplet at formed in ltb-true s.low 9 f)
]

record Past (sets : List SuitSet) (n : ℕ) : Type 0 where
  pub before : runs_before n sets ≡ 0
  pub earlier : runs_earlier n sets ≡ 0
  pub from : sets_from n sets ≡ 0

sets_past : (runs : Bool) (sets : List SuitSet) (n : ℕ) → list_all (is_well_formed runs) sets ≡ true → 9 ≤ n → Past sets n
sets_past runs [] n formed past = record { before = refl; earlier = refl; from = refl }
sets_past runs (s ∷ ss) n formed past =
    let parts = and_parts (is_well_formed runs s) _ formed in
    let rest = sets_past runs ss n parts.1 past in
    let low : s.low < 9 = set_low runs s parts.0 in
    record {
      before = ap₂ (λ a b. a + b) (no_run s runs n 1 parts.0 past (omega arith)) rest.before;
      earlier = ap₂ (λ a b. a + b) (no_run s runs n 2 parts.0 past (omega arith)) rest.earlier;
      from = ap₂ (λ a b. once a + b) (lt-leb n s.low (omega arith)) rest.from;
    }

pair_past : (pair : Option ℕ) (n : ℕ) → is_pair pair ≡ true → 9 ≤ n → pair_from n pair ≡ 0
pair_past None n in_suit past = refl
pair_past (Some m) n in_suit past = (let low : m < 9 = ltb-true m 9 in_suit in ap once (lt-leb n m (omega arith)))

no_runs : (sets : List SuitSet) (n : ℕ) → list_all (is_well_formed false) sets ≡ true → runs_at n sets ≡ 0
no_runs [] n formed = refl
no_runs (s ∷ ss) n formed =
    let parts = and_parts (is_well_formed false s) _ formed in
    elim (cases_Bool s.run) [
      | inl run ↦ absurd (false≢true (run_low false s parts.0 run).0)
      | inr triplet ↦ ap₂ (λ a b. once (a && eqb s.low n) + b) triplet (no_runs ss n parts.1)
    ]

-- the tiles from a number on of sets and a pair
pub ends_from : (runs : Bool) (sets : List SuitSet) (pair : Option ℕ) → list_all (is_well_formed runs) sets ≡ true → is_pair pair ≡ true
    → (room tiles : List ℕ) (n before earlier s p : ℕ) → n + length room ≡ 9 → length tiles ≡ length room
    → ((j : ℕ) → j < length room → get_or tiles j 0 ≡ count_of (n + j) (tiles_of_sets sets ++ tiles_of_pair pair)) → ((j : ℕ) → j < length room → get_or tiles j 0 ≤ get_or room j 0)
    → before ≡ runs_before n sets → earlier ≡ runs_earlier n sets → s ≡ sets_from n sets → p ≡ pair_from n pair → Ends runs room before earlier s p tiles
ends_from runs sets pair formed in_suit [] [] n before earlier s p here long counted within b e sets_are pairs_are =
    let past : Past sets n = sets_past runs sets n formed (omega arith) in
    (b ∙ past.before, (e ∙ past.earlier, (sets_are ∙ past.from, (pairs_are ∙ pair_past pair n in_suit (omega arith), refl))))
ends_from runs sets pair formed in_suit [] (x ∷ tiles) n before earlier s p here long counted within b e sets_are pairs_are = absurd (omega arith)
ends_from runs sets pair formed in_suit (most ∷ room) [] n before earlier s p here long counted within b e sets_are pairs_are = absurd (omega arith)
ends_from runs sets pair formed in_suit (most ∷ room) (x ∷ tiles) n before earlier s p here long counted within b e sets_are pairs_are =
    let first : x ≡ count_of (n + 0) (tiles_of_sets sets ++ tiles_of_pair pair) = counted 0 (omega arith) in
    let at_n : count_of (n + 0) (tiles_of_sets sets ++ tiles_of_pair pair) ≡ count_of n (tiles_of_sets sets ++ tiles_of_pair pair) =
    ap (λ k. count_of k (tiles_of_sets sets ++ tiles_of_pair pair)) (let z : n + 0 ≡ n = omega arith in z) in
    let split = count_of-append n (tiles_of_sets sets) (tiles_of_pair pair) in
    let of_sets = count_of-sets n sets in
    let of_pair = count_of-pair_at n pair in
    let is : x ≡ before + earlier + (runs_at n sets + 3 * triplets_at n sets + 2 * pair_at n pair) = summed _ _ _ _ _ _ _ _ _ _ (first ∙ at_n ∙ split) of_sets of_pair b e in
    let fits : x ≤ most = within 0 (omega arith) in
    record {
      begin = runs_at n sets;
      triplets = triplets_at n sets;
      pairs_here = pair_at n pair;
      sets_later = sets_from (suc n) sets;
      pairs_later = pair_from (suc n) pair;
      rest = tiles;
      more = ends_from runs sets pair formed in_suit room tiles (suc n) (runs_at n sets) before (sets_from (suc n) sets) (pair_from (suc n) pair) (omega arith) (omega arith)
          (λ j inside. counted (suc j) (omega arith) ∙ ap (λ k. count_of k (tiles_of_sets sets ++ tiles_of_pair pair)) (omega arith))
          (λ j inside. within (suc j) (omega arith))
          (sym (before_next n sets)) (b ∙ sym (earlier_next n sets)) refl refl;
      only = λ honours. no_runs sets n (subst (λ r. list_all (is_well_formed r) sets ≡ true) honours formed);
      sets_are = sets_are ∙ from_next n sets;
      pairs_are = pairs_are ∙ pair_next n pair;
      tiles_are = ap (λ k. k ∷ tiles) is;
      within = subst (λ k. k ≤ most) is fits;
    }
  where
    summed : (x sets pair r rb re t e before earlier : ℕ) → x ≡ sets + pair → sets ≡ r + rb + re + 3 * t → pair ≡ 2 * e → before ≡ rb → earlier ≡ re → x ≡ before + earlier + (r + 3 * t + 2 * e)
    summed x sets pair r rb re t e before earlier a b c d f = omega arith

-- ---- from the tiles from number to number to a target

abbrev run_of : ℕ → SuitSet
run_of low = record { run = true; low = low }

abbrev triplet_of : ℕ → SuitSet
triplet_of low = record { run = false; low = low }

-- the same set several times before others
count_of-again : (n many : ℕ) (s : SuitSet) (sets : List SuitSet) → count_of n (tiles_of_sets (replicate many s ++ sets)) ≡ many * count_of n (tiles_of_set s) + count_of n (tiles_of_sets sets)
count_of-again n zero s sets = omega arith
count_of-again n (suc many) s sets =
    let rest = count_of-again n many s sets in
    let both = count_of-append n (tiles_of_set s) (tiles_of_sets (replicate many s ++ sets)) in
    added _ _ _ _ _ both rest
  where
    added : (whole one others rest many : ℕ) → whole ≡ one + others → others ≡ many * one + rest → whole ≡ suc many * one + rest
    added whole one others rest many a b = omega arith

formed_again : (runs : Bool) (many : ℕ) (s : SuitSet) (sets : List SuitSet) → (0 < many → is_well_formed runs s ≡ true) → list_all (is_well_formed runs) sets ≡ true
    → list_all (is_well_formed runs) (replicate many s ++ sets) ≡ true
formed_again runs zero s sets one others = others
formed_again runs (suc many) s sets one others = and_from (is_well_formed runs s) _ (one (omega arith)) (formed_again runs many s sets (λ some. one (omega arith)) others)

length-again : (many : ℕ) (s : SuitSet) (sets : List SuitSet) → length (replicate many s ++ sets) ≡ many + length sets
length-again zero s sets = omega arith
length-again (suc many) s sets = (let rest = length-again many s sets in omega arith)

-- how often a set and a pair that begin at a number stand at the numbers from there on
abbrev in_run : ℕ → ℕ
in_run zero = 1
in_run (suc zero) = 1
in_run (suc (suc zero)) = 1
in_run (suc (suc (suc j))) = 0

abbrev only_first : ℕ → ℕ → ℕ
only_first many zero = many
only_first many (suc j) = 0

count_of-run_on : (low j : ℕ) → count_of (low + j) (tiles_of_set (run_of low)) ≡ in_run j
count_of-run_on low zero = rw (eq-eqb low (low + 0) (omega arith), ne_eqb (low + 1) (low + 0) (λ e. omega arith), ne_eqb (low + 2) (low + 0) (λ e. omega arith)) refl
count_of-run_on low (suc zero) = rw (ne_eqb low (low + 1) (λ e. omega arith), eq-eqb (low + 1) (low + 1) refl, ne_eqb (low + 2) (low + 1) (λ e. omega arith)) refl
count_of-run_on low (suc (suc zero)) = rw (ne_eqb low (low + 2) (λ e. omega arith), ne_eqb (low + 1) (low + 2) (λ e. omega arith), eq-eqb (low + 2) (low + 2) refl) refl
count_of-run_on low (suc (suc (suc j))) =
    rw (ne_eqb low (low + suc (suc (suc j))) (λ e. omega arith), ne_eqb (low + 1) (low + suc (suc (suc j))) (λ e. omega arith), ne_eqb (low + 2) (low + suc (suc (suc j))) (λ e. omega arith)) refl

count_of-triplet_on : (low j : ℕ) → count_of (low + j) (tiles_of_set (triplet_of low)) ≡ only_first 3 j
count_of-triplet_on low zero = rw (eq-eqb low (low + 0) (omega arith)) refl
count_of-triplet_on low (suc j) = rw (ne_eqb low (low + suc j) (λ e. omega arith)) refl

count_of-pair_on : (low j : ℕ) → count_of (low + j) (tiles_of_pair (Some low)) ≡ only_first 2 j
count_of-pair_on low zero = rw (eq-eqb low (low + 0) (omega arith)) refl
count_of-pair_on low (suc j) = rw (ne_eqb low (low + suc j) (λ e. omega arith)) refl

-- the tiles that runs begun before have at the numbers from one on
abbrev pub carried : ℕ → ℕ → ℕ → ℕ
carried before earlier zero = before + earlier
carried before earlier (suc zero) = before
carried before earlier (suc (suc j)) = 0

-- sets and a pair that are the tiles from a number on
pub record Made (runs : Bool) (room : List ℕ) (n before earlier sets pairs : ℕ) (tiles : List ℕ) : Type 0 where
  pub list : List SuitSet
  pub pair : Option ℕ
  pub formed : list_all (is_well_formed runs) list ≡ true
  pub many : length list ≡ sets
  pub pairs_are : pairs ≡ once (is_some pair)
  pub in_suit : is_pair pair ≡ true
  pub below : (k : ℕ) → k < n → count_of k (tiles_of_sets list ++ tiles_of_pair pair) ≡ 0
  pub counted : (j : ℕ) → j < length room → get_or tiles j 0 ≡ carried before earlier j + count_of (n + j) (tiles_of_sets list ++ tiles_of_pair pair)
  pub long : length tiles ≡ length room
  pub within : (j : ℕ) → j < length room → get_or tiles j 0 ≤ get_or room j 0

-- runs under way need two numbers more
under_way : (runs : Bool) (room : List ℕ) (before earlier sets pairs : ℕ) (tiles : List ℕ) → Ends runs room before earlier sets pairs tiles → 0 < before → 2 ≤ length room
under_way runs [] before earlier sets pairs tiles ends some = absurd (let z : before ≡ 0 = ends.0 in omega arith)
under_way runs (most ∷ []) before earlier sets pairs tiles goes some = absurd (let z : before ≡ 0 = goes.more.1.0 in omega arith)
under_way runs (most ∷ next ∷ room) before earlier sets pairs tiles goes some = omega arith

abbrev pick : ℕ → ℕ → Option ℕ → Option ℕ
pick zero n later = later
pick (suc e) n later = Some n

count_of-picked : (k e n : ℕ) (later : Option ℕ) → e + once (is_some later) ≤ 1
    → count_of k (tiles_of_pair (pick e n later)) ≡ e * count_of k (tiles_of_pair (Some n)) + count_of k (tiles_of_pair later)
count_of-picked k zero n later few = omega arith
count_of-picked k (suc zero) n None few =
    (let two = count_of k (tiles_of_pair (Some n)) in let one : 1 * count_of k (tiles_of_pair (Some n)) ≡ count_of k (tiles_of_pair (Some n)) = omega arith in omega arith)
count_of-picked k (suc e) n (Some m) few = absurd (omega arith)
count_of-picked k (suc (suc e)) n later few = absurd (omega arith)

picked_some : (e n : ℕ) (later : Option ℕ) (pairs pairs_later : ℕ) → pairs ≡ e + pairs_later → pairs ≤ 1 → pairs_later ≡ once (is_some later) → pairs ≡ once (is_some (pick e n later))
picked_some zero n later pairs pairs_later a few b = omega arith
picked_some (suc e) n later pairs pairs_later a few b = omega arith

picked_pair : (e n : ℕ) (later : Option ℕ) → n < 9 → is_pair later ≡ true → is_pair (pick e n later) ≡ true
picked_pair zero n later low in_suit = in_suit
picked_pair (suc e) n later low in_suit = lt-ltb n 9 low

carried_next : (begin before earlier j : ℕ) → carried begin before j ≡ carried before earlier (suc j) + begin * in_run (suc j)
carried_next begin before earlier zero = omega arith
carried_next begin before earlier (suc zero) = omega arith
carried_next begin before earlier (suc (suc j)) = omega arith

-- the sets and the pair that begin at a number, before those of the numbers after it
made_at : (runs : Bool) (most : ℕ) (room : List ℕ) (n before earlier sets pairs : ℕ) (tiles : List ℕ) → n + length (most ∷ room) ≡ 9 → pairs ≤ 1
    → (goes : Goes runs (Ends runs room) most before earlier sets pairs tiles) → Made runs room (suc n) goes.begin before goes.sets_later goes.pairs_later goes.rest
    → Made runs (most ∷ room) n before earlier sets pairs tiles
made_at runs most room n before earlier sets pairs tiles here few goes later = record {
  list = list;
  pair = pair;
  formed = formed_again runs goes.begin (run_of n) (replicate goes.triplets (triplet_of n) ++ later.list) run_formed
      (formed_again runs goes.triplets (triplet_of n) later.list (λ some. lt-ltb n 9 low) later.formed);
  many = length-again goes.begin (run_of n) (replicate goes.triplets (triplet_of n) ++ later.list) ∙ ap (λ k. goes.begin + k) (length-again goes.triplets (triplet_of n) later.list)
      ∙ (let m = later.many in let s = goes.sets_are in omega arith);
  pairs_are = picked_some goes.pairs_here n later.pair pairs goes.pairs_later goes.pairs_are few later.pairs_are;
  in_suit = picked_pair goes.pairs_here n later.pair low later.in_suit;
  below = λ k less. (
      total k ∙ rw (count_of-below_set k (run_of n) less, count_of-below_set k (triplet_of n) less, count_of-other_pair n k (λ e. omega arith), later.below k (omega arith)) (omega arith));
  counted = counted;
  long = ap length goes.tiles_are ∙ (let l = later.long in omega arith);
  within = within;
}
  where
    low : n < 9
    low = omega arith

    list : List SuitSet
    list = replicate goes.begin (run_of n) ++ (replicate goes.triplets (triplet_of n) ++ later.list)

    pair : Option ℕ
    pair = pick goes.pairs_here n later.pair

    run_formed : 0 < goes.begin → is_well_formed runs (run_of n) ≡ true
    run_formed some =
        let two : 2 ≤ length room = under_way runs room goes.begin before goes.sets_later goes.pairs_later goes.rest goes.more some in
        let with_runs : runs ≡ true = elim (cases_Bool runs) [ inl with_them ↦ with_them | inr honours ↦ absurd (let z : goes.begin ≡ 0 = goes.only honours in omega arith) ] in
        and_from runs _ with_runs (lt-ltb n 7 (omega arith))

    total : (k : ℕ) → count_of k (tiles_of_sets list ++ tiles_of_pair pair) ≡ goes.begin * count_of k (tiles_of_set (run_of n)) +
        (goes.triplets * count_of k (tiles_of_set (triplet_of n)) + (goes.pairs_here * count_of k (tiles_of_pair (Some n)) + count_of k (tiles_of_sets later.list ++ tiles_of_pair later.pair)))
    total k =
        let both = count_of-append k (tiles_of_sets list) (tiles_of_pair pair) in
        let runs_here = count_of-again k goes.begin (run_of n) (replicate goes.triplets (triplet_of n) ++ later.list) in
        let triplets_here = count_of-again k goes.triplets (triplet_of n) later.list in
        let pairs_here = count_of-picked k goes.pairs_here n later.pair (let a = goes.pairs_are in let b = later.pairs_are in omega arith) in
        let rest = count_of-append k (tiles_of_sets later.list) (tiles_of_pair later.pair) in
        summed _ _ _ _ _ _ _ _ _ _ both runs_here triplets_here pairs_here rest
      where
        summed : (whole sets pair runs others triplets later pairs last rest : ℕ) → whole ≡ sets + pair → sets ≡ runs + others → others ≡ triplets + later → pair ≡ pairs + last
            → rest ≡ later + last → whole ≡ runs + (triplets + (pairs + rest))
        summed whole sets pair runs others triplets later pairs last rest a b c d e = omega arith

    counted : (j : ℕ) → j < length (most ∷ room) → get_or tiles j 0 ≡ carried before earlier j + count_of (n + j) (tiles_of_sets list ++ tiles_of_pair pair)
    counted zero inside =
        ap (λ t. get_or t 0 0) goes.tiles_are
        ∙ sym (ap (λ k. before + earlier + k) (total (n + 0) ∙ rw (count_of-run_on n 0, count_of-triplet_on n 0, count_of-pair_on n 0, later.below (n + 0) (omega arith)) (omega arith)))
    counted (suc j) inside =
        let rest : get_or goes.rest j 0 ≡ carried goes.begin before j + count_of (suc n + j) (tiles_of_sets later.list ++ tiles_of_pair later.pair) = later.counted j (omega arith) in
        let same : count_of (suc n + j) (tiles_of_sets later.list ++ tiles_of_pair later.pair) ≡ count_of (n + suc j) (tiles_of_sets later.list ++ tiles_of_pair later.pair) =
        ap (λ k. count_of k (tiles_of_sets later.list ++ tiles_of_pair later.pair)) (omega arith) in
        let is : count_of (n + suc j) (tiles_of_sets list ++ tiles_of_pair pair) ≡ goes.begin * in_run (suc j) + count_of (n + suc j)
        (tiles_of_sets later.list ++ tiles_of_pair later.pair) = total (n + suc j) ∙ rw (count_of-run_on n (suc j), count_of-triplet_on n (suc j), count_of-pair_on n (suc j)) (omega arith) in
        let next = carried_next goes.begin before earlier j in
        ap (λ t. get_or t (suc j) 0) goes.tiles_are ∙ omega arith

    within : (j : ℕ) → j < length (most ∷ room) → get_or tiles j 0 ≤ get_or (most ∷ room) j 0
    within zero inside = (let e = ap (λ t. get_or t 0 0) goes.tiles_are in let w = goes.within in omega arith)
    within (suc j) inside = (let e = ap (λ t. get_or t (suc j) 0) goes.tiles_are in let w = later.within j (omega arith) in omega arith)

pub made_from : (runs : Bool) (room : List ℕ) (n before earlier sets pairs : ℕ) (tiles : List ℕ) → n + length room ≡ 9 → pairs ≤ 1 → Ends runs room before earlier sets pairs tiles
    → Made runs room n before earlier sets pairs tiles
made_from runs [] n before earlier sets pairs tiles here few ends = record {
  list = [];
  pair = None;
  formed = refl;
  many = sym ends.1.1.0;
  pairs_are = ends.1.1.1.0;
  in_suit = refl;
  below = λ k less. refl;
  counted = λ j inside. absurd (omega arith);
  long = ap length ends.1.1.1.1;
  within = λ j inside. absurd (omega arith);
}
made_from runs (most ∷ room) n before earlier sets pairs tiles here few goes =
    made_at runs most room n before earlier sets pairs tiles here few goes
    (made_from runs room (suc n) goes.begin before goes.sets_later goes.pairs_later goes.rest (omega arith) (let p = goes.pairs_are in omega arith) goes.more)

-- ---- the whole of a target

before_first : (sets : List SuitSet) → (runs_before 0 sets ≡ 0) × ((runs_earlier 0 sets ≡ 0) × (sets_from 0 sets ≡ length sets))
before_first [] = (refl, (refl, refl))
before_first (s ∷ ss) =
    let rest = before_first ss in (
      ap₂ (λ a b. once (s.run && a) + b) (ne_eqb (s.low + 1) 0 (λ e. omega arith)) rest.0 ∙ none s.run,
      (
        ap₂ (λ a b. once (s.run && a) + b) (ne_eqb (s.low + 2) 0 (λ e. omega arith)) rest.1.0 ∙ none s.run,
        ap₂ (λ a b. once a + b) (le-leb 0 s.low (omega arith)) rest.1.1 ∙ omega arith,
      ),
    )
  where
    none : (run : Bool) → once (run && false) + 0 ≡ 0
    none true = refl
    none false = refl

pair_from_first : (pair : Option ℕ) → pair_from 0 pair ≡ once (is_some pair)
pair_from_first None = refl
pair_from_first (Some m) = ap once (le-leb 0 m (omega arith))

pub target_ends : (room : List ℕ) (runs : Bool) (melds : ℕ) (paired : Bool) (target : List ℕ) → length room ≡ 9 → IsTarget room runs melds paired target → Ends runs room 0 0 melds (once paired) target
target_ends room runs melds paired target nine is =
    let tiles = tiles_of_sets is.sets ++ tiles_of_pair is.pair in
    let long : length target ≡ 9 = ap length is.made ∙ length-counts_of tiles in
    ends_from runs is.sets is.pair is.formed is.in_suit room target 0 0 0 melds (once paired) (omega arith) (omega arith)
    (λ j inside. ap (λ t. get_or t j 0) is.made ∙ get_or-counts_of tiles j (omega arith) ∙ ap (λ k. count_of k tiles) (omega arith))
    (λ j inside. is.within j (omega arith))
    (sym (before_first is.sets).0) (sym (before_first is.sets).1.0) (sym ((before_first is.sets).1.1 ∙ is.many)) (sym (pair_from_first is.pair ∙ ap once is.has_pair))

carried_none : (j : ℕ) → carried 0 0 j ≡ 0
carried_none zero = refl
carried_none (suc zero) = refl
carried_none (suc (suc j)) = refl

same_once : (a b : Bool) → once a ≡ once b → b ≡ a
same_once true true e = refl
same_once false false e = refl
same_once true false e = absurd (omega arith)
same_once false true e = absurd (omega arith)

once_few : (a : Bool) → once a ≤ 1
once_few true = omega arith
once_few false = omega arith

pub ends_target : (room : List ℕ) (runs : Bool) (melds : ℕ) (paired : Bool) (target : List ℕ) → length room ≡ 9 → Ends runs room 0 0 melds (once paired) target → IsTarget room runs melds paired target
ends_target room runs melds paired target nine ends =
    let made = made_from runs room 0 0 0 melds (once paired) target (omega arith) (once_few paired) ends in
    let tiles = tiles_of_sets made.list ++ tiles_of_pair made.pair in
    record {
      sets = made.list;
      pair = made.pair;
      formed = made.formed;
      many = made.many;
      has_pair = same_once paired (is_some made.pair) made.pairs_are;
      in_suit = made.in_suit;
      made = sym (counts_are tiles target (made.long ∙ nine) (λ n high.
          sym (made.counted n (omega arith) ∙ ap₂ (λ a k. a + count_of k tiles) (carried_none n) (let e : 0 + n ≡ n = omega arith in e) ∙ omega arith)));
      within = λ n high. made.within n (omega arith);
    }
