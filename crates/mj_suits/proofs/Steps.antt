-- The steps of the search: what one place adds to what was found from the next one on.
use Rattle.std.proofs.Common.{◌≡◌, ◌⊎◌, Bool, ℕ, ◌+◌, ◌*◌, ◌<◌, ◌≤◌, Option, None, Some, List, [], ◌∷◌, ◌++◌, get_or, refl, sym, subst, ap, ◌∙◌, inl, inr, arith, append_assoc, append-nil}
use Rattle.std.proofs.lemmas.Bool.{cases_lt, cases_eq}
use Rattle.std.proofs.lemmas.List.{append_cancel_left}
use Rattle.mj_suits.specs.Sets.{tiles_of_set, tiles_of_sets, tiles_of_pair, count_of}
use Rattle.mj_suits.specs.Inner.Search.{place, SetsFrom, PairFrom, first_pair, Continues, Finds, Fits, IsLess}
use Rattle.mj_suits.specs.declared.sets.SuitSet.{SuitSet}
use Rattle.mj_suits.specs.declared.sets.Split.{Split}
use Rattle.mj_suits.proofs.Lists.{AreAll-append, AreAll-same, AreAll-none}
use Rattle.mj_suits.proofs.Tiles.{count_of-append, place-injective, place-apart, count_of-below_set, count_of-below_sets, count_of-below_pair}
use Rattle.mj_suits.proofs.Tiles.{count_of-pair, SetsFrom-earlier, SetsFrom-later, PairFrom-earlier, PairFrom-later}

-- ---- what two searches in a row find

-- what has P is of one of two kinds, and of one only; the second search adds to what the first one found
pub Finds-both : (P Q R : Split → Type 0) (a b c : List Split) → ((x : Split) → Q x → P x) → ((x : Split) → R x → P x) → ((x : Split) → P x → Q x ⊎ R x) → ((x : Split) → Q x → R x → ⊥)
    → Finds Q a b → Finds R b c → Finds P a c
Finds-both P Q R a b c left right cases apart first second = record {
  added = first.added ++ second.added;
  is = second.is ∙ ap (λ xs. xs ++ second.added) first.is ∙ append_assoc a first.added second.added;
  are = AreAll-append P Q R first.added second.added left right cases apart first.are second.are;
}

pub Finds-same : (P Q : Split → Type 0) (a b : List Split) → ((x : Split) → Q x → P x) → ((x : Split) → P x → Q x) → Finds Q a b → Finds P a b
Finds-same P Q a b to from found = record {
  added = found.added;
  is = found.is;
  are = AreAll-same P Q found.added to from found.are;
}

-- ---- a set

-- the counts with one set more before the others
pub used_more : (n : ℕ) (s : SuitSet) (more : List SuitSet) (last : Option ℕ)
    → count_of n (tiles_of_sets (s ∷ more) ++ tiles_of_pair last) ≡ count_of n (tiles_of_set s) + count_of n (tiles_of_sets more ++ tiles_of_pair last)
used_more n s more last =
    ap (count_of n) (append_assoc (tiles_of_set s) (tiles_of_sets more) (tiles_of_pair last))
    ∙ count_of-append n (tiles_of_set s) (tiles_of_sets more ++ tiles_of_pair last)

-- a split that takes the set once more is one that goes on from the set
set_again : (runs : Bool) (s : SuitSet) (left rest : List ℕ) (sets : List SuitSet) (pair : Option ℕ) → IsLess left s runs rest → (x : Split)
    → Continues runs (place s) s.low rest (sets ++ s ∷ []) pair x → Continues runs (place s) s.low left sets pair x
set_again runs s left rest sets pair less x h = record {
  more = s ∷ h.more;
  last = h.last;
  formed = (omega arith, less.formed, h.formed);
  paired = h.paired;
  used = λ n low high.
      let e : get_or left n 0 ≡ count_of n (tiles_of_set s) + get_or rest n 0 = less.parts n high in
      let u : count_of n (tiles_of_sets h.more ++ tiles_of_pair h.last) ≡ get_or rest n 0 = h.used n low high in
      used_more n s h.more h.last ∙ ap (λ k. count_of n (tiles_of_set s) + k) u ∙ sym e;
  sets_are = h.sets_are ∙ append_assoc sets (s ∷ []) h.more;
  pair_is = h.pair_is;
}

-- a split that goes on after the set is one that goes on from the set
set_later : (runs : Bool) (s : SuitSet) (left : List ℕ) (sets : List SuitSet) (pair : Option ℕ) → (x : Split) → Continues runs (place s + 1) s.low left sets pair x
    → Continues runs (place s) s.low left sets pair x
set_later runs s left sets pair x h = record {
  more = h.more;
  last = h.last;
  formed = SetsFrom-earlier runs (place s) (place s + 1) h.more (omega arith) h.formed;
  paired = PairFrom-earlier (place s) (place s + 1) pair h.last (omega arith) h.paired;
  used = h.used;
  sets_are = h.sets_are;
  pair_is = h.pair_is;
}

-- what goes on from the set, by its first set: it is the set itself, or all come later
set_cases : (runs : Bool) (s : SuitSet) (left : List ℕ) (sets : List SuitSet) (pair : Option ℕ) (x : Split) (more : List SuitSet) (last : Option ℕ) → SetsFrom runs (place s) more
    → PairFrom (place s) pair last
    → ((n : ℕ) → s.low ≤ n → n < 9 → count_of n (tiles_of_sets more ++ tiles_of_pair last) ≡ get_or left n 0)
    → x.sets ≡ sets ++ more → x.pair ≡ first_pair pair last
    → ((later : List SuitSet) × (more ≡ s ∷ later)) ⊎ Continues runs (place s + 1) s.low left sets pair x
set_cases runs s left sets pair x [] last formed paired used sets_are pair_is = inr record {
  more = [];
  last = last;
  formed = tt;
  paired = PairFrom-later s pair last paired;
  used = used;
  sets_are = sets_are;
  pair_is = pair_is;
}
set_cases runs s left sets pair x (t ∷ later) last formed paired used sets_are pair_is =
    let reach : place s ≤ place t = formed.0 in
    elim (cases_eq (place t) (place s)) [
      | inl same ↦ inl (later, ap (λ u. u ∷ later) (place-injective t s same))
      | inr other ↦ inr record {
        more = t ∷ later;
        last = last;
        formed = (omega arith, formed.1, formed.2);
        paired = PairFrom-later s pair last paired;
        used = used;
        sets_are = sets_are;
        pair_is = pair_is;
      }
    ]

-- a split whose first set is this one goes on from it with the rest
set_first : (runs : Bool) (s : SuitSet) (left rest : List ℕ) (sets : List SuitSet) (pair : Option ℕ) → IsLess left s runs rest
    → (x : Split) (h : Continues runs (place s) s.low left sets pair x) (later : List SuitSet) → h.more ≡ s ∷ later → Continues runs (place s) s.low rest (sets ++ s ∷ []) pair x
set_first runs s left rest sets pair less x h later first = record {
  more = later;
  last = h.last;
  formed = (let f : SetsFrom runs (place s) (s ∷ later) = subst (SetsFrom runs (place s)) first h.formed in f.2);
  paired = h.paired;
  used = λ n low high.
      let e : get_or left n 0 ≡ count_of n (tiles_of_set s) + get_or rest n 0 = less.parts n high in
      let u : count_of n (tiles_of_sets (s ∷ later) ++ tiles_of_pair h.last) ≡ get_or left n 0 =
      ap (λ more. count_of n (tiles_of_sets more ++ tiles_of_pair h.last)) (sym first) ∙ h.used n low high in
      let split : count_of n (tiles_of_sets (s ∷ later) ++ tiles_of_pair h.last) ≡ count_of n (tiles_of_set s) + count_of n (tiles_of_sets later ++ tiles_of_pair h.last) =
      used_more n s later h.last in
      same_rest _ _ _ _ _ u split e;
  sets_are = h.sets_are ∙ ap (λ more. sets ++ more) first ∙ sym (append_assoc sets (s ∷ []) later);
  pair_is = h.pair_is;
}
  where
    same_rest : (whole left here later rest : ℕ) → whole ≡ left → whole ≡ here + later → left ≡ here + rest → later ≡ rest
    same_rest whole left here later rest a b c = omega arith

-- a split that takes the set does not go on after it
set_apart : (runs : Bool) (s : SuitSet) (left rest : List ℕ) (sets : List SuitSet) (pair : Option ℕ) (x : Split) → Continues runs (place s) s.low rest (sets ++ s ∷ []) pair x
    → Continues runs (place s + 1) s.low left sets pair x → ⊥
set_apart runs s left rest sets pair x h k =
    let same : s ∷ h.more ≡ k.more = append_cancel_left sets (s ∷ h.more) k.more (sym (append_assoc sets (s ∷ []) h.more) ∙ sym h.sets_are ∙ k.sets_are) in
    let f : SetsFrom runs (place s + 1) (s ∷ h.more) = subst (SetsFrom runs (place s + 1)) (sym same) k.formed in
    let reach : place s + 1 ≤ place s = f.0 in
    omega arith

-- the set fits: the splits that take it and those that don't
pub set_taken : (runs : Bool) (s : SuitSet) (left rest : List ℕ) (sets : List SuitSet) (pair : Option ℕ) (a b c : List Split) → IsLess left s runs rest
    → Finds (Continues runs (place s) s.low rest (sets ++ s ∷ []) pair) a b → Finds (Continues runs (place s + 1) s.low left sets pair) b c → Finds (Continues runs (place s) s.low left sets pair) a c
set_taken runs s left rest sets pair a b c less =
    Finds-both (Continues runs (place s) s.low left sets pair) (Continues runs (place s) s.low rest (sets ++ s ∷ []) pair) (Continues runs (place s + 1) s.low left sets pair) a b c
    (set_again runs s left rest sets pair less)
    (set_later runs s left sets pair)
    (λ x h. elim (set_cases runs s left sets pair x h.more h.last h.formed h.paired h.used h.sets_are h.pair_is) [
      | inl first ↦ inl (set_first runs s left rest sets pair less x h first.0 first.1)
      | inr later ↦ inr later
    ])
    (set_apart runs s left rest sets pair)

-- a set that some split takes fits; tiles below it are none
first_fits : (runs : Bool) (s : SuitSet) (left : List ℕ) (sets : List SuitSet) (pair : Option ℕ) (x : Split) (h : Continues runs (place s) s.low left sets pair x)
    (later : List SuitSet) → h.more ≡ s ∷ later → Fits left s runs
first_fits runs s left sets pair x h later first = record {
  formed = (let f : SetsFrom runs (place s) (s ∷ later) = subst (SetsFrom runs (place s)) first h.formed in f.1);
  within = λ n high. elim (cases_lt n s.low) [
    | inl below ↦ (let none : count_of n (tiles_of_set s) ≡ 0 = count_of-below_set n s below in omega arith)
    | inr low ↦
        let u : count_of n (tiles_of_sets (s ∷ later) ++ tiles_of_pair h.last) ≡ get_or left n 0 =
        ap (λ more. count_of n (tiles_of_sets more ++ tiles_of_pair h.last)) (sym first) ∙ h.used n low high in
        let split : count_of n (tiles_of_sets (s ∷ later) ++ tiles_of_pair h.last) ≡ count_of n (tiles_of_set s) + count_of n (tiles_of_sets later ++ tiles_of_pair h.last) =
        used_more n s later h.last in
        part_within _ _ _ _ u split
  ];
}
  where
    part_within : (whole left here later : ℕ) → whole ≡ left → whole ≡ here + later → here ≤ left
    part_within whole left here later a b = omega arith

-- the set does not fit: no split takes it
pub set_skipped : (runs : Bool) (s : SuitSet) (left : List ℕ) (sets : List SuitSet) (pair : Option ℕ) (a b : List Split) → (Fits left s runs → ⊥)
    → Finds (Continues runs (place s + 1) s.low left sets pair) a b → Finds (Continues runs (place s) s.low left sets pair) a b
set_skipped runs s left sets pair a b unfit =
    Finds-same (Continues runs (place s) s.low left sets pair) (Continues runs (place s + 1) s.low left sets pair) a b
    (set_later runs s left sets pair)
    (λ x h. elim (set_cases runs s left sets pair x h.more h.last h.formed h.paired h.used h.sets_are h.pair_is) [
      | inl first ↦ absurd (unfit (first_fits runs s left sets pair x h first.0 first.1))
      | inr later ↦ later
    ])

-- ---- the pair

-- a split that takes the pair at a number
pair_here : (runs : Bool) (low : ℕ) (left rest : List ℕ) (sets : List SuitSet) → low < 9 → ((n : ℕ) → n < 9 → get_or left n 0 ≡ count_of n (tiles_of_pair (Some low)) + get_or rest n 0)
    → (x : Split) → Continues runs (3 * low + 3) low rest sets (Some low) x → Continues runs (3 * low + 2) low left sets None x
pair_here runs low left rest sets in_suit parts x h = record {
  more = h.more;
  last = Some low;
  formed = SetsFrom-earlier runs (3 * low + 2) (3 * low + 3) h.more (omega arith) h.formed;
  paired = (omega arith, in_suit);
  used = λ n at high.
      let none : h.last ≡ None = h.paired in
      let u : count_of n (tiles_of_sets h.more ++ tiles_of_pair h.last) ≡ get_or rest n 0 = h.used n at high in
      let alone : count_of n (tiles_of_sets h.more ++ tiles_of_pair h.last) ≡ count_of n (tiles_of_sets h.more) =
      ap (λ last. count_of n (tiles_of_sets h.more ++ tiles_of_pair last)) none ∙ ap (count_of n) (append-nil (tiles_of_sets h.more)) in
      let both : count_of n (tiles_of_sets h.more ++ tiles_of_pair (Some low)) ≡ count_of n (tiles_of_sets h.more) + count_of n (tiles_of_pair (Some low)) =
      count_of-append n (tiles_of_sets h.more) (tiles_of_pair (Some low)) in
      joined _ _ _ _ _ _ u alone both (parts n high);
  sets_are = h.sets_are;
  pair_is = h.pair_is;
}
  where
    joined : (some rest sets whole pair left : ℕ) → some ≡ rest → some ≡ sets → whole ≡ sets + pair → left ≡ pair + rest → whole ≡ left
    joined some rest sets whole pair left a b c d = omega arith

pair_later : (runs : Bool) (low : ℕ) (left : List ℕ) (sets : List SuitSet) (pair : Option ℕ) → (x : Split) → Continues runs (3 * low + 3) low left sets pair x
    → Continues runs (3 * low + 2) low left sets pair x
pair_later runs low left sets pair x h = record {
  more = h.more;
  last = h.last;
  formed = SetsFrom-earlier runs (3 * low + 2) (3 * low + 3) h.more (omega arith) h.formed;
  paired = PairFrom-earlier (3 * low + 2) (3 * low + 3) pair h.last (omega arith) h.paired;
  used = h.used;
  sets_are = h.sets_are;
  pair_is = h.pair_is;
}

-- sets from the place of a pair on are from the next one on
pub sets_after_pair : (runs : Bool) (low : ℕ) (more : List SuitSet) → SetsFrom runs (3 * low + 2) more → SetsFrom runs (3 * low + 3) more
sets_after_pair runs low more formed =
    let next : 3 * low + 2 + 1 ≡ 3 * low + 3 = omega arith in
    subst (λ at. SetsFrom runs at more) next (SetsFrom-later runs (3 * low + 2) more (λ s. place-apart s low) formed)

-- the pair at a number, or a later one
PairFrom_cases : (low : ℕ) (pair last : Option ℕ) → PairFrom (3 * low + 2) pair last → ((pair ≡ None) × (last ≡ Some low)) ⊎ PairFrom (3 * low + 3) pair last
PairFrom_cases low (Some chosen) last from = inr from
PairFrom_cases low None None from = inr tt
PairFrom_cases low None (Some m) from = elim (cases_eq m low) [
  | inl same ↦ inl (refl, ap (λ n. Some n) same)
  | inr other ↦ inr (let here : 3 * low + 2 ≤ 3 * m + 2 = from.0 in (omega arith, from.1))
]

-- a split that goes on at the place of a pair with the pair later goes on after it
no_pair_here : (runs : Bool) (low : ℕ) (left : List ℕ) (sets : List SuitSet) (pair : Option ℕ) → (x : Split) (h : Continues runs (3 * low + 2) low left sets pair x)
    → PairFrom (3 * low + 3) pair h.last → Continues runs (3 * low + 3) low left sets pair x
no_pair_here runs low left sets pair x h later = record {
  more = h.more;
  last = h.last;
  formed = sets_after_pair runs low h.more h.formed;
  paired = later;
  used = h.used;
  sets_are = h.sets_are;
  pair_is = h.pair_is;
}

-- the counts of a split that has its pair here
pair_used : (runs : Bool) (low : ℕ) (left : List ℕ) (sets : List SuitSet) (pair : Option ℕ) (x : Split) (h : Continues runs (3 * low + 2) low left sets pair x) → h.last ≡ Some low
    → (n : ℕ) → low ≤ n → n < 9 → get_or left n 0 ≡ count_of n (tiles_of_sets h.more) + count_of n (tiles_of_pair (Some low))
pair_used runs low left sets pair x h here n at high =
    sym (h.used n at high)
    ∙ ap (λ last. count_of n (tiles_of_sets h.more ++ tiles_of_pair last)) here
    ∙ count_of-append n (tiles_of_sets h.more) (tiles_of_pair (Some low))

-- a split with its pair at the number goes on after it with the rest
pair_first : (runs : Bool) (low : ℕ) (left rest : List ℕ) (sets : List SuitSet) → ((n : ℕ) → n < 9 → get_or left n 0 ≡ count_of n (tiles_of_pair (Some low)) + get_or rest n 0)
    → (x : Split) (h : Continues runs (3 * low + 2) low left sets None x) → h.last ≡ Some low → Continues runs (3 * low + 3) low rest sets (Some low) x
pair_first runs low left rest sets parts x h here = record {
  more = h.more;
  last = None;
  formed = sets_after_pair runs low h.more h.formed;
  paired = refl;
  used = λ n at high.
      let alone : count_of n (tiles_of_sets h.more ++ []) ≡ count_of n (tiles_of_sets h.more) = ap (count_of n) (append-nil (tiles_of_sets h.more)) in
      same_rest _ _ _ _ _ alone (pair_used runs low left sets None x h here n at high) (parts n high);
  sets_are = h.sets_are;
  pair_is = h.pair_is ∙ here;
}
  where
    same_rest : (some sets left pair rest : ℕ) → some ≡ sets → left ≡ sets + pair → left ≡ pair + rest → some ≡ rest
    same_rest some sets left pair rest a b c = omega arith

pair_apart : (runs : Bool) (low : ℕ) (left rest : List ℕ) (sets : List SuitSet) (x : Split) → Continues runs (3 * low + 3) low rest sets (Some low) x
    → Continues runs (3 * low + 3) low left sets None x → ⊥
pair_apart runs low left rest sets x h k = later k.last (sym k.pair_is ∙ h.pair_is) k.paired
  where
    later : (last : Option ℕ) → last ≡ Some low → PairFrom (3 * low + 3) None last → ⊥
    later None same from = cc
    later (Some m) same from =
        let e : m ≡ low = cc in
        let here : 3 * low + 3 ≤ 3 * m + 2 = from.0 in
        omega arith

-- no pair is chosen and there are two tiles: the splits with the pair here, and those without
pub pair_taken : (runs : Bool) (low : ℕ) (left rest : List ℕ) (sets : List SuitSet) (a b c : List Split) → low < 9
    → ((n : ℕ) → n < 9 → get_or left n 0 ≡ count_of n (tiles_of_pair (Some low)) + get_or rest n 0) → Finds (Continues runs (3 * low + 3) low rest sets (Some low)) a b
    → Finds (Continues runs (3 * low + 3) low left sets None) b c → Finds (Continues runs (3 * low + 2) low left sets None) a c
pair_taken runs low left rest sets a b c in_suit parts =
    Finds-both (Continues runs (3 * low + 2) low left sets None) (Continues runs (3 * low + 3) low rest sets (Some low)) (Continues runs (3 * low + 3) low left sets None) a b c
    (pair_here runs low left rest sets in_suit parts)
    (pair_later runs low left sets None)
    (λ x h. elim (PairFrom_cases low None h.last h.paired) [
      | inl here ↦ inl (pair_first runs low left rest sets parts x h here.1)
      | inr later ↦ inr (no_pair_here runs low left sets None x h later)
    ])
    (pair_apart runs low left rest sets)

-- a pair is chosen already or there are no two tiles: no split has its pair here
pub pair_skipped : (runs : Bool) (low : ℕ) (left : List ℕ) (sets : List SuitSet) (pair : Option ℕ) (a b : List Split) → low < 9 → (pair ≡ None → get_or left low 0 < 2)
    → Finds (Continues runs (3 * low + 3) low left sets pair) a b → Finds (Continues runs (3 * low + 2) low left sets pair) a b
pair_skipped runs low left sets pair a b in_suit few =
    Finds-same (Continues runs (3 * low + 2) low left sets pair) (Continues runs (3 * low + 3) low left sets pair) a b
    (pair_later runs low left sets pair)
    (λ x h. elim (PairFrom_cases low pair h.last h.paired) [
      | inl here ↦
          let two : count_of low (tiles_of_pair (Some low)) ≡ 2 = count_of-pair low in
          let used : get_or left low 0 ≡ count_of low (tiles_of_sets h.more) + count_of low (tiles_of_pair (Some low)) = pair_used runs low left sets pair x h here.1 low (omega arith) in_suit in
          let less : get_or left low 0 < 2 = few here.0 in
          absurd (too_few _ _ _ two used less)
      | inr later ↦ no_pair_here runs low left sets pair x h later
    ])
  where
    too_few : (pair left sets : ℕ) → pair ≡ 2 → left ≡ sets + pair → left < 2 → ⊥
    too_few pair left sets a b c = omega arith

-- ---- the next number

-- tiles of a number that are left when all its places are over are in no split
pub number_left : (runs : Bool) (low : ℕ) (left : List ℕ) (sets : List SuitSet) (pair : Option ℕ) (a : List Split) → low < 9 → 0 < get_or left low 0
    → Finds (Continues runs (3 * low + 3) low left sets pair) a a
number_left runs low left sets pair a in_suit some = record {
  added = [];
  is = sym (append-nil a);
  are = AreAll-none (Continues runs (3 * low + 3) low left sets pair) (λ x h. absurd (none x h));
}
  where
    contrary : (sets pair whole left : ℕ) → sets ≡ 0 → pair ≡ 0 → whole ≡ sets + pair → whole ≡ left → 0 < left → ⊥
    contrary sets pair whole left a b c d e = omega arith

    none : (x : Split) → Continues runs (3 * low + 3) low left sets pair x → ⊥
    none x h =
        let in_sets : count_of low (tiles_of_sets h.more) ≡ 0 = count_of-below_sets runs (3 * low + 3) low h.more h.formed (omega arith) in
        let in_pair : count_of low (tiles_of_pair h.last) ≡ 0 = count_of-below_pair (3 * low + 3) low pair h.last h.paired (omega arith) in
        let both : count_of low (tiles_of_sets h.more ++ tiles_of_pair h.last) ≡ count_of low (tiles_of_sets h.more) + count_of low (tiles_of_pair h.last) =
        count_of-append low (tiles_of_sets h.more) (tiles_of_pair h.last) in
        let u : count_of low (tiles_of_sets h.more ++ tiles_of_pair h.last) ≡ get_or left low 0 = h.used low (omega arith) in_suit in
        contrary _ _ _ _ in_sets in_pair both u some

-- with no tile of the number left, the splits go on at the next number
pub number_done : (runs : Bool) (low : ℕ) (left : List ℕ) (sets : List SuitSet) (pair : Option ℕ) (at : ℕ) (a b : List Split) → low < 9 → get_or left low 0 ≡ 0 → at ≡ 3 * low + 3
    → Finds (Continues runs at (low + 1) left sets pair) a b → Finds (Continues runs (3 * low + 3) low left sets pair) a b
number_done runs low left sets pair at a b in_suit none same found =
    Finds-same (Continues runs (3 * low + 3) low left sets pair) (Continues runs (3 * low + 3) (low + 1) left sets pair) a b to from
    (subst (λ p. Finds (Continues runs p (low + 1) left sets pair) a b) same found)
  where
    nothing : (k sets pair whole : ℕ) → sets ≡ 0 → pair ≡ 0 → whole ≡ sets + pair → k ≡ 0 → whole ≡ k
    nothing k sets pair whole a b c d = omega arith

    to : (x : Split) → Continues runs (3 * low + 3) (low + 1) left sets pair x → Continues runs (3 * low + 3) low left sets pair x
    to x h = record {
      more = h.more;
      last = h.last;
      formed = h.formed;
      paired = h.paired;
      used = λ n at high. elim (cases_eq n low) [
        | inl here ↦
            let in_sets : count_of low (tiles_of_sets h.more) ≡ 0 = count_of-below_sets runs (3 * low + 3) low h.more h.formed (omega arith) in
            let in_pair : count_of low (tiles_of_pair h.last) ≡ 0 = count_of-below_pair (3 * low + 3) low pair h.last h.paired (omega arith) in
            let both : count_of low (tiles_of_sets h.more ++ tiles_of_pair h.last) ≡ count_of low (tiles_of_sets h.more) + count_of low (tiles_of_pair h.last) =
            count_of-append low (tiles_of_sets h.more) (tiles_of_pair h.last) in
            subst (λ m. count_of m (tiles_of_sets h.more ++ tiles_of_pair h.last) ≡ get_or left m 0) (sym here)
            (nothing (get_or left low 0) _ _ _ in_sets in_pair both none)
        | inr other ↦ h.used n (omega arith) high
      ];
      sets_are = h.sets_are;
      pair_is = h.pair_is;
    }

    from : (x : Split) → Continues runs (3 * low + 3) low left sets pair x → Continues runs (3 * low + 3) (low + 1) left sets pair x
    from x h = record {
      more = h.more;
      last = h.last;
      formed = h.formed;
      paired = h.paired;
      used = λ n at high. h.used n (omega arith) high;
      sets_are = h.sets_are;
      pair_is = h.pair_is;
    }

-- ---- the steps as the code makes them, with the sets as they were pushed and popped

pub set_step : (runs : Bool) (s : SuitSet) (left rest : List ℕ) (sets pushed popped : List SuitSet) (pair : Option ℕ) (a b c : List Split) → IsLess left s runs rest
    → pushed ≡ sets ++ s ∷ [] → popped ≡ sets
    → Finds (Continues runs (place s) s.low rest pushed pair) a b → Finds (Continues runs (place s + 1) s.low left popped pair) b c → Finds (Continues runs (place s) s.low left sets pair) a c
set_step runs s left rest sets pushed popped pair a b c less push pop first second =
    set_taken runs s left rest sets pair a b c less
    (subst (λ p. Finds (Continues runs (place s) s.low rest p pair) a b) push first)
    (subst (λ p. Finds (Continues runs (place s + 1) s.low left p pair) b c) pop second)

pub pair_step : (runs : Bool) (low : ℕ) (left rest : List ℕ) (sets again : List SuitSet) (pair : Option ℕ) (a b c : List Split) → low < 9 → pair ≡ None → again ≡ sets
    → ((n : ℕ) → n < 9 → get_or left n 0 ≡ count_of n (tiles_of_pair (Some low)) + get_or rest n 0)
    → Finds (Continues runs (3 * low + 3) low rest sets (Some low)) a b → Finds (Continues runs (3 * low + 3) low left again pair) b c → Finds (Continues runs (3 * low + 2) low left sets pair) a c
pair_step runs low left rest sets again (Some chosen) a b c in_suit none kept parts first second = cc
pair_step runs low left rest sets again None a b c in_suit none kept parts first second =
    pair_taken runs low left rest sets a b c in_suit parts first (subst (λ p. Finds (Continues runs (3 * low + 3) low left p None) b c) kept second)
