-- Sets and a pair of a hand are those of its suits.
use Rattle.std.proofs.Common.{ℕ, ◌≡◌, ◌≢◌, ◌<◌, ◌≤◌, ◌+◌, ◌-◌, ◌*◌, ◌/◌, ◌%◌, ◌++◌, ◌∷◌, [], Bool, true, false, cond, eqb, leb, ltb, List, length}
use Rattle.std.proofs.Common.{get_or, take, drop, refl, sym, ◌∙◌, ap, ap₂, subst, arith, zero, suc, Option, Some, None, ◌⊎◌, inl, inr}
use Rattle.std.specs.Prelude.{is_some}
use Rattle.std.specs.List.{flat_map, list_all}
use Rattle.std.proofs.lemmas.Bool.{and_parts, and_from, cases_eq, cases_lt, eq-eqb, ne_eqb, false≢true, true≢false, ltb-true, le-leb, lt-ltb}
use Rattle.std.proofs.lemmas.Bool.Decides.{nat_tests}
use Rattle.std.proofs.lemmas.List.{length-append, length-take-le, length-drop, drop-drop, drop_all, take-append-drop, get_or-take, get_or-drop, get_or_append_left, get_or-append_right, ext_get_or}
use Rattle.mj_readings.specs.declared.reading.Set.{Set}
use Rattle.mj_readings.specs.Sets.{tiles_of_set, is_concealed, tally}
use Rattle.mj_readings.specs.Complete.{AreSetsAndPair}
use Rattle.mj_readings.proofs.Tiles.{number_at, number_at-append, count-flat_map}
use Rattle.mj_readings.proofs.Laws.{length-tally, get_or-tally}
use Rattle.mj_suits.specs.Sets as suit
use Rattle.mj_suits.specs.Sets.{count_of, is_pair, tiles_of_pair}
use Rattle.mj_suits.specs.Targets.{IsTarget}
use Rattle.mj_suits.proofs.Tiles.{count_of-append}
use Rattle.mj_suits.proofs.Whole.{counts_are, get_or-counts_of, length-counts_of}
use Rattle.mj_shanten.specs.declared.suits.Suit.{Suit}
use Rattle.mj_suits.specs.Left.{pairs}
use Rattle.mj_shanten.specs.Suits.{Begins, IsJoint, suit_from, suits_of, with_two}
use Rattle.mj_shanten.proofs.Parting.{sets_in, number_from, number_in, formed_in, number_step, number_all, number_none, lift_all, all_concealed, all_here, all_apart, length_all, all_may, may_stand}

at_place : (xs : List ℕ) (from n : ℕ) → n < 9 → get_or (take 9 (drop from xs)) n 0 ≡ get_or xs (from + n) 0
at_place xs from n small = get_or-take 9 (drop from xs) n 0 small ∙ get_or-drop from xs n 0

-- ---- from the hand to the suits

-- the pair where it is of this suit
abbrev pair_in : ℕ → ℕ → Option ℕ
pair_in i pair = cond (eqb (pair / 9) i) (Some (pair % 9)) None

pair_some : (i pair : ℕ) → is_some (pair_in i pair) ≡ eqb (pair / 9) i
pair_some i pair = some (eqb (pair / 9) i)
  where
    some : (b : Bool) → is_some (cond b (Some (pair % 9)) None) ≡ b
    some true = refl
    some false = refl

pair_fits : (i pair : ℕ) → is_pair (pair_in i pair) ≡ true
pair_fits i pair = fits (eqb (pair / 9) i)
  where
    fits : (b : Bool) → is_pair (cond b (Some (pair % 9)) None) ≡ true
    fits true = (let e : pair % 9 < 9 = omega arith in lt-ltb _ _ e)
    fits false = refl

twice : (b : Bool) → 0 + cond b 1 0 + cond b 1 0 ≡ cond b 2 0
twice true = refl
twice false = refl

pair_here : (i pair n : ℕ) → n < 9 → count_of n (tiles_of_pair (pair_in i pair)) ≡ cond (eqb pair (9 * i + n)) 2 0
pair_here i pair n small = elim (cases_eq (pair / 9) i) [
  | inl same ↦ rw (eq-eqb (pair / 9) i same) (twice (eqb (pair % 9) n) ∙ ap (λ b. cond b 2 0) (number same))
  | inr apart ↦ rw (ne_eqb (pair / 9) i apart) (let f : pair ≢ 9 * i + n = omega arith in sym (ap (λ b. cond b 2 0) (ne_eqb _ _ f)))
]
  where
    number : pair / 9 ≡ i → eqb (pair % 9) n ≡ eqb pair (9 * i + n)
    number same = elim (cases_eq (pair % 9) n) [
      | inl e ↦ (let f : pair ≡ 9 * i + n = omega arith in eq-eqb _ _ e ∙ sym (eq-eqb _ _ f))
      | inr e ↦ (let f : pair ≢ 9 * i + n = omega arith in ne_eqb _ _ e ∙ sym (ne_eqb _ _ f))
    ]

pairs_step : (i q : ℕ) → pairs (leb i q) ≡ pairs (eqb q i) + pairs (leb (i + 1) q)
pairs_step i q = grind (arith, nat_tests)

joint_step : (held room c : List ℕ) (sets : List Set) (pair i : ℕ) (others : List Suit) → i ≤ 3 → length c ≡ 36 → list_all is_concealed sets ≡ true
    → ((k : ℕ) → k < 36 → get_or c k 0 ≡ number_at k sets + cond (eqb pair k) 2 0) → ((k : ℕ) → k < 36 → get_or c k 0 ≤ get_or room k 0)
    → IsJoint others (number_from (i + 1) sets) (leb (i + 1) (pair / 9)) (drop (9 * i + 9) c)
    → Begins (suit_from held room (9 * i) (ltb i 3)) (IsJoint others) (number_from i sets) (leb i (pair / 9)) (drop (9 * i) c)
joint_step held room c sets pair i others far size formed counted within rest = record {
  here = take 9 (drop (9 * i) c);
  rest = drop (9 * i + 9) c;
  sets_here = length (sets_in i sets);
  sets_left = number_from (i + 1) sets;
  pair_here = eqb (pair / 9) i;
  pair_left = leb (i + 1) (pair / 9);
  target = record {
    sets = sets_in i sets;
    pair = pair_in i pair;
    formed = formed_in sets i formed;
    many = refl;
    has_pair = pair_some i pair;
    in_suit = pair_fits i pair;
    made = sym (counts_are (suit.tiles_of_sets (sets_in i sets) ++ tiles_of_pair (pair_in i pair)) (take 9 (drop (9 * i) c))
        (length-take-le 9 (drop (9 * i) c) (let d = length-drop (9 * i) c in omega arith)) here_is);
    within = λ n small. (let a = at_place c (9 * i) n small in let b = at_place room (9 * i) n small in
        let w : get_or c (9 * i + n) 0 ≤ get_or room (9 * i + n) 0 = within (9 * i + n) (omega arith) in omega arith);
  };
  more = rest;
  sets_are = number_step sets i;
  pair_is = pairs_step i (pair / 9);
  tiles_are = sym (take-append-drop 9 (drop (9 * i) c)) ∙ ap (λ r. take 9 (drop (9 * i) c) ++ r) (drop-drop 9 (9 * i) c);
}
  where
    here_is : (n : ℕ) → n < 9 → count_of n (suit.tiles_of_sets (sets_in i sets) ++ tiles_of_pair (pair_in i pair)) ≡ get_or (take 9 (drop (9 * i) c)) n 0
    here_is n small =
        let a = count_of-append n (suit.tiles_of_sets (sets_in i sets)) (tiles_of_pair (pair_in i pair)) in
        let b = number_in sets i n formed small in
        let d = pair_here i pair n small in
        let e : get_or c (9 * i + n) 0 ≡ number_at (9 * i + n) sets + cond (eqb pair (9 * i + n)) 2 0 = counted (9 * i + n) (omega arith) in
        let f = at_place c (9 * i) n small in
        a ∙ ap₂ (λ x y. x + y) (sym b) d ∙ sym e ∙ sym f

-- the hand's sets and pair by suit
pub joint_of : (held room c : List ℕ) (sets : List Set) (pair : ℕ) → length c ≡ 36 → list_all is_concealed sets ≡ true → pair < 34
    → ((k : ℕ) → k < 36 → get_or c k 0 ≡ number_at k sets + cond (eqb pair k) 2 0) → ((k : ℕ) → k < 36 → get_or c k 0 ≤ get_or room k 0)
    → IsJoint (suits_of held room) (length sets) true c
joint_of held room c sets pair size formed fits counted within =
    subst (λ n. IsJoint (suits_of held room) n true c) (number_all sets)
    (subst (λ b. IsJoint (suits_of held room) (number_from 0 sets) b c) first
    (joint_step held room c sets pair 0 (suit_from held room 9 true ∷ suit_from held room 18 true ∷ suit_from held room 27 false ∷ []) (omega arith) size formed counted within
    (joint_step held room c sets pair 1 (suit_from held room 18 true ∷ suit_from held room 27 false ∷ []) (omega arith) size formed counted within
    (joint_step held room c sets pair 2 (suit_from held room 27 false ∷ []) (omega arith) size formed counted within
    (joint_step held room c sets pair 3 [] (omega arith) size formed counted within
    (number_none sets formed, (last, drop_all 36 c (omega arith))))))))
  where
    first : leb 0 (pair / 9) ≡ true
    first = le-leb 0 (pair / 9) (omega arith)

    last : leb 4 (pair / 9) ≡ false
    last = (let e : pair / 9 < 4 = omega arith in grind (arith, nat_tests))

-- ---- from the suits to the hand

-- the tiles from a suit on as sets and a pair of all kinds
record Made (room : List ℕ) (i n : ℕ) (p : Bool) (t : List ℕ) : Type 0 where
  sets : List Set
  last : Option ℕ
  so_many : length sets ≡ n
  formed : list_all is_concealed sets ≡ true
  has : is_some last ≡ p
  fits : (m : ℕ) → last ≡ Some m → m < 34
  size : 9 * i + length t ≡ 36
  counted : (j k : ℕ) → j ≤ 3 → k < 9 → number_at (9 * j + k) sets + count_of (9 * j + k) (tiles_of_pair last) ≡ cond (leb i j) (get_or t (9 * (j - i) + k) 0) 0
  within : (j k : ℕ) → i ≤ j → j ≤ 3 → k < 9 → get_or t (9 * (j - i) + k) 0 ≤ get_or room (9 * j + k) 0

made_none : (room : List ℕ) (n : ℕ) (p : Bool) (t : List ℕ) → IsJoint [] n p t → Made room 4 n p t
made_none room n p t h = record {
  sets = [];
  last = None;
  so_many = sym h.0;
  formed = refl;
  has = sym h.1.0;
  fits = λ m e. absurd (none_some m e);
  size = ap (λ xs. 36 + length xs) h.1.1;
  counted = λ j k far small. (let e : leb 4 j ≡ false = grind (arith, nat_tests) in rw e refl);
  within = λ j k from far small. absurd (omega arith);
}
  where
    none_some : (m : ℕ) → ◌≡◌ {A = Option ℕ} None (Some m) → ⊥
    none_some m e = cc

-- the pair of this suit, or else that of a later one
abbrev either : ℕ → Option ℕ → Option ℕ → Option ℕ
either i None last = last
either i (Some m) last = Some (9 * i + m)

either_some : (i : ℕ) (a b : Option ℕ) (p q r : Bool) → is_some a ≡ q → is_some b ≡ r → pairs p ≡ pairs q + pairs r → is_some (either i a b) ≡ p
either_some i None b p q r x y e = y ∙ same p q r x e
  where
    same : (p q r : Bool) → false ≡ q → pairs p ≡ pairs q + pairs r → r ≡ p
    same p true r x e = absurd (false≢true x)
    same true false true x e = refl
    same true false false x e = absurd (omega arith)
    same false false true x e = absurd (omega arith)
    same false false false x e = refl
either_some i (Some m) b p q r x y e = same p q r x e
  where
    same : (p q r : Bool) → true ≡ q → pairs p ≡ pairs q + pairs r → true ≡ p
    same p false r x e = absurd (true≢false x)
    same true true r x e = refl
    same false true true x e = absurd (omega arith)
    same false true false x e = absurd (omega arith)

-- what a pair is among all kinds
abbrev lifted_pair : ℕ → Option ℕ → Option ℕ
lifted_pair i None = None
lifted_pair i (Some m) = Some (9 * i + m)

either_count : (i k : ℕ) (a b : Option ℕ) (p q r : Bool) → is_some a ≡ q → is_some b ≡ r → pairs p ≡ pairs q + pairs r
    → count_of k (tiles_of_pair (either i a b)) ≡ count_of k (tiles_of_pair (lifted_pair i a)) + count_of k (tiles_of_pair b)
either_count i k None b p q r x y e = omega arith
either_count i k (Some m) None p q r x y e = omega arith
either_count i k (Some m) (Some n) p q r x y e = absurd (both p q r x y e)
  where
    both : (p q r : Bool) → true ≡ q → true ≡ r → pairs p ≡ pairs q + pairs r → ⊥
    both p false r x y e = true≢false x
    both p true false x y e = true≢false y
    both true true true x y e = omega arith
    both false true true x y e = omega arith

lifted_here : (i k : ℕ) (a : Option ℕ) → count_of (9 * i + k) (tiles_of_pair (lifted_pair i a)) ≡ count_of k (tiles_of_pair a)
lifted_here i k None = refl
lifted_here i k (Some m) = (let e : eqb (9 * i + m) (9 * i + k) ≡ eqb m k = number in rw e refl)
  where
    number : eqb (9 * i + m) (9 * i + k) ≡ eqb m k
    number = elim (cases_eq m k) [
      | inl e ↦ (let f : 9 * i + m ≡ 9 * i + k = omega arith in eq-eqb _ _ f ∙ sym (eq-eqb _ _ e))
      | inr e ↦ (let f : 9 * i + m ≢ 9 * i + k = omega arith in ne_eqb _ _ f ∙ sym (ne_eqb _ _ e))
    ]

lifted_apart : (i j k : ℕ) (a : Option ℕ) → is_pair a ≡ true → k < 9 → j ≢ i → count_of (9 * j + k) (tiles_of_pair (lifted_pair i a)) ≡ 0
lifted_apart i j k None fits small apart = refl
lifted_apart i j k (Some m) fits small apart = (let f : m < 9 = ltb-true m 9 fits in let g : 9 * i + m ≢ 9 * j + k = omega arith in rw (ne_eqb _ _ g) refl)

-- a pair has two tiles of its number
two_of : (m : ℕ) → count_of m (tiles_of_pair (Some m)) ≡ 2
two_of m = rw (eq-eqb m m refl) refl

made_more : (held room : List ℕ) (i s n : ℕ) (p q r : Bool) (here rest : List ℕ) → i ≤ 3 → get_or room 34 0 ≡ 0 → get_or room 35 0 ≡ 0
    → IsTarget (take 9 (drop (9 * i) room)) (ltb i 3) s q here → Made room (i + 1) n r rest → pairs p ≡ pairs q + pairs r → Made room i (s + n) p (here ++ rest)
made_more held room i s n p q r here rest far z y h m one = record {
  sets = lift_all i h.sets ++ m.sets;
  last = either i h.pair m.last;
  so_many = length-append (lift_all i h.sets) m.sets ∙ ap₂ (λ a b. a + b) (length_all i h.sets ∙ h.many) m.so_many;
  formed = all_of (lift_all i h.sets) m.sets (all_concealed i h.sets far may) m.formed;
  has = either_some i h.pair m.last p q r h.has_pair m.has one;
  fits = λ k e. fit_of h.pair k (λ u is. pair_low u is) e;
  size = (let a = length-append here rest in let b = nine in let c = m.size in omega arith);
  counted = λ j k within small. count_at j k within small (cases_eq j i);
  within = λ j k from within small. within_at j k from within small (cases_eq j i);
}
  where
    nine : length here ≡ 9
    nine = ap length h.made ∙ length-counts_of _

    here_at : (k : ℕ) → k < 9 → get_or here k 0 ≡ count_of k (suit.tiles_of_sets h.sets) + count_of k (tiles_of_pair h.pair)
    here_at k small = ap (λ xs. get_or xs k 0) h.made ∙ get_or-counts_of _ k small ∙ count_of-append k (suit.tiles_of_sets h.sets) (tiles_of_pair h.pair)

    room_at : (k : ℕ) → k < 9 → get_or here k 0 ≤ get_or room (9 * i + k) 0
    room_at k small = (let a = at_place room (9 * i) k small in let w = h.within k small in omega arith)

    past : (k : ℕ) → k < 9 → 34 ≤ 9 * i + k → get_or here k 0 ≡ 0
    past k small over = elim (cases_eq (9 * i + k) 34) [
      | inl e ↦ (let w = room_at k small in let v : get_or room (9 * i + k) 0 ≡ 0 = ap (λ x. get_or room x 0) e ∙ z in omega arith)
      | inr e ↦ (let f : 9 * i + k ≡ 35 = omega arith in let w = room_at k small in let v : get_or room (9 * i + k) 0 ≡ 0 = ap (λ x. get_or room x 0) f ∙ y in omega arith)
    ]

    may : list_all (may_stand i) h.sets ≡ true
    may = all_may i h.sets h.formed (λ k small over. (let a = past k small over in let b = here_at k small in omega arith))

    pair_low : (u : ℕ) → h.pair ≡ Some u → 9 * i + u < 34
    pair_low u is = elim (cases_lt (9 * i + u) 34) [
      | inl low ↦ low
      | inr over ↦
          (let small : u < 9 = ltb-true u 9 (subst (λ o. is_pair o ≡ true) is h.in_suit) in
          let a = past u small over in
          let b = here_at u small in
          let t : count_of u (tiles_of_pair h.pair) ≡ 2 = ap (λ o. count_of u (tiles_of_pair o)) is ∙ two_of u in
          absurd (omega arith))
    ]

    fit_of : (a : Option ℕ) (k : ℕ) → ((u : ℕ) → a ≡ Some u → 9 * i + u < 34) → either i a m.last ≡ Some k → k < 34
    fit_of None k low e = m.fits k e
    fit_of (Some u) k low e = (let f : 9 * i + u ≡ k = cc in let g = low u refl in omega arith)

    all_of : (xs ys : List Set) → list_all is_concealed xs ≡ true → list_all is_concealed ys ≡ true → list_all is_concealed (xs ++ ys) ≡ true
    all_of [] ys a b = b
    all_of (x ∷ xs) ys a b = (let f = and_parts (is_concealed x) (list_all is_concealed xs) a in and_from (is_concealed x) (list_all is_concealed (xs ++ ys)) f.0 (all_of xs ys f.1 b))

    at_here : (k : ℕ) → k < 9 → get_or (here ++ rest) (9 * (i - i) + k) 0 ≡ get_or here k 0
    at_here k small = (let e : 9 * (i - i) + k ≡ k = omega arith in ap (λ x. get_or (here ++ rest) x 0) e ∙ get_or_append_left here rest 0 k (let f = nine in omega arith))

    at_later : (j k : ℕ) → i + 1 ≤ j → get_or (here ++ rest) (9 * (j - i) + k) 0 ≡ get_or rest (9 * (j - (i + 1)) + k) 0
    at_later j k later =
        get_or-append_right here rest 9 (9 * (j - i) + k) 0 nine (omega arith)
        ∙ (let e : 9 * (j - i) + k - 9 ≡ 9 * (j - (i + 1)) + k = omega arith in ap (λ x. get_or rest x 0) e)

    sum_at : (j k : ℕ) → number_at (9 * j + k) (lift_all i h.sets ++ m.sets) + count_of (9 * j + k) (tiles_of_pair (either i h.pair m.last))
        ≡ (number_at (9 * j + k) (lift_all i h.sets) + count_of (9 * j + k) (tiles_of_pair (lifted_pair i h.pair))) + (number_at (9 * j + k) m.sets + count_of (9 * j + k) (tiles_of_pair m.last))
    sum_at j k = (let a = number_at-append (9 * j + k) (lift_all i h.sets) m.sets in let b = either_count i (9 * j + k) h.pair m.last p q r h.has_pair m.has one in omega arith)

    count_at : (j k : ℕ) → j ≤ 3 → k < 9 → (j ≡ i) ⊎ (j ≢ i)
        → number_at (9 * j + k) (lift_all i h.sets ++ m.sets) + count_of (9 * j + k) (tiles_of_pair (either i h.pair m.last)) ≡ cond (leb i j) (get_or (here ++ rest) (9 * (j - i) + k) 0) 0
    count_at j k low small (inl same) =
        subst (λ x. number_at (9 * x + k) (lift_all i h.sets ++ m.sets) + count_of (9 * x + k) (tiles_of_pair (either i h.pair m.last)) ≡ cond (leb i x)
        (get_or (here ++ rest) (9 * (x - i) + k) 0) 0) (sym same)
        (let e : leb i i ≡ true = le-leb i i (omega arith) in
        let f : leb (i + 1) i ≡ false = grind (arith, nat_tests) in
        let a = sum_at i k in
        let b = all_here i h.sets k far small may in
        let c = lifted_here i k h.pair in
        let d : number_at (9 * i + k) m.sets + count_of (9 * i + k) (tiles_of_pair m.last) ≡ 0 = m.counted i k far small ∙ ap (λ t. cond t (get_or rest (9 * (i - (i + 1)) + k) 0) 0) f in
        let g = here_at k small in
        let w = at_here k small in
        let v : number_at (9 * i + k) (lift_all i h.sets ++ m.sets) + count_of (9 * i + k) (tiles_of_pair (either i h.pair m.last)) ≡ get_or (here ++ rest) (9 * (i - i) + k) 0 = omega arith in
        rw e v)
    count_at j k low small (inr apart) =
        let a = sum_at j k in
        let b = all_apart i j h.sets k far small apart may in
        let c = lifted_apart i j k h.pair h.in_suit small apart in
        let d = m.counted j k low small in
        elim (cases_lt j i) [
          | inl before ↦
              (let e : leb i j ≡ false = grind (arith, nat_tests) in
              let f : leb (i + 1) j ≡ false = grind (arith, nat_tests) in
              let g = ap (λ t. cond t (get_or rest (9 * (j - (i + 1)) + k) 0) 0) f in
              rw e (omega arith))
          | inr after ↦
              (let later : i + 1 ≤ j = omega arith in
              let e : leb i j ≡ true = le-leb i j after in
              let f : leb (i + 1) j ≡ true = le-leb (i + 1) j later in
              let g = ap (λ t. cond t (get_or rest (9 * (j - (i + 1)) + k) 0) 0) f in
              let w = at_later j k later in
              rw e (omega arith))
        ]

    within_at : (j k : ℕ) → i ≤ j → j ≤ 3 → k < 9 → (j ≡ i) ⊎ (j ≢ i) → get_or (here ++ rest) (9 * (j - i) + k) 0 ≤ get_or room (9 * j + k) 0
    within_at j k from low small (inl same) =
        subst (λ x. get_or (here ++ rest) (9 * (x - i) + k) 0 ≤ get_or room (9 * x + k) 0) (sym same) (let a = at_here k small in let b = room_at k small in omega arith)
    within_at j k from low small (inr apart) = (let later : i + 1 ≤ j = omega arith in let a = at_later j k later in let b = m.within j k later low small in omega arith)

made_step : (held room : List ℕ) (i n : ℕ) (p : Bool) (t : List ℕ) (others : List Suit) → i ≤ 3 → get_or room 34 0 ≡ 0 → get_or room 35 0 ≡ 0
    → ((n : ℕ) (p : Bool) (t : List ℕ) → IsJoint others n p t → Made room (i + 1) n p t)
    → Begins (suit_from held room (9 * i) (ltb i 3)) (IsJoint others) n p t → Made room i n p t
made_step held room i n p t others far z y rest h =
    subst (λ u. Made room i n p u) (sym h.tiles_are)
    (subst (λ k. Made room i k p (h.here ++ h.rest)) (sym h.sets_are)
    (made_more held room i h.sets_here h.sets_left p h.pair_here h.pair_left h.here h.rest far z y h.target (rest h.sets_left h.pair_left h.rest h.more) h.pair_is))

made_all : (held room : List ℕ) → get_or room 34 0 ≡ 0 → get_or room 35 0 ≡ 0 → (n : ℕ) (p : Bool) (t : List ℕ) → IsJoint (suits_of held room) n p t → Made room 0 n p t
made_all held room z y n p t =
    made_step held room 0 n p t (suit_from held room 9 true ∷ suit_from held room 18 true ∷ suit_from held room 27 false ∷ []) (omega arith) z y (λ n p t.
    made_step held room 1 n p t (suit_from held room 18 true ∷ suit_from held room 27 false ∷ []) (omega arith) z y (λ n p t.
    made_step held room 2 n p t (suit_from held room 27 false ∷ []) (omega arith) z y (λ n p t.
    made_step held room 3 n p t [] (omega arith) z y (λ n p t. made_none room n p t))))

-- what the suits' sets and pair make of a hand
pub record IsMade (room : List ℕ) (n : ℕ) (t : List ℕ) : Type 0 where
  pub counts : List ℕ
  pub sets : List Set
  pub pair : ℕ
  pub are : AreSetsAndPair counts n sets pair
  pub is : t ≡ with_two counts
  pub within : (k : ℕ) → k < 34 → get_or counts k 0 ≤ get_or room k 0

hand_made : (room : List ℕ) (n : ℕ) (t : List ℕ) → get_or room 34 0 ≡ 0 → get_or room 35 0 ≡ 0 → (sets : List Set) (last : Option ℕ)
    → length sets ≡ n → list_all is_concealed sets ≡ true → is_some last ≡ true → ((m : ℕ) → last ≡ Some m → m < 34) → length t ≡ 36
    → ((k : ℕ) → k < 36 → number_at k sets + count_of k (tiles_of_pair last) ≡ get_or t k 0) → ((k : ℕ) → k < 36 → get_or t k 0 ≤ get_or room k 0) → IsMade room n t
hand_made room n t z y sets None many formed has fits size counted within = absurd (false≢true has)
hand_made room n t z y sets (Some pair) many formed has fits size counted within = record {
  counts = tally (flat_map tiles_of_set sets ++ pair ∷ pair ∷ []);
  sets = sets;
  pair = pair;
  are = record { so_many = many; concealed = formed; pair_kind = fits pair refl; tiles = refl };
  is = ext_get_or 0 t (with_two (tally (flat_map tiles_of_set sets ++ pair ∷ pair ∷ []))) (size ∙ sym wide) (λ k inside. each k (omega arith));
  within = λ k low. (let a = tally_at k low in let b : get_or t k 0 ≤ get_or room k 0 = within k (omega arith) in omega arith);
}
  where
    wide : length (with_two (tally (flat_map tiles_of_set sets ++ pair ∷ pair ∷ []))) ≡ 36
    wide = length-append (tally (flat_map tiles_of_set sets ++ pair ∷ pair ∷ [])) (0 ∷ 0 ∷ []) ∙ ap (λ n. n + 2) (length-tally (flat_map tiles_of_set sets ++ pair ∷ pair ∷ []))

    tally_at : (k : ℕ) → k < 34 → get_or (tally (flat_map tiles_of_set sets ++ pair ∷ pair ∷ [])) k 0 ≡ get_or t k 0
    tally_at k low = get_or-tally (flat_map tiles_of_set sets ++ pair ∷ pair ∷ []) k low ∙ count-flat_map k sets (pair ∷ pair ∷ []) ∙ counted k (omega arith)

    each : (k : ℕ) → k < 36 → get_or t k 0 ≡ get_or (with_two (tally (flat_map tiles_of_set sets ++ pair ∷ pair ∷ []))) k 0
    each k inside = elim (cases_lt k 34) [
      | inl low ↦ sym (get_or_append_left (tally (flat_map tiles_of_set sets ++ pair ∷ pair ∷ [])) (0 ∷ 0 ∷ []) 0 k
          (let e = length-tally (flat_map tiles_of_set sets ++ pair ∷ pair ∷ []) in omega arith) ∙ tally_at k low)
      | inr over ↦ none_past k inside over
          ∙ sym (get_or-append_right (tally (flat_map tiles_of_set sets ++ pair ∷ pair ∷ [])) (0 ∷ 0 ∷ []) 34 k 0 (length-tally (flat_map tiles_of_set sets ++ pair ∷ pair ∷ [])) over
          ∙ two_zeros (k - 34))
    ]
      where
        two_zeros : (j : ℕ) → ◌≡◌ {A = ℕ} (get_or (0 ∷ 0 ∷ []) j 0) 0
        two_zeros zero = refl
        two_zeros (suc zero) = refl
        two_zeros (suc (suc j)) = refl

        none_past : (k : ℕ) → k < 36 → 34 ≤ k → get_or t k 0 ≡ 0
        none_past k inside over = elim (cases_eq k 34) [
          | inl e ↦ (let w = within k inside in let v : get_or room k 0 ≡ 0 = ap (λ x. get_or room x 0) e ∙ z in omega arith)
          | inr e ↦ (let f : k ≡ 35 = omega arith in let w = within k inside in let v : get_or room k 0 ≡ 0 = ap (λ x. get_or room x 0) f ∙ y in omega arith)
        ]

pub hand_of : (held room : List ℕ) (n : ℕ) (t : List ℕ) → get_or room 34 0 ≡ 0 → get_or room 35 0 ≡ 0 → IsJoint (suits_of held room) n true t → IsMade room n t
hand_of held room n t z y h =
    let m : Made room 0 n true t = made_all held room z y n true t h in
    hand_made room n t z y m.sets m.last m.so_many m.formed m.has m.fits (let s = m.size in omega arith)
    (λ k inside. (let e : 9 * (k / 9) + k % 9 ≡ k = omega arith in
    subst (λ x. number_at x m.sets + count_of x (tiles_of_pair m.last) ≡ get_or t x 0) e
    (m.counted (k / 9) (k % 9) (omega arith) (omega arith) ∙ at_first (k / 9) (k % 9))))
    (λ k inside. (let e : 9 * (k / 9 - 0) + k % 9 ≡ k = omega arith in let f : 9 * (k / 9) + k % 9 ≡ k = omega arith in
    let w : get_or t (9 * (k / 9 - 0) + k % 9) 0 ≤ get_or room (9 * (k / 9) + k % 9) 0 = m.within (k / 9) (k % 9) (omega arith) (omega arith) (omega arith) in
    subst (λ x. get_or t x 0 ≤ get_or room k 0) e (subst (λ x. get_or t (9 * (k / 9 - 0) + k % 9) 0 ≤ get_or room x 0) f w)))
  where
    at_first : (j n : ℕ) → cond (leb 0 j) (get_or t (9 * (j - 0) + n) 0) 0 ≡ get_or t (9 * j + n) 0
    at_first j n = (let e : leb 0 j ≡ true = le-leb 0 j (omega arith) in let f : 9 * (j - 0) + n ≡ 9 * j + n = omega arith in rw e (ap (λ x. get_or t x 0) f))
