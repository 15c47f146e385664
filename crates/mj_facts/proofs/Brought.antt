-- How many tiles of each kind were brought in, tile after tile, and whether a fifth one comes.
use Rattle.std.proofs.Common.{◌≡◌, ℕ, ◌+◌, ◌-◌, ◌^◌, ◌<◌, ◌≤◌, Bool, true, false, cond, eqb, min, leb, ltb, List, [], ◌∷◌, ◌++◌, length, take, set, get_or, refl, sym, ap, ◌∙◌, subst, arith}
use Rattle.std.specs.Prelude.{Option, Some, None, option_to_list}
use Rattle.std.specs.List.{list_all}
use Rattle.std.proofs.lemmas.Bool.{le-leb, eq-eqb, eqb-true, ltb-true}
use Rattle.std.proofs.lemmas.Bool.Decides.{nat_tests}
use Rattle.std.proofs.lemmas.List.{take_more}
use Rattle.mj_tiles.specs.Counts.{all_kinds, number_of}
use Rattle.mj_tiles.specs.Faces.{kind_of}
use Rattle.mj_tiles.proofs.CountSteps.{number_of-push}
use Rattle.mj_tiles.proofs.EachKind.{all_kinds-pass, all_kinds-fail}
use Rattle.mj_deeds.specs.declared.deed.Deed.{Deed}
use Rattle.mj_deeds.specs.declared.four.Four.{Four}
use Rattle.mj_deeds.specs.Fits.{brought_by}
use Rattle.mj_deeds.proofs.FitSteps.{number_of_four}
use Rattle.mj_facts.proofs.OneMore.{one_counted, number_of-cons}

-- One tile further.
pub one_brought : (were now tiles : List ℕ) (i tile place v : ℕ) → i < length tiles → tile ≡ get_or tiles i tile → place ≡ kind_of tile → place < length now → v ≡ min (get_or now place 0 + 1) 255 →
    ((kind : ℕ) → get_or were kind 0 + number_of (take i tiles) kind ≤ 255 → get_or now kind 0 ≡ get_or were kind 0 + number_of (take i tiles) kind) →
    (kind : ℕ) → get_or were kind 0 + number_of (take (i + 1) tiles) kind ≤ 255 → get_or (set now place v) kind 0 ≡ get_or were kind 0 + number_of (take (i + 1) tiles) kind
one_brought were now tiles i tile place v h is at there what was =
    one_counted were now (λ kind. number_of (take i tiles) kind) (λ kind. number_of (take (i + 1) tiles) kind) (kind_of tile) place v next at there what was
  where
    next : (kind : ℕ) → number_of (take (i + 1) tiles) kind ≡ number_of (take i tiles) kind + cond (eqb (kind_of tile) kind) 1 0
    next kind = ap (λ (xs : List ℕ). number_of xs kind) (take_more tiles i tile h ∙ ap (λ x. take i tiles ++ x ∷ []) (sym is)) ∙ number_of-push (take i tiles) tile kind

-- The first indicator, and the tiles of the four hands in turn.
pub all_brought : (indicator : ℕ) (hands : Four (List ℕ)) (were p q r s t : List ℕ) (a b c d : List ℕ) → a ≡ hands.first → b ≡ hands.second → c ≡ hands.third → d ≡ hands.fourth →
    ((kind : ℕ) → get_or were kind 0 + number_of (indicator ∷ []) kind ≤ 255 → get_or p kind 0 ≡ get_or were kind 0 + number_of (indicator ∷ []) kind) →
    ((kind : ℕ) → get_or p kind 0 + number_of a kind ≤ 255 → get_or q kind 0 ≡ get_or p kind 0 + number_of a kind) →
    ((kind : ℕ) → get_or q kind 0 + number_of b kind ≤ 255 → get_or r kind 0 ≡ get_or q kind 0 + number_of b kind) →
    ((kind : ℕ) → get_or r kind 0 + number_of c kind ≤ 255 → get_or s kind 0 ≡ get_or r kind 0 + number_of c kind) →
    ((kind : ℕ) → get_or s kind 0 + number_of d kind ≤ 255 → get_or t kind 0 ≡ get_or s kind 0 + number_of d kind) →
    (kind : ℕ) → get_or were kind 0 + number_of (indicator ∷ hands.first ++ hands.second ++ hands.third ++ hands.fourth) kind ≤ 255 →
    get_or t kind 0 ≡ get_or were kind 0 + number_of (indicator ∷ hands.first ++ hands.second ++ hands.third ++ hands.fourth) kind
all_brought indicator hands were p q r s t a b c d ea eb ec ed one two three four five kind few =
    sum _ _ _ _ _ _ _ _ _ _ _ _ _ _ (number_of-cons indicator (hands.first ++ hands.second ++ hands.third ++ hands.fourth) kind) (number_of-cons indicator [] kind)
    (number_of_four hands.first hands.second hands.third hands.fourth kind ∙ (λ i. number_of (sym ea i) kind + number_of (sym eb i) kind + number_of (sym ec i) kind + number_of (sym ed i) kind))
    few (one kind) (two kind) (three kind) (four kind) (five kind)
  where
    sum : (w p q r s t all i o v x y z u : ℕ) → all ≡ o + i → v ≡ o + 0 → i ≡ x + y + z + u → w + all ≤ 255 → (w + v ≤ 255 → p ≡ w + v) → (p + x ≤ 255 → q ≡ p + x) →
        (q + y ≤ 255 → r ≡ q + y) → (r + z ≤ 255 → s ≡ r + z) → (s + u ≤ 255 → t ≡ s + u) → t ≡ w + all
    sum w p q r s t all i o v x y z u h k l few one two three four five =
        let a : p ≡ w + v = one (omega (arith, h, k, l, few)) in
        let b : q ≡ p + x = two (omega (arith, h, k, l, few, a)) in
        let c : r ≡ q + y = three (omega (arith, h, k, l, few, a, b)) in
        let d : s ≡ r + z = four (omega (arith, h, k, l, few, a, b, c)) in
        let e : t ≡ s + u = five (omega (arith, h, k, l, few, a, b, c, d)) in
        omega (arith, h, k, l, a, b, c, d, e)

-- A kind that is brought in a fifth time, and one that is not.
pub a_fifth_kind : (before : List ℕ) (d : Deed) (kind number given total : ℕ) → kind < 34 → number ≡ get_or before kind 0 → given ≡ min (number_of (brought_by d) kind) (2 ^ 64 - 1) →
    total ≡ min (number + given) (2 ^ 64 - 1) → 4 < total → false ≡ list_all (λ k. leb (get_or before k 0 + number_of (brought_by d) k) 4) all_kinds
a_fifth_kind before d kind number given total small is g t many =
    sym (all_kinds-fail (λ k. leb (get_or before k 0 + number_of (brought_by d) k) 4) kind small (over _ _ number given total is g t many))
  where
    over : (a n number given total : ℕ) → number ≡ a → given ≡ min n (2 ^ 64 - 1) → total ≡ min (number + given) (2 ^ 64 - 1) → 4 < total → leb (a + n) 4 ≡ false
    over a n number given total e f g h = let more : 4 < a + n = omega (arith, e, f, g, h) in grind (arith, nat_tests, more)

pub no_fifth_kind : (before : List ℕ) (d : Deed) → ((k : ℕ) → k < 34 → get_or before k 0 + number_of (brought_by d) k ≤ 4) →
    true ≡ list_all (λ k. leb (get_or before k 0 + number_of (brought_by d) k) 4) all_kinds
no_fifth_kind before d each = sym (all_kinds-pass (λ k. leb (get_or before k 0 + number_of (brought_by d) k) 4) (λ k small. le-leb _ 4 (each k small)))

-- Of a deed that brings in one tile, where no kind was brought in more than four times, and of one that brings in none.
pub one_fits : (before : List ℕ) (d : Deed) (more : Option ℕ) (tile place : ℕ) (b : Bool) → ((k : ℕ) → k < 34 → get_or before k 0 ≤ 4) → option_to_list more ≡ brought_by d → more ≡ Some tile →
    place ≡ kind_of tile → place < 34 → b ≡ ltb (get_or before place 0) 4 → b ≡ list_all (λ k. leb (get_or before k 0 + number_of (brought_by d) k) 4) all_kinds
one_fits before d more tile place b few brings some at small is = by_test b is
  where
    number : (k : ℕ) → number_of (brought_by d) k ≡ cond (eqb place k) 1 0 + 0
    number k = ap (λ (xs : List ℕ). number_of xs k) (sym brings ∙ ap option_to_list some) ∙ number_of-cons tile [] k ∙ ap (λ p. cond (eqb p k) 1 0 + 0) (sym at)

    here : (k : ℕ) (t : Bool) → eqb place k ≡ t → k < 34 → get_or before place 0 < 4 → get_or before k 0 + (cond t 1 0 + 0) ≤ 4
    here k true e low less = let same : place ≡ k = eqb-true place k e in
        let now : get_or before k 0 < 4 = subst (λ p. get_or before p 0 < 4) same less in omega (arith, now)
    here k false e low less = let now : get_or before k 0 ≤ 4 = few k low in omega (arith, now)

    by_test : (t : Bool) → t ≡ ltb (get_or before place 0) 4 → t ≡ list_all (λ k. leb (get_or before k 0 + number_of (brought_by d) k) 4) all_kinds
    by_test true e =
        sym
        (all_kinds-pass (λ k. leb (get_or before k 0 + number_of (brought_by d) k) 4)
        (λ k low. le-leb _ 4 (subst (λ n. get_or before k 0 + n ≤ 4) (sym (number k)) (here k (eqb place k) refl low (ltb-true (get_or before place 0) 4 (sym e))))))
    by_test false e =
        sym (all_kinds-fail (λ k. leb (get_or before k 0 + number_of (brought_by d) k) 4) place small (full (get_or before place 0) _ (number place
        ∙ ap (λ t. cond t 1 0 + 0) (eq-eqb place place refl)) (sym e)))
      where
        full : (n m : ℕ) → m ≡ 1 + 0 → ltb n 4 ≡ false → leb (n + m) 4 ≡ false
        full n m f g = grind (arith, nat_tests, f, g)

pub none_fit : (before : List ℕ) (d : Deed) (more : Option ℕ) → ((k : ℕ) → k < 34 → get_or before k 0 ≤ 4) → option_to_list more ≡ brought_by d → more ≡ None →
    true ≡ list_all (λ k. leb (get_or before k 0 + number_of (brought_by d) k) 4) all_kinds
none_fit before d more few brings none =
    sym
    (all_kinds-pass (λ k. leb (get_or before k 0 + number_of (brought_by d) k) 4)
    (λ k low. le-leb _ 4 (subst (λ (xs : List ℕ). get_or before k 0 + number_of xs k ≤ 4) (ap option_to_list (sym none) ∙ brings) (plain (get_or before k 0) (few k low)))))
  where
    plain : (n : ℕ) → n ≤ 4 → n + 0 ≤ 4
    plain n h = omega (arith, h)
