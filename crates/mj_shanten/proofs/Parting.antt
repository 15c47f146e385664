-- Sets of a hand by suit.
use Rattle.std.proofs.Common.{ℕ, ◌≡◌, ◌≢◌, ◌<◌, ◌≤◌, ◌+◌, ◌*◌, ◌/◌, ◌%◌, ◌∷◌, [], Bool, true, false, cond, eqb, leb, ltb, not, ◌&&◌, List, length, refl, sym, ◌∙◌, ap, ap₂, arith, suc, inl, inr}
use Rattle.std.specs.List.{count_by, list_all}
use Rattle.std.proofs.lemmas.Bool.{and_parts, and_from, cases_eq, cases_lt, eq-eqb, ne_eqb, ltb-true, lt-ltb, false≢true}
use Rattle.std.proofs.lemmas.Bool.Decides.{nat_tests}
use Rattle.mj_readings.specs.declared.reading.Set.{Set}
use Rattle.mj_readings.specs.declared.reading.SetForm.{SetForm}
use Rattle.mj_readings.specs.declared.reading.SetForm.TheVariants.{Run, Triplet, Kan}
use Rattle.mj_readings.specs.Sets.{tiles_of_form, is_concealed, is_concealed_form, begins_run}
use Rattle.mj_readings.proofs.Tiles.{in_set, number_at}
use Rattle.mj_suits.specs.declared.sets.SuitSet.{SuitSet}
use Rattle.mj_suits.specs.Sets as suit
use Rattle.mj_suits.specs.Sets.{count_of, is_well_formed}
use Rattle.mj_suits.proofs.Tiles.{count_of-append}

-- the set in its suit
abbrev pub is_run : SetForm → Bool
is_run Run = true
is_run Triplet = false
is_run Kan = false

abbrev pub as_suit_set : Set → SuitSet
as_suit_set s = record { run = is_run s.form; low = s.low % 9 }

-- the sets of one suit
abbrev pub sets_in : ℕ → List Set → List SuitSet
sets_in i [] = []
sets_in i (s ∷ ss) = cond (eqb (s.low / 9) i) (as_suit_set s ∷ sets_in i ss) (sets_in i ss)

-- how many sets there are from a suit on
abbrev pub number_from : ℕ → List Set → ℕ
number_from i [] = 0
number_from i (s ∷ ss) = cond (leb i (s.low / 9)) 1 0 + number_from i ss

pub run_low : (low : ℕ) → begins_run low ≡ true → (low < 27) × (low % 9 < 7)
unfolding begins_run
run_low low begins = (let p = and_parts (ltb low 27) (ltb (low % 9) 7) begins in (ltb-true low 27 p.0, ltb-true (low % 9) 7 p.1))

pub concealed_form : (s : Set) → is_concealed s ≡ true → is_concealed_form s.form s.low ≡ true
concealed_form s h = (and_parts (not s.shown) (is_concealed_form s.form s.low) h).1

-- the same numbers in a suit and among all kinds
eqb_shift : (low i n j : ℕ) → low / 9 ≡ i → low % 9 + j < 9 → n < 9 → eqb (low + j) (9 * i + n) ≡ eqb (low % 9 + j) n
eqb_shift low i n j same small few = elim (cases_eq (low % 9 + j) n) [
  | inl e ↦ (let f : low + j ≡ 9 * i + n = omega arith in eq-eqb _ _ f ∙ sym (eq-eqb _ _ e))
  | inr e ↦ (let f : low + j ≢ 9 * i + n = omega arith in ne_eqb _ _ f ∙ sym (ne_eqb _ _ e))
]

eqb_apart : (low i n j : ℕ) → low / 9 ≢ i → low % 9 + j < 9 → n < 9 → eqb (low + j) (9 * i + n) ≡ false
eqb_apart low i n j apart small few = (let f : low + j ≢ 9 * i + n = omega arith in ne_eqb _ _ f)

three_tests : (a b c d e f : Bool) → a ≡ d → b ≡ e → c ≡ f → 0 + cond c 1 0 + cond b 1 0 + cond a 1 0 ≡ 0 + cond f 1 0 + cond e 1 0 + cond d 1 0
three_tests a b c d e f p q r = cc

form_here : (form : SetForm) (low i n : ℕ) → is_concealed_form form low ≡ true → n < 9 → low / 9 ≡ i →
    count_by (λ tile. eqb tile (9 * i + n)) (tiles_of_form form low) ≡ count_of n (suit.tiles_of_set (record { run = is_run form; low = low % 9 }))
form_here Run low i n formed few same = (let r = run_low low formed in
    grind (arith, eqb_shift low i n 0 same (omega arith) few, eqb_shift low i n 1 same (omega arith) few, eqb_shift low i n 2 same (omega arith) few))
form_here Triplet low i n formed few same = grind (arith, eqb_shift low i n 0 same (omega arith) few)
form_here Kan low i n formed few same = absurd (false≢true formed)

form_apart : (form : SetForm) (low i n : ℕ) → is_concealed_form form low ≡ true → n < 9 → low / 9 ≢ i → count_by (λ tile. eqb tile (9 * i + n)) (tiles_of_form form low) ≡ 0
form_apart Run low i n formed few apart = (let r = run_low low formed in
    grind (arith, eqb_apart low i n 0 apart (omega arith) few, eqb_apart low i n 1 apart (omega arith) few, eqb_apart low i n 2 apart (omega arith) few))
form_apart Triplet low i n formed few apart = grind (arith, eqb_apart low i n 0 apart (omega arith) few)
form_apart Kan low i n formed few apart = absurd (false≢true formed)

pub set_here : (s : Set) (i n : ℕ) → is_concealed s ≡ true → n < 9 → s.low / 9 ≡ i → in_set (9 * i + n) s ≡ count_of n (suit.tiles_of_set (as_suit_set s))
set_here s i n h few same = form_here s.form s.low i n (concealed_form s h) few same

pub set_apart : (s : Set) (i n : ℕ) → is_concealed s ≡ true → n < 9 → s.low / 9 ≢ i → in_set (9 * i + n) s ≡ 0
set_apart s i n h few apart = form_apart s.form s.low i n (concealed_form s h) few apart

-- a kind stands in the sets as often as its number in those of its suit
pub number_in : (sets : List Set) (i n : ℕ) → list_all is_concealed sets ≡ true → n < 9 → number_at (9 * i + n) sets ≡ count_of n (suit.tiles_of_sets (sets_in i sets))
number_in [] i n formed few = refl
number_in (s ∷ ss) i n formed few =
    let f = and_parts (is_concealed s) (list_all is_concealed ss) formed in
    let rest : number_at (9 * i + n) ss ≡ count_of n (suit.tiles_of_sets (sets_in i ss)) = number_in ss i n f.1 few in
    elim (cases_eq (s.low / 9) i) [
      | inl same ↦
          rw (eq-eqb (s.low / 9) i same)
          (ap₂ (λ a b. a + b) (set_here s i n f.0 few same) rest ∙ sym (count_of-append n (suit.tiles_of_set (as_suit_set s)) (suit.tiles_of_sets (sets_in i ss))))
      | inr apart ↦
          rw (ne_eqb (s.low / 9) i apart)
          (ap₂ (λ a b. a + b) (set_apart s i n f.0 few apart) rest ∙ (let z : 0 + count_of n (suit.tiles_of_sets (sets_in i ss)) ≡ count_of n (suit.tiles_of_sets (sets_in i ss)) = omega arith in z))
    ]

formed_form : (form : SetForm) (low i : ℕ) → is_concealed_form form low ≡ true → low / 9 ≡ i → is_well_formed (ltb i 3) (record { run = is_run form; low = low % 9 }) ≡ true
formed_form Run low i formed same = (let r = run_low low formed in let f : i < 3 = omega arith in and_from (ltb i 3) (ltb (low % 9) 7) (lt-ltb i 3 f) (lt-ltb (low % 9) 7 r.1))
formed_form Triplet low i formed same = (let f : low % 9 < 9 = omega arith in lt-ltb (low % 9) 9 f)
formed_form Kan low i formed same = absurd (false≢true formed)

-- the sets of a suit are well formed there
pub formed_in : (sets : List Set) (i : ℕ) → list_all is_concealed sets ≡ true → list_all (is_well_formed (ltb i 3)) (sets_in i sets) ≡ true
formed_in [] i formed = refl
formed_in (s ∷ ss) i formed =
    let f = and_parts (is_concealed s) (list_all is_concealed ss) formed in
    elim (cases_eq (s.low / 9) i) [
      | inl same ↦ rw (eq-eqb (s.low / 9) i same) (and_from (is_well_formed (ltb i 3) (as_suit_set s)) _ (formed_form s.form s.low i (concealed_form s f.0) same) (formed_in ss i f.1))
      | inr apart ↦ rw (ne_eqb (s.low / 9) i apart) (formed_in ss i f.1)
    ]

-- the sets of one suit, and then those of the later ones
pub number_step : (sets : List Set) (i : ℕ) → number_from i sets ≡ length (sets_in i sets) + number_from (i + 1) sets
number_step [] i = refl
number_step (s ∷ ss) i = (let rest : number_from i ss ≡ length (sets_in i ss) + number_from (i + 1) ss = number_step ss i in grind (arith, nat_tests))

number_low : (sets : List Set) → number_from 0 sets ≡ length sets
number_low [] = refl
number_low (s ∷ ss) = (let rest : number_from 0 ss ≡ length ss = number_low ss in grind (arith, nat_tests))

pub number_all : (sets : List Set) → number_from 0 sets ≡ length sets
number_all sets = number_low sets

form_low : (form : SetForm) (low : ℕ) → is_concealed_form form low ≡ true → low < 34
form_low Run low formed = (let r = run_low low formed in omega arith)
form_low Triplet low formed = ltb-true low 34 formed
form_low Kan low formed = absurd (false≢true formed)

pub number_none : (sets : List Set) → list_all is_concealed sets ≡ true → number_from 4 sets ≡ 0
number_none [] formed = refl
number_none (s ∷ ss) formed =
    let f = and_parts (is_concealed s) (list_all is_concealed ss) formed in
    let low : s.low < 34 = form_low s.form s.low (concealed_form s f.0) in
    let rest : number_from 4 ss ≡ 0 = number_none ss f.1 in
    grind (arith, nat_tests)

form_past : (form : SetForm) (low k : ℕ) → is_concealed_form form low ≡ true → 34 ≤ k → count_by (λ tile. eqb tile k) (tiles_of_form form low) ≡ 0
form_past Run low k formed past = (let r = run_low low formed in grind (arith, nat_tests))
form_past Triplet low k formed past = (let r = ltb-true low 34 formed in grind (arith, nat_tests))
form_past Kan low k formed past = absurd (false≢true formed)

-- no set has a tile past the last kind
pub number_past : (sets : List Set) (k : ℕ) → list_all is_concealed sets ≡ true → 34 ≤ k → number_at k sets ≡ 0
number_past [] k formed past = refl
number_past (s ∷ ss) k formed past =
    let f = and_parts (is_concealed s) (list_all is_concealed ss) formed in
    let here : in_set k s ≡ 0 = form_past s.form s.low k (concealed_form s f.0) past in
    let rest : number_at k ss ≡ 0 = number_past ss k f.1 past in
    omega arith

-- ---- the other way round

-- a suit's set among all kinds
abbrev pub lifted_form : Bool → SetForm
lifted_form true = Run
lifted_form false = Triplet

abbrev pub lifted : ℕ → SuitSet → Set
lifted i s = record { form = lifted_form s.run; low = 9 * i + s.low; shown = false }

abbrev pub lift_all : ℕ → List SuitSet → List Set
lift_all i [] = []
lift_all i (s ∷ ss) = lifted i s ∷ lift_all i ss

-- the set may stand in the suit, and an honour is none of the two numbers that no honour has
abbrev pub may_stand : ℕ → SuitSet → Bool
may_stand i s = is_well_formed (ltb i 3) s && ltb (9 * i + s.low) 34

lifted_parts : (run : Bool) (i low : ℕ) → i ≤ 3 → is_well_formed (ltb i 3) (record { run = run; low = low }) ≡ true → ltb (9 * i + low) 34 ≡ true →
    is_concealed_form (lifted_form run) (9 * i + low) ≡ true
unfolding begins_run
lifted_parts true i low far formed small =
    let p = and_parts (ltb i 3) (ltb low 7) formed in
    let a : i < 3 = ltb-true i 3 p.0 in
    let b : low < 7 = ltb-true low 7 p.1 in
    let c : 9 * i + low < 27 = omega arith in
    let d : (9 * i + low) % 9 < 7 = omega arith in
    and_from (ltb (9 * i + low) 27) (ltb ((9 * i + low) % 9) 7) (lt-ltb _ _ c) (lt-ltb _ _ d)
lifted_parts false i low far formed small = small

pub lifted_concealed : (i : ℕ) (s : SuitSet) → i ≤ 3 → may_stand i s ≡ true → is_concealed (lifted i s) ≡ true
lifted_concealed i s far may = (let p = and_parts (is_well_formed (ltb i 3) s) (ltb (9 * i + s.low) 34) may in lifted_parts s.run i s.low far p.0 p.1)

low_small : (runs run : Bool) (low : ℕ) → is_well_formed runs (record { run = run; low = low }) ≡ true → low < 9
low_small runs true low formed = (let p = ltb-true low 7 (and_parts runs (ltb low 7) formed).1 in omega arith)
low_small runs false low formed = ltb-true low 9 formed

lifted_back : (run : Bool) (i low : ℕ) → low < 9 → let s : SuitSet = record { run = is_run (lifted_form run); low = (9 * i + low) % 9 } in let t : SuitSet = record { run = run; low = low } in s ≡ t
lifted_back true i low small = (let e : (9 * i + low) % 9 ≡ low = omega arith in ap (λ l. let s : SuitSet = record { run = true; low = l } in s) e)
lifted_back false i low small = (let e : (9 * i + low) % 9 ≡ low = omega arith in ap (λ l. let s : SuitSet = record { run = false; low = l } in s) e)

pub lifted_here : (i : ℕ) (s : SuitSet) (n : ℕ) → i ≤ 3 → n < 9 → may_stand i s ≡ true → in_set (9 * i + n) (lifted i s) ≡ count_of n (suit.tiles_of_set s)
lifted_here i s n far few may =
    let p = and_parts (is_well_formed (ltb i 3) s) (ltb (9 * i + s.low) 34) may in
    let small : s.low < 9 = low_small (ltb i 3) s.run s.low p.0 in
    let at : (9 * i + s.low) / 9 ≡ i = omega arith in
    set_here (lifted i s) i n (lifted_concealed i s far may) few at
    ∙ ap (λ t. count_of n (suit.tiles_of_set t)) (lifted_back s.run i s.low small)

pub lifted_apart : (i j : ℕ) (s : SuitSet) (n : ℕ) → i ≤ 3 → n < 9 → j ≢ i → may_stand i s ≡ true → in_set (9 * j + n) (lifted i s) ≡ 0
lifted_apart i j s n far few apart may =
    let p = and_parts (is_well_formed (ltb i 3) s) (ltb (9 * i + s.low) 34) may in
    let small : s.low < 9 = low_small (ltb i 3) s.run s.low p.0 in
    let at : (9 * i + s.low) / 9 ≢ j = omega arith in
    set_apart (lifted i s) j n (lifted_concealed i s far may) few at

pub all_concealed : (i : ℕ) (ss : List SuitSet) → i ≤ 3 → list_all (may_stand i) ss ≡ true → list_all is_concealed (lift_all i ss) ≡ true
all_concealed i [] far may = refl
all_concealed i (s ∷ ss) far may =
    let p = and_parts (may_stand i s) (list_all (may_stand i) ss) may in
    and_from (is_concealed (lifted i s)) (list_all is_concealed (lift_all i ss)) (lifted_concealed i s far p.0) (all_concealed i ss far p.1)

pub all_here : (i : ℕ) (ss : List SuitSet) (n : ℕ) → i ≤ 3 → n < 9 → list_all (may_stand i) ss ≡ true → number_at (9 * i + n) (lift_all i ss) ≡ count_of n (suit.tiles_of_sets ss)
all_here i [] n far few may = refl
all_here i (s ∷ ss) n far few may =
    let p = and_parts (may_stand i s) (list_all (may_stand i) ss) may in
    ap₂ (λ a b. a + b) (lifted_here i s n far few p.0) (all_here i ss n far few p.1) ∙ sym (count_of-append n (suit.tiles_of_set s) (suit.tiles_of_sets ss))

pub all_apart : (i j : ℕ) (ss : List SuitSet) (n : ℕ) → i ≤ 3 → n < 9 → j ≢ i → list_all (may_stand i) ss ≡ true → number_at (9 * j + n) (lift_all i ss) ≡ 0
all_apart i j [] n far few apart may = refl
all_apart i j (s ∷ ss) n far few apart may =
    let p = and_parts (may_stand i s) (list_all (may_stand i) ss) may in
    let here : in_set (9 * j + n) (lifted i s) ≡ 0 = lifted_apart i j s n far few apart p.0 in
    let rest : number_at (9 * j + n) (lift_all i ss) ≡ 0 = all_apart i j ss n far few apart p.1 in
    omega arith

pub length_all : (i : ℕ) (ss : List SuitSet) → length (lift_all i ss) ≡ length ss
length_all i [] = refl
length_all i (s ∷ ss) = ap (λ n. suc n) (length_all i ss)

-- a set has its lowest tile
has_low : (s : SuitSet) → 1 ≤ count_of s.low (suit.tiles_of_set s)
has_low s = has s.run s.low
  where
    has : (run : Bool) (low : ℕ) → 1 ≤ count_of low (suit.tiles_of_set (record { run = run; low = low }))
    has true low = grind (arith, eq-eqb low low refl)
    has false low = grind (arith, eq-eqb low low refl)

-- a suit's sets may stand where no number has tiles that are past the last kind
pub all_may : (i : ℕ) (ss : List SuitSet) → list_all (is_well_formed (ltb i 3)) ss ≡ true → ((n : ℕ) → n < 9 → 34 ≤ 9 * i + n → count_of n (suit.tiles_of_sets ss) ≡ 0)
    → list_all (may_stand i) ss ≡ true
all_may i [] formed none = refl
all_may i (s ∷ ss) formed none =
    let p = and_parts (is_well_formed (ltb i 3) s) (list_all (is_well_formed (ltb i 3)) ss) formed in
    and_from (may_stand i s) (list_all (may_stand i) ss) (and_from (is_well_formed (ltb i 3) s) (ltb (9 * i + s.low) 34) p.0 (low_fits p.0))
    (all_may i ss p.1 (λ n few past. (let a = count_of-append n (suit.tiles_of_set s) (suit.tiles_of_sets ss) in let z = none n few past in omega arith)))
  where
    low_fits : is_well_formed (ltb i 3) s ≡ true → ltb (9 * i + s.low) 34 ≡ true
    low_fits here = elim (cases_lt (9 * i + s.low) 34) [
      | inl fits ↦ lt-ltb _ _ fits
      | inr past ↦
          (let small : s.low < 9 = low_small (ltb i 3) s.run s.low here in
          let z = none s.low small past in
          let a = count_of-append s.low (suit.tiles_of_set s) (suit.tiles_of_sets ss) in
          let one = has_low s in absurd (omega arith))
    ]
