-- The sums of the suits of sets and a pair: no suit and no honour has a single tile over its threes.
use Rattle.std.proofs.Common.{ℕ, ◌≡◌, ◌<◌, ◌≤◌, ◌+◌, ◌-◌, ◌*◌, ◌%◌, ◌++◌, ◌∷◌, [], Bool, true, false, cond, List, length, get_or, set, get_or-set_same}
use Rattle.std.proofs.Common.{get_or-set_other, refl, sym, ◌∙◌, ap, arith, eqb, leb, ltb, zero, suc, add-zero, ◌⊎◌, inl, inr, ◌&&◌}
use Rattle.std.specs.List.{list_all, count_by, flat_map}
use Rattle.std.specs.Prelude.{not}
use Rattle.std.proofs.lemmas.Bool.{and_parts, and_from, false_from_ne_true, false≢true, cases_lt, eq-eqb, ne_eqb, le-leb, lt-ltb, le-ltb, ltb-true}
use Rattle.std.proofs.lemmas.Bool.Decides.{nat_tests}
use Rattle.std.proofs.lemmas.Grind.{common_steps}
use Rattle.mj_lists.proofs.Ranges.{below_or_here}
use Rattle.mj_readings.specs.declared.reading.Set.{Set}
use Rattle.mj_readings.specs.declared.reading.SetForm.{SetForm}
use Rattle.mj_readings.specs.declared.reading.SetForm.TheVariants.{Run, Triplet, Kan}
use Rattle.mj_readings.specs.Sets.{tally, tiles_of_set, tiles_of_form, is_concealed, is_concealed_form, begins_run}
use Rattle.mj_readings.specs.Complete.{AreSetsAndPair}
use Rattle.mj_readings.specs.Tests.{one_more}
use Rattle.mj_readings.specs.Inner.Ways.{has_way}
use Rattle.mj_readings.specs.Inner.Sums.{sum_below, tiles_from, single_over, single_honours, singles, tiles_beside}
use Rattle.mj_readings.proofs.Laws.{get_or-tally, has_way-are}

-- Sums of the same numbers, and of numbers that differ at one place.
same_sum : (f h : ℕ → ℕ) (n : ℕ) → ((i : ℕ) → i < n → f i ≡ h i) → sum_below f n ≡ sum_below h n
unfolding sum_below
same_sum f h zero same = refl
same_sum f h (suc n) same = both _ _ _ _ (same_sum f h n (λ i inside. same i (omega (arith, inside)))) (same n (omega arith))
  where
    both : (a b c d : ℕ) → a ≡ c → b ≡ d → a + b ≡ c + d
    both a b c d e f = cc

changed_sum : (f h : ℕ → ℕ) (n place : ℕ) → place < n → ((i : ℕ) → i < n → (i ≡ place → ⊥) → f i ≡ h i) → sum_below f n + h place ≡ sum_below h n + f place
unfolding sum_below
changed_sum f h zero place inside others = absurd (omega (arith, inside))
changed_sum f h (suc n) place inside others = split (below_or_here place n (omega (arith, inside))) (changed_sum f h n place)
  where
    split : (place < n) ⊎ (place ≡ n) → (place < n → ((i : ℕ) → i < n → (i ≡ place → ⊥) → f i ≡ h i) → sum_below f n + h place ≡ sum_below h n + f place) →
        sum_below f n + f n + h place ≡ sum_below h n + h n + f place
    split (inl before) rest =
        omega (arith, rest before (λ i within differ. others i (omega (arith, within)) differ), others n (omega arith) (λ e. omega (arith, e, before)))
    split (inr here) rest =
        let same : sum_below f n ≡ sum_below h n = same_sum f h n (λ i within. others i (omega (arith, within)) (λ e. omega (arith, e, within, here))) in
        omega (arith, same, ap f here, ap h here)

-- The tiles of the suits and the honours are all tiles.
sum_split : (f : ℕ → ℕ) (a b : ℕ) → sum_below f (a + b) ≡ sum_below f a + sum_below (λ i. f (a + i)) b
unfolding sum_below
sum_split f a zero = ap (sum_below f) (add-zero a) ∙ sym (add-zero (sum_below f a))
sum_split f a (suc b) =
    let next : a + suc b ≡ suc (a + b) = omega arith in
    ap (sum_below f) next ∙ more (sum_split f a b)
  where
    more : sum_below f (a + b) ≡ sum_below f a + sum_below (λ i. f (a + i)) b → sum_below f (a + b) + f (a + b) ≡ sum_below f a + (sum_below (λ i. f (a + i)) b + f (a + b))
    more e = omega (arith, e)

tiles_split : (counts : List ℕ) (from a b : ℕ) → tiles_from counts from (a + b) ≡ tiles_from counts from a + tiles_from counts (from + a) b
unfolding tiles_from
tiles_split counts from a b =
    sum_split (λ place. get_or counts (from + place) 0) a b
    ∙ ap (λ n. sum_below (λ place. get_or counts (from + place) 0) a + n)
    (same_sum (λ i. get_or counts (from + (a + i)) 0) (λ place. get_or counts (from + a + place) 0) b
    (λ i inside. ap (λ k. get_or counts k 0) (along i)))
  where
    along : (i : ℕ) → from + (a + i) ≡ from + a + i
    along i = omega arith

pub tiles_together : (counts : List ℕ) →
    tiles_from counts 0 9 + tiles_from counts 9 9 + tiles_from counts 18 9 + tiles_from counts 27 7 ≡ tiles_from counts 0 34
tiles_together counts =
    omega (arith, tiles_split counts 0 9 25, tiles_split counts 9 9 16, tiles_split counts 18 9 7)

-- A kind is one of so many from one on.
abbrev pub among : ℕ → ℕ → ℕ → Bool
among from many kind = leb from kind && ltb kind (from + many)

none_among : (from : ℕ) (kinds : List ℕ) → count_by (among from 0) kinds ≡ 0
none_among from [] = refl
none_among from (kind ∷ kinds) = grind (arith, nat_tests, common_steps, none_among from kinds)

one_more_among : (from many : ℕ) (kinds : List ℕ) →
    count_by (among from many) kinds + count_by (λ other. eqb other (from + many)) kinds ≡ count_by (among from (suc many)) kinds
one_more_among from many [] = refl
one_more_among from many (kind ∷ kinds) = grind (arith, nat_tests, common_steps, one_more_among from many kinds)

-- The tiles of a tallied list among so many kinds.
tallied : (kinds : List ℕ) (from many : ℕ) → from + many ≤ 34 → tiles_from (tally kinds) from many ≡ count_by (among from many) kinds
unfolding tiles_from sum_below
tallied kinds from zero inside = sym (none_among from kinds)
tallied kinds from (suc many) inside =
    ap (λ n. n + get_or (tally kinds) (from + many) 0) (tallied kinds from many (omega (arith, inside)))
    ∙ ap (λ n. count_by (among from many) kinds + n) (get_or-tally kinds (from + many) (omega (arith, inside)))
    ∙ one_more_among from many kinds

-- A test that tells the tiles of no run apart: three tiles of a set pass it, or none.
abbrev pub Whole : (ℕ → Bool) → Type 0
Whole test = (low : ℕ) → begins_run low ≡ true → (test (low + 1) ≡ test low) × (test (low + 2) ≡ test low)

pub run_low : (low : ℕ) → begins_run low ≡ true → (low < 27) × (low % 9 < 7)
unfolding begins_run
run_low low begins = (let p = and_parts (ltb low 27) (ltb (low % 9) 7) begins in (ltb-true low 27 p.0, ltb-true (low % 9) 7 p.1))

pub concealed_form : (set : Set) → is_concealed set ≡ true → is_concealed_form set.form set.low ≡ true
concealed_form set is = (and_parts (not set.shown) (is_concealed_form set.form set.low) is).1

set_threes : (test : ℕ → Bool) → Whole test → (set : Set) → is_concealed set ≡ true → count_by test (tiles_of_set set) ≡ 3 * cond (test set.low) 1 0
set_threes test whole set concealed = form_threes set.form set.low (concealed_form set concealed)
  where
    form_threes : (form : SetForm) (low : ℕ) → is_concealed_form form low ≡ true → count_by test (tiles_of_form form low) ≡ 3 * cond (test low) 1 0
    form_threes Run low begins = grind (arith, (whole low begins).0, (whole low begins).1)
    form_threes Triplet low below = grind arith
    form_threes Kan low none = absurd (false≢true none)

sets_threes : (test : ℕ → Bool) → Whole test → (sets : List Set) (more : List ℕ) → list_all is_concealed sets ≡ true →
    count_by test (flat_map tiles_of_set sets ++ more) ≡ 3 * count_by (λ set. test set.low) sets + count_by test more
sets_threes test whole [] more each = grind arith
sets_threes test whole (set ∷ others) more each =
    let parts = and_parts (is_concealed set) (list_all is_concealed others) each in
    grind (arith, common_steps, set_threes test whole set parts.0, sets_threes test whole others more parts.1)

-- Suits, honours and all kinds are whole.
pub suit_whole : (from : ℕ) → from % 9 ≡ 0 → Whole (among from 9)
suit_whole from suit low begins = let r = run_low low begins in (here from low 1 suit r.1 (omega arith), here from low 2 suit r.1 (omega arith))
  where
    here : (from low more : ℕ) → from % 9 ≡ 0 → low % 9 < 7 → more ≤ 2 → among from 9 (low + more) ≡ among from 9 low
    here from low more suit small few = grind (arith, nat_tests)

past_whole : (from : ℕ) → 27 ≤ from → Whole (among from 1)
past_whole from past low begins = let r = run_low low begins in (here from low 1 past r.0 r.1 (omega arith), here from low 2 past r.0 r.1 (omega arith))
  where
    here : (from low more : ℕ) → 27 ≤ from → low < 27 → low % 9 < 7 → more ≤ 2 → among from 1 (low + more) ≡ among from 1 low
    here from low more past number small few = grind (arith, nat_tests)

all_whole : Whole (among 0 34)
all_whole low begins = let r = run_low low begins in (here low 1 r.0 (omega arith), here low 2 r.0 (omega arith))
  where
    here : (low more : ℕ) → low < 27 → more ≤ 2 → among 0 34 (low + more) ≡ among 0 34 low
    here low more number few = grind (arith, nat_tests)

-- The tiles of sets and a pair among so many kinds.
pair_two : (test : ℕ → Bool) (pair : ℕ) → count_by test (pair ∷ pair ∷ []) ≡ 2 * cond (test pair) 1 0
pair_two test pair = grind arith

pub tiles_of_sets : (counts : List ℕ) (number : ℕ) (sets : List Set) (pair : ℕ) → AreSetsAndPair counts number sets pair →
    (from many : ℕ) → from + many ≤ 34 → Whole (among from many) →
    tiles_from counts from many ≡ 3 * count_by (λ set. among from many set.low) sets + 2 * cond (among from many pair) 1 0
tiles_of_sets counts number sets pair are from many inside whole =
    ap (λ ns. tiles_from ns from many) (sym are.tiles)
    ∙ tallied (flat_map tiles_of_set sets ++ pair ∷ pair ∷ []) from many inside
    ∙ sets_threes (among from many) whole sets (pair ∷ pair ∷ []) are.concealed
    ∙ ap (λ n. 3 * count_by (λ set. among from many set.low) sets + n) (pair_two (among from many) pair)

none_over : (tiles sets : ℕ) (b : Bool) → tiles ≡ 3 * sets + 2 * cond b 1 0 → single_over tiles ≡ 0
unfolding single_over
none_over tiles sets true is = (let two : tiles ≡ 3 * sets + 2 = is in ap (λ (b : Bool). cond b 1 0) (ne_eqb (tiles % 3) 1 (λ e. omega (arith, two, e))))
none_over tiles sets false is = (let three : tiles ≡ 3 * sets + 2 * 0 = is in ap (λ (b : Bool). cond b 1 0) (ne_eqb (tiles % 3) 1 (λ e. omega (arith, three, e))))

no_sum : (f : ℕ → ℕ) (n : ℕ) → ((i : ℕ) → i < n → f i ≡ 0) → sum_below f n ≡ 0
unfolding sum_below
no_sum f zero each = refl
no_sum f (suc n) each = none (sum_below f n) (f n) (no_sum f n (λ i inside. each i (omega (arith, inside)))) (each n (omega arith))
  where
    none : (a b : ℕ) → a ≡ 0 → b ≡ 0 → a + b ≡ 0
    none a b e f = omega (arith, e, f)

one_kind : (counts : List ℕ) (kind : ℕ) → tiles_from counts kind 1 ≡ get_or counts kind 0
unfolding tiles_from sum_below
one_kind counts kind = (let first : kind + 0 ≡ kind = omega arith in ap (λ k. 0 + get_or counts k 0) first ∙ whole (get_or counts kind 0))
  where
    whole : (n : ℕ) → 0 + n ≡ n
    whole n = omega arith

concealed_low : (set : Set) → is_concealed set ≡ true → set.low < 34
concealed_low set concealed = below set.form set.low (concealed_form set concealed)
  where
    below : (form : SetForm) (low : ℕ) → is_concealed_form form low ≡ true → low < 34
    below Run low begins = (let r = run_low low begins in omega (arith, r.0))
    below Triplet low number = ltb-true low 34 number
    below Kan low none = absurd (false≢true none)

all_sets : (sets : List Set) → list_all is_concealed sets ≡ true → count_by (λ set. among 0 34 set.low) sets ≡ length sets
all_sets [] each = refl
all_sets (set ∷ others) each =
    let parts = and_parts (is_concealed set) (list_all is_concealed others) each in
    let low : set.low < 34 = concealed_low set parts.0 in
    grind (arith, nat_tests, common_steps, low, all_sets others parts.1)

-- The sums of sets and a pair.
pub record HaveSums (counts : List ℕ) (number : ℕ) : Type 0 where
  pub none : singles counts ≡ 0
  pub total : tiles_from counts 0 34 ≡ 3 * number + 2

singles_are : (counts : List ℕ) →
    singles counts ≡ single_over (tiles_from counts 0 9) + single_over (tiles_from counts 9 9) + single_over (tiles_from counts 18 9) + single_honours counts 7
unfolding singles
singles_are counts = refl

no_honours : (counts : List ℕ) → ((h : ℕ) → h < 7 → single_over (get_or counts (27 + h) 0) ≡ 0) → single_honours counts 7 ≡ 0
unfolding single_honours
no_honours counts each = no_sum (λ honour. single_over (get_or counts (27 + honour) 0)) 7 each

sums_of_sets : (counts : List ℕ) (number : ℕ) (sets : List Set) (pair : ℕ) → AreSetsAndPair counts number sets pair → HaveSums counts number
sums_of_sets counts number sets pair are = record {
  none =
      singles_are counts
      ∙ none (single_over (tiles_from counts 0 9)) (single_over (tiles_from counts 9 9)) (single_over (tiles_from counts 18 9)) (single_honours counts 7)
      (suit 0 (omega arith) refl) (suit 9 (omega arith) refl) (suit 18 (omega arith) refl) honours;
  total =
      tiles_of_sets counts number sets pair are 0 34 (omega arith) all_whole
      ∙ ap (λ n. 3 * n + 2 * cond (among 0 34 pair) 1 0) (all_sets sets are.concealed ∙ are.so_many)
      ∙ ap (λ (b : Bool). 3 * number + 2 * cond b 1 0) inside;
}
  where
    suit : (from : ℕ) → from + 9 ≤ 34 → from % 9 ≡ 0 → single_over (tiles_from counts from 9) ≡ 0
    suit from fits begins =
        none_over (tiles_from counts from 9) _ _ (tiles_of_sets counts number sets pair are from 9 fits (suit_whole from begins))

    honour : (h : ℕ) → h < 7 → single_over (get_or counts (27 + h) 0) ≡ 0
    honour h inside =
        ap single_over (sym (one_kind counts (27 + h)))
        ∙ none_over (tiles_from counts (27 + h) 1) _ _
        (tiles_of_sets counts number sets pair are (27 + h) 1 (omega (arith, inside)) (past_whole (27 + h) (omega arith)))

    honours : single_honours counts 7 ≡ 0
    honours = no_honours counts honour

    none : (a b c d : ℕ) → a ≡ 0 → b ≡ 0 → c ≡ 0 → d ≡ 0 → a + b + c + d ≡ 0
    none a b c d e f g h = omega (arith, e, f, g, h)

    inside : among 0 34 pair ≡ true
    inside = and_from (leb 0 pair) (ltb pair 34) (le-leb 0 pair (omega arith)) (lt-ltb pair 34 are.pair_kind)

-- Tiles without these sums are not sets and a pair.
pub not_sets : (counts : List ℕ) (number : ℕ) → length counts ≡ 34 → (singles counts ≡ 0 → tiles_from counts 0 34 ≡ 3 * number + 2 → ⊥) →
    has_way counts 0 0 0 number false ≡ false
not_sets counts number size off =
    false_from_ne_true (has_way counts 0 0 0 number false)
    (λ has.
    let found = has_way-are counts number size has in
    let sums = sums_of_sets counts number found.0 found.1 found.2 in
    off sums.none sums.total)

pub sums_say_no : (counts : List ℕ) (number over : ℕ) → length counts ≡ 34 → over ≡ singles counts → 0 < over →
    has_way counts 0 0 0 number false ≡ false
sums_say_no counts number over size are some = not_sets counts number size (λ none total. omega (arith, none, are, some))

pub total_says_no : (counts : List ℕ) (number tiles : ℕ) (result : Bool) → length counts ≡ 34 → tiles ≡ tiles_from counts 0 34 → result ≡ eqb tiles (3 * number + 2) →
    result ≡ false → has_way counts 0 0 0 number false ≡ false
total_says_no counts number tiles result size are is off =
    not_sets counts number size (λ none total. false≢true (sym (sym is ∙ off) ∙ eq-eqb tiles (3 * number + 2) (are ∙ total)))

-- One tile more of a kind: its suit has one more, and the others as many as before.
more_here : (counts : List ℕ) (kind from many : ℕ) → length counts ≡ 34 → kind < 34 → from ≤ kind → kind < from + many →
    tiles_from (one_more counts kind) from many ≡ tiles_from counts from many + 1
unfolding tiles_from
more_here counts kind from many size within low high =
    let there : from + (kind - from) ≡ kind = omega (arith, low) in
    let before : get_or counts (from + (kind - from)) 0 ≡ get_or counts kind 0 = ap (λ k. get_or counts k 0) there in
    let after : get_or (one_more counts kind) (from + (kind - from)) 0 ≡ get_or counts kind 0 + 1 =
    ap (λ k. get_or (one_more counts kind) k 0) there ∙ get_or-set_same counts kind (get_or counts kind 0 + 1) 0 (omega (arith, within, size)) in
    let moved : tiles_from (one_more counts kind) from many + get_or counts (from + (kind - from)) 0
    ≡ tiles_from counts from many + get_or (one_more counts kind) (from + (kind - from)) 0 =
    changed_sum (λ place. get_or (one_more counts kind) (from + place) 0) (λ place. get_or counts (from + place) 0) many (kind - from) (omega (arith, low, high))
    (λ i inside differ. get_or-set_other counts kind (from + i) (get_or counts kind 0 + 1) 0 (λ e. differ (omega (arith, e)))) in
    omega (arith, before, after, moved)

pub more_elsewhere : (counts : List ℕ) (kind from many : ℕ) → (kind < from) ⊎ (from + many ≤ kind) → tiles_from (one_more counts kind) from many ≡ tiles_from counts from many
unfolding tiles_from
more_elsewhere counts kind from many apart =
    same_sum (λ place. get_or (one_more counts kind) (from + place) 0) (λ place. get_or counts (from + place) 0) many
    (λ i inside. get_or-set_other counts kind (from + i) (get_or counts kind 0 + 1) 0 (differ apart i inside))
  where
    differ : (kind < from) ⊎ (from + many ≤ kind) → (i : ℕ) → i < many → from + i ≡ kind → ⊥
    differ (inl below) i inside e = omega (arith, e, below, inside)
    differ (inr past) i inside e = omega (arith, e, past, inside)

honours_stay : (counts : List ℕ) (kind : ℕ) → kind < 27 → single_honours (one_more counts kind) 7 ≡ single_honours counts 7
unfolding single_honours
honours_stay counts kind number =
    same_sum (λ honour. single_over (get_or (one_more counts kind) (27 + honour) 0)) (λ honour. single_over (get_or counts (27 + honour) 0)) 7
    (λ i inside. ap single_over (get_or-set_other counts kind (27 + i) (get_or counts kind 0 + 1) 0 (λ e. omega (arith, e, number))))

honour_moves : (counts : List ℕ) (kind : ℕ) → length counts ≡ 34 → kind < 34 → 27 ≤ kind →
    single_honours (one_more counts kind) 7 + single_over (get_or counts kind 0) ≡ single_honours counts 7 + single_over (get_or counts kind 0 + 1)
unfolding single_honours
honour_moves counts kind size within past =
    let there : 27 + (kind - 27) ≡ kind = omega (arith, past) in
    let before : single_over (get_or counts (27 + (kind - 27)) 0) ≡ single_over (get_or counts kind 0) = ap (λ k. single_over (get_or counts k 0)) there in
    let after : single_over (get_or (one_more counts kind) (27 + (kind - 27)) 0) ≡ single_over (get_or counts kind 0 + 1) =
    ap (λ k. single_over (get_or (one_more counts kind) k 0)) there
    ∙ ap single_over (get_or-set_same counts kind (get_or counts kind 0 + 1) 0 (omega (arith, within, size))) in
    let moved : single_honours (one_more counts kind) 7 + single_over (get_or counts (27 + (kind - 27)) 0)
    ≡ single_honours counts 7 + single_over (get_or (one_more counts kind) (27 + (kind - 27)) 0) =
    changed_sum (λ honour. single_over (get_or (one_more counts kind) (27 + honour) 0)) (λ honour. single_over (get_or counts (27 + honour) 0)) 7 (kind - 27)
    (omega (arith, past, within))
    (λ i inside differ. ap single_over (get_or-set_other counts kind (27 + i) (get_or counts kind 0 + 1) 0 (λ e. differ (omega (arith, e))))) in
    omega (arith, before, after, moved)

-- The suit of a kind by its number.
pub beside_characters : (counts : List ℕ) (kind : ℕ) → kind < 9 → tiles_beside counts kind ≡ tiles_from counts 0 9
unfolding tiles_beside
beside_characters counts kind first = rw (lt-ltb kind 9 first) refl

pub beside_dots : (counts : List ℕ) (kind : ℕ) → 9 ≤ kind → kind < 18 → tiles_beside counts kind ≡ tiles_from counts 9 9
unfolding tiles_beside
beside_dots counts kind past second = rw (le-ltb kind 9 past) (rw (lt-ltb kind 18 second) refl)

pub beside_bamboos : (counts : List ℕ) (kind : ℕ) → 18 ≤ kind → kind < 27 → tiles_beside counts kind ≡ tiles_from counts 18 9
unfolding tiles_beside
beside_bamboos counts kind past third =
    rw (le-ltb kind 9 (omega (arith, past))) (rw (le-ltb kind 18 past) (rw (lt-ltb kind 27 third) refl))

pub beside_honours : (counts : List ℕ) (kind : ℕ) → 27 ≤ kind → tiles_beside counts kind ≡ get_or counts kind 0
unfolding tiles_beside
beside_honours counts kind past =
    rw (le-ltb kind 9 (omega (arith, past))) (rw (le-ltb kind 18 (omega (arith, past))) (rw (le-ltb kind 27 past) refl))

-- How one tile more of a kind changes what is over.
pub singles_move : (counts : List ℕ) (kind : ℕ) → length counts ≡ 34 → kind < 34 →
    singles (one_more counts kind) + single_over (tiles_beside counts kind) ≡ singles counts + single_over (tiles_beside counts kind + 1)
singles_move counts kind size within = at (cases_lt kind 9) (cases_lt kind 18) (cases_lt kind 27)
  where
    -- of four sums one changes, and the others stay
    first : (s s2 a b c d a2 b2 c2 d2 t t2 : ℕ) → s ≡ a + b + c + d → s2 ≡ a2 + b2 + c2 + d2 → b2 ≡ b → c2 ≡ c → d2 ≡ d → a ≡ t → a2 ≡ t2 → s2 + t ≡ s + t2
    first s s2 a b c d a2 b2 c2 d2 t t2 e f g h i j k = omega (arith, e, f, g, h, i, j, k)

    second : (s s2 a b c d a2 b2 c2 d2 t t2 : ℕ) → s ≡ a + b + c + d → s2 ≡ a2 + b2 + c2 + d2 → a2 ≡ a → c2 ≡ c → d2 ≡ d → b ≡ t → b2 ≡ t2 → s2 + t ≡ s + t2
    second s s2 a b c d a2 b2 c2 d2 t t2 e f g h i j k = omega (arith, e, f, g, h, i, j, k)

    third : (s s2 a b c d a2 b2 c2 d2 t t2 : ℕ) → s ≡ a + b + c + d → s2 ≡ a2 + b2 + c2 + d2 → a2 ≡ a → b2 ≡ b → d2 ≡ d → c ≡ t → c2 ≡ t2 → s2 + t ≡ s + t2
    third s s2 a b c d a2 b2 c2 d2 t t2 e f g h i j k = omega (arith, e, f, g, h, i, j, k)

    fourth : (s s2 a b c d a2 b2 c2 d2 t t2 : ℕ) → s ≡ a + b + c + d → s2 ≡ a2 + b2 + c2 + d2 → a2 ≡ a → b2 ≡ b → c2 ≡ c → d2 + t ≡ d + t2 → s2 + t ≡ s + t2
    fourth s s2 a b c d a2 b2 c2 d2 t t2 e f g h i j = omega (arith, e, f, g, h, i, j)

    stays : (from : ℕ) → (kind < from) ⊎ (from + 9 ≤ kind) → single_over (tiles_from (one_more counts kind) from 9) ≡ single_over (tiles_from counts from 9)
    stays from apart = ap single_over (more_elsewhere counts kind from 9 apart)

    moves : (from : ℕ) → from ≤ kind → kind < from + 9 → tiles_beside counts kind ≡ tiles_from counts from 9 →
        single_over (tiles_from (one_more counts kind) from 9) ≡ single_over (tiles_beside counts kind + 1)
    moves from low high beside = ap single_over (more_here counts kind from 9 size within low high) ∙ ap (λ n. single_over (n + 1)) (sym beside)

    at : (kind < 9) ⊎ (9 ≤ kind) → (kind < 18) ⊎ (18 ≤ kind) → (kind < 27) ⊎ (27 ≤ kind) →
        singles (one_more counts kind) + single_over (tiles_beside counts kind) ≡ singles counts + single_over (tiles_beside counts kind + 1)
    at (inl below) y z =
        let beside = beside_characters counts kind below in
        first _ _ _ _ _ _ _ _ _ _ _ _ (singles_are counts) (singles_are (one_more counts kind))
        (stays 9 (inl below)) (stays 18 (inl (omega (arith, below)))) (honours_stay counts kind (omega (arith, below)))
        (ap single_over (sym beside)) (moves 0 (omega arith) (omega (arith, below)) beside)
    at (inr past) (inl below) z =
        let beside = beside_dots counts kind past below in
        second _ _ _ _ _ _ _ _ _ _ _ _ (singles_are counts) (singles_are (one_more counts kind))
        (stays 0 (inr (omega (arith, past)))) (stays 18 (inl below)) (honours_stay counts kind (omega (arith, below)))
        (ap single_over (sym beside)) (moves 9 past (omega (arith, below)) beside)
    at (inr one) (inr past) (inl below) =
        let beside = beside_bamboos counts kind past below in
        third _ _ _ _ _ _ _ _ _ _ _ _ (singles_are counts) (singles_are (one_more counts kind))
        (stays 0 (inr (omega (arith, one)))) (stays 9 (inr (omega (arith, past)))) (honours_stay counts kind below)
        (ap single_over (sym beside)) (moves 18 past (omega (arith, below)) beside)
    at (inr one) (inr two) (inr past) =
        let beside = beside_honours counts kind past in
        fourth _ _ _ _ _ _ _ _ _ _ _ _ (singles_are counts) (singles_are (one_more counts kind))
        (stays 0 (inr (omega (arith, one)))) (stays 9 (inr (omega (arith, two)))) (stays 18 (inr (omega (arith, past))))
        (ap (λ n. single_honours (one_more counts kind) 7 + single_over n) beside
        ∙ honour_moves counts kind size within past
        ∙ ap (λ n. single_honours counts 7 + single_over (n + 1)) (sym beside))

at_most_one : (tiles : ℕ) → single_over tiles ≤ 1
unfolding single_over
at_most_one tiles = small (eqb (tiles % 3) 1)
  where
    small : (b : Bool) → cond b 1 0 ≤ 1
    small true = omega arith
    small false = omega arith

-- One tile more takes away at most one of them.
pub singles_stay : (counts : List ℕ) (kind : ℕ) → length counts ≡ 34 → kind < 34 → singles counts ≤ singles (one_more counts kind) + 1
singles_stay counts kind size within = omega (arith, singles_move counts kind size within, at_most_one (tiles_beside counts kind))

-- And it adds at most one.
pub singles_grow : (counts : List ℕ) (kind : ℕ) → length counts ≡ 34 → kind < 34 → singles (one_more counts kind) ≤ singles counts + 1
singles_grow counts kind size within = omega (arith, singles_move counts kind size within, at_most_one (tiles_beside counts kind + 1))

-- The characters from two to eight: one tile more is at most one of these, and where there are some, one of the kinds is held.
pub middle_grows : (counts : List ℕ) (kind : ℕ) → length counts ≡ 34 → kind < 34 → tiles_from (one_more counts kind) 1 7 ≤ tiles_from counts 1 7 + 1
middle_grows counts kind size within = at (cases_lt kind 1) (cases_lt kind 8)
  where
    at : (kind < 1) ⊎ (1 ≤ kind) → (kind < 8) ⊎ (8 ≤ kind) → tiles_from (one_more counts kind) 1 7 ≤ tiles_from counts 1 7 + 1
    at (inl below) z = omega (arith, more_elsewhere counts kind 1 7 (inl below))
    at (inr past) (inl below) = omega (arith, more_here counts kind 1 7 size within past (omega (arith, below)))
    at (inr past) (inr over) = omega (arith, more_elsewhere counts kind 1 7 (inr (omega (arith, over))))

some_of_sum : (f : ℕ → ℕ) (n : ℕ) → 0 < sum_below f n → (i : ℕ) × ((i < n) × (0 < f i))
unfolding sum_below
some_of_sum f zero some = absurd (omega (arith, some))
some_of_sum f (suc n) some = split (cases_lt 0 (f n)) (some_of_sum f n)
  where
    split : (0 < f n) ⊎ (f n ≤ 0) → (0 < sum_below f n → (i : ℕ) × ((i < n) × (0 < f i))) → (i : ℕ) × ((i < suc n) × (0 < f i))
    split (inl here) rest = (n, (omega arith, here))
    split (inr none) rest = (let found = rest (omega (arith, some, none)) in (found.0, (omega (arith, found.1.0), found.1.1)))

pub held_middle : (counts : List ℕ) → 0 < tiles_from counts 1 7 → (held : ℕ) × ((0 < held) × ((held < 8) × (0 < get_or counts held 0)))
unfolding tiles_from
held_middle counts some =
    let found = some_of_sum (λ place. get_or counts (1 + place) 0) 7 some in
    (1 + found.0, (omega arith, (omega (arith, found.1.0), found.1.1)))

-- By what is over beside the kind: nothing, one tile, or two.
over_is : (tiles : ℕ) → tiles % 3 ≡ 1 → single_over tiles ≡ 1
unfolding single_over
over_is tiles one = ap (λ (b : Bool). cond b 1 0) (eq-eqb (tiles % 3) 1 one)

over_not : (tiles : ℕ) → (tiles % 3 ≡ 1 → ⊥) → single_over tiles ≡ 0
unfolding single_over
over_not tiles other = ap (λ (b : Bool). cond b 1 0) (ne_eqb (tiles % 3) 1 other)

pub takes_none : (counts : List ℕ) (kind : ℕ) → length counts ≡ 34 → kind < 34 → tiles_beside counts kind % 3 ≡ 0 → false ≡ eqb (singles (one_more counts kind)) 0
takes_none counts kind size within none =
    sym (ne_eqb (singles (one_more counts kind)) 0
    (λ e. omega (arith, e, singles_move counts kind size within, over_not (tiles_beside counts kind) (λ o. omega (arith, o, none)), over_is (tiles_beside counts kind + 1) (omega (arith, none)))))

pub takes_one : (counts : List ℕ) (kind many : ℕ) → length counts ≡ 34 → kind < 34 → many ≡ singles counts → tiles_beside counts kind % 3 ≡ 1 →
    eqb many 1 ≡ eqb (singles (one_more counts kind)) 0
takes_one counts kind many size within are one =
    either many (singles (one_more counts kind))
    (omega (arith, are, singles_move counts kind size within, over_is (tiles_beside counts kind) one, over_not (tiles_beside counts kind + 1) (λ o. omega (arith, o, one))))
  where
    either : (many next : ℕ) → next + 1 ≡ many → eqb many 1 ≡ eqb next 0
    either many next e = grind (arith, nat_tests)

pub takes_two : (counts : List ℕ) (kind many : ℕ) → length counts ≡ 34 → kind < 34 → many ≡ singles counts → (tiles_beside counts kind % 3 ≡ 0 → ⊥) →
    (tiles_beside counts kind % 3 ≡ 1 → ⊥) → eqb many 0 ≡ eqb (singles (one_more counts kind)) 0
takes_two counts kind many size within are some more =
    ap (λ n. eqb n 0)
    (omega (arith, are, singles_move counts kind size within, over_not (tiles_beside counts kind) more, over_not (tiles_beside counts kind + 1) (λ o. some (omega (arith, o)))))
