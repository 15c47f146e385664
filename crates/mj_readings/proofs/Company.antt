-- A kind that is in no set and no pair with others completes no hand of sets and a pair.
use Rattle.std.proofs.Common.{ℕ, ◌≡◌, ◌<◌, ◌≤◌, ◌+◌, ◌-◌, ◌++◌, ◌∷◌, [], Bool, true, false, cond, List, length, length-set, get_or, get_or-set_same}
use Rattle.std.proofs.Common.{get_or-set_other, refl, sym, ◌∙◌, ap, arith, eqb, leb, ltb, zero, suc, ◌⊎◌, inl, inr, ◌&&◌, ◌||◌}
use Rattle.std.specs.List.{list_all, count_by, flat_map}
use Rattle.std.proofs.lemmas.Bool.{and_parts, and_right, or_left, false_from_ne_true, false≢true, cases_lt, cases_eq, lt-ltb}
use Rattle.std.proofs.lemmas.Bool.Decides.{nat_tests}
use Rattle.mj_readings.specs.declared.reading.Set.{Set}
use Rattle.mj_readings.specs.declared.reading.SetForm.{SetForm}
use Rattle.mj_readings.specs.declared.reading.SetForm.TheVariants.{Run, Triplet, Kan}
use Rattle.mj_readings.specs.Sets.{tiles_of_set, tiles_of_form, is_concealed, is_concealed_form, begins_run}
use Rattle.mj_readings.specs.Complete.{AreSetsAndPair}
use Rattle.mj_readings.specs.Tests.{one_more}
use Rattle.mj_readings.specs.Inner.OneMore.{has_company}
use Rattle.mj_readings.specs.Inner.Ways.{has_way}
use Rattle.mj_readings.proofs.Laws.{get_or-tally, has_way-are, sets_and_pair}
use Rattle.mj_readings.proofs.SumLaws.{run_low, concealed_form}
use Rattle.mj_readings.proofs.Tiles.{in_set, number_at, in_triplet, run_tiles, run_at_place}

-- A run with a kind that has at least one of each of its tiles among some sets.
record RunWith (kind : ℕ) (sets : List Set) : Type 0 where
  low : ℕ
  begins : begins_run low ≡ true
  from : low ≤ kind
  to : kind ≤ low + 2
  each : (j : ℕ) → j ≤ 2 → 0 < number_at (low + j) sets

past_run : (low kind : ℕ) → low + 2 < kind → count_by (λ tile. eqb tile kind) (tiles_of_form Run low) ≡ 0
past_run low kind past = grind (arith, nat_tests)

before_run : (low kind : ℕ) → kind < low → count_by (λ tile. eqb tile kind) (tiles_of_form Run low) ≡ 0
before_run low kind before = grind (arith, nat_tests)

of_run : (low j : ℕ) → j ≤ 2 → 0 < count_by (λ tile. eqb tile (low + j)) (tiles_of_form Run low)
of_run low j few = omega (arith, run_at_place low j, some j few)
  where
    some : (j : ℕ) → j ≤ 2 → run_tiles j ≡ 1
    some zero few = refl
    some (suc zero) few = refl
    some (suc (suc zero)) few = refl
    some (suc (suc (suc j))) few = absurd (omega (arith, few))

-- A kind that stands once in sets is in a run.
run_with : (kind : ℕ) (sets : List Set) → list_all is_concealed sets ≡ true → number_at kind sets ≡ 1 → RunWith kind sets
run_with kind [] each one = absurd (omega (arith, one))
run_with kind (set ∷ others) each one = split (cases_lt 0 (in_set kind set)) (λ rest. run_with kind others parts.1 rest)
  where
    parts : (is_concealed set ≡ true) × (list_all is_concealed others ≡ true)
    parts = and_parts (is_concealed set) (list_all is_concealed others) each

    here : (form : SetForm) (low : ℕ) → is_concealed_form form low ≡ true → 0 < count_by (λ tile. eqb tile kind) (tiles_of_form form low) →
        count_by (λ tile. eqb tile kind) (tiles_of_form form low) ≤ 1 →
        ((k : ℕ) → count_by (λ tile. eqb tile k) (tiles_of_form form low) ≤ number_at k (set ∷ others)) → RunWith kind (set ∷ others)
    here Run low begins some few more = record {
      low = low;
      begins = begins;
      from = from (cases_lt kind low);
      to = to (cases_lt (low + 2) kind);
      each = λ j near. omega (arith, of_run low j near, more (low + j));
    }
      where
        from : (kind < low) ⊎ (low ≤ kind) → low ≤ kind
        from (inl before) = absurd (omega (arith, before_run low kind before, some))
        from (inr is) = is

        to : (low + 2 < kind) ⊎ (kind ≤ low + 2) → kind ≤ low + 2
        to (inl past) = absurd (omega (arith, past_run low kind past, some))
        to (inr is) = is
    here Triplet low number some few more = absurd (omega (arith, in_triplet low kind, some, few))
    here Kan low none some few more = absurd (false≢true none)

    split : (0 < in_set kind set) ⊎ (in_set kind set ≤ 0) → (number_at kind others ≡ 1 → RunWith kind others) → RunWith kind (set ∷ others)
    split (inl some) go = here set.form set.low (concealed_form set parts.0) some (omega (arith, one)) (λ k. omega arith)
    split (inr none) go =
        let rest = go (omega (arith, one, none)) in
        record { low = rest.low; begins = rest.begins; from = rest.from; to = rest.to; each = λ j few. omega (arith, rest.each j few) }

-- How often a kind stands in sets and a pair.
pub number_of : (counts : List ℕ) (number : ℕ) (sets : List Set) (pair kind : ℕ) → AreSetsAndPair counts number sets pair → kind < 34 →
    number_at kind sets + cond (eqb pair kind) 2 0 ≡ get_or counts kind 0
number_of counts number sets pair kind are within =
    sym (sets_and_pair sets pair kind) ∙ sym (get_or-tally (flat_map tiles_of_set sets ++ pair ∷ pair ∷ []) kind within) ∙ ap (λ ns. get_or ns kind 0) are.tiles

-- A kind that wasn't held is in a run whose other kinds were.
record HeldRun (counts : List ℕ) (kind : ℕ) : Type 0 where
  low : ℕ
  begins : begins_run low ≡ true
  from : low ≤ kind
  to : kind ≤ low + 2
  held : (other : ℕ) → low ≤ other → other ≤ low + 2 → (other ≡ kind → ⊥) → 0 < get_or counts other 0

held_run : (counts : List ℕ) (kind number : ℕ) (sets : List Set) (pair : ℕ) → length counts ≡ 34 → kind < 34 → get_or counts kind 0 ≡ 0 →
    AreSetsAndPair (one_more counts kind) number sets pair → HeldRun counts kind
held_run counts kind number sets pair size within none are = record {
  low = run.low;
  begins = run.begins;
  from = run.from;
  to = run.to;
  held = λ other low high differ. beside other low high differ (number_of (one_more counts kind) number sets pair other are (omega (arith, high, (run_low run.low run.begins).0)));
}
  where
    no_pair : (b : Bool) (n : ℕ) → n + cond b 2 0 ≡ 1 → n ≡ 1
    no_pair true n e = absurd (omega (arith, e))
    no_pair false n e = omega (arith, e)

    once : get_or (one_more counts kind) kind 0 ≡ 1
    once = get_or-set_same counts kind (get_or counts kind 0 + 1) 0 (omega (arith, within, size)) ∙ ap (λ n. n + 1) none

    run : RunWith kind sets
    run = run_with kind sets are.concealed (no_pair (eqb pair kind) (number_at kind sets) (number_of (one_more counts kind) number sets pair kind are within ∙ once))

    beside : (other : ℕ) → run.low ≤ other → other ≤ run.low + 2 → (other ≡ kind → ⊥) →
        number_at other sets + cond (eqb pair other) 2 0 ≡ get_or (one_more counts kind) other 0 → 0 < get_or counts other 0
    beside other low high differ is =
        let there : run.low + (other - run.low) ≡ other = omega (arith, low) in
        let some : 0 < number_at (run.low + (other - run.low)) sets = run.each (other - run.low) (omega (arith, high)) in
        let same : number_at (run.low + (other - run.low)) sets ≡ number_at other sets = ap (λ k. number_at k sets) there in
        let stays : get_or (one_more counts kind) other 0 ≡ get_or counts other 0 = get_or-set_other counts kind other (get_or counts kind 0 + 1) 0 differ in
        omega (arith, some, same, is, stays)

-- Such a run is company.
run_is_company : (counts : List ℕ) (kind : ℕ) → HeldRun counts kind → has_company counts kind ≡ true
unfolding has_company
run_is_company counts kind run = at (cases_eq run.low kind) (cases_eq (run.low + 1) kind)
  where
    below : ltb kind 27 ≡ true
    below = lt-ltb kind 27 (let r = run_low run.low run.begins in omega (arith, r.0, r.1, run.to))

    held : (other : ℕ) → run.low ≤ other → other ≤ run.low + 2 → (other ≡ kind → ⊥) → ltb 0 (get_or counts other 0) ≡ true
    held other low high differ = lt-ltb 0 (get_or counts other 0) (run.held other low high differ)

    first : (h k a z b c o d : Bool) → k ≡ true → a ≡ true → c ≡ true → (h || k && (a && (z && b || c) || o && b && d)) ≡ true
    first h k a z b c o d e f g = grind arith

    second : (h k a z b c o d : Bool) → k ≡ true → a ≡ true → z ≡ true → b ≡ true → (h || k && (a && (z && b || c) || o && b && d)) ≡ true
    second h k a z b c o d e f g i = grind arith

    third : (h k a z b c o d : Bool) → k ≡ true → o ≡ true → b ≡ true → d ≡ true → (h || k && (a && (z && b || c) || o && b && d)) ≡ true
    third h k a z b c o d e f g i = grind arith

    at : (run.low ≡ kind) ⊎ (run.low ≡ kind → ⊥) → (run.low + 1 ≡ kind) ⊎ (run.low + 1 ≡ kind → ⊥) →
        (ltb 0 (get_or counts kind 0)
        || ltb kind 27
        && (ltb 0 (get_or counts (kind + 1) 0) && (ltb 0 kind && ltb 0 (get_or counts (kind - 1) 0) || ltb 0 (get_or counts (kind + 2) 0))
        || ltb 1 kind && ltb 0 (get_or counts (kind - 1) 0) && ltb 0 (get_or counts (kind - 2) 0))) ≡ true
    at (inl is) other =
        first (ltb 0 (get_or counts kind 0)) (ltb kind 27) (ltb 0 (get_or counts (kind + 1) 0)) (ltb 0 kind) (ltb 0 (get_or counts (kind - 1) 0)) (ltb 0 (get_or counts (kind + 2) 0))
        (ltb 1 kind) (ltb 0 (get_or counts (kind - 2) 0)) below
        (held (kind + 1) (omega (arith, is)) (omega (arith, is)) (λ e. omega (arith, e)))
        (held (kind + 2) (omega (arith, is)) (omega (arith, is)) (λ e. omega (arith, e)))
    at (inr unlike) (inl is) =
        second (ltb 0 (get_or counts kind 0)) (ltb kind 27) (ltb 0 (get_or counts (kind + 1) 0)) (ltb 0 kind) (ltb 0 (get_or counts (kind - 1) 0)) (ltb 0 (get_or counts (kind + 2) 0))
        (ltb 1 kind) (ltb 0 (get_or counts (kind - 2) 0)) below
        (held (kind + 1) (omega (arith, is)) (omega (arith, is)) (λ e. omega (arith, e)))
        (lt-ltb 0 kind (omega (arith, is)))
        (held (kind - 1) (omega (arith, is)) (omega (arith, is)) (λ e. omega (arith, e, is)))
    at (inr unlike) (inr nor) =
        let is : run.low + 2 ≡ kind = omega (arith, run.from, run.to, unlike, nor) in
        third (ltb 0 (get_or counts kind 0)) (ltb kind 27) (ltb 0 (get_or counts (kind + 1) 0)) (ltb 0 kind) (ltb 0 (get_or counts (kind - 1) 0)) (ltb 0 (get_or counts (kind + 2) 0))
        (ltb 1 kind) (ltb 0 (get_or counts (kind - 2) 0)) below
        (lt-ltb 1 kind (omega (arith, is)))
        (held (kind - 1) (omega (arith, is)) (omega (arith, is)) (λ e. omega (arith, e, is)))
        (held (kind - 2) (omega (arith, is)) (omega (arith, is)) (λ e. omega (arith, e, is)))

held_is_company : (counts : List ℕ) (kind : ℕ) → 0 < get_or counts kind 0 → has_company counts kind ≡ true
unfolding has_company
held_is_company counts kind some = or_left (ltb 0 (get_or counts kind 0)) _ (lt-ltb 0 (get_or counts kind 0) some)

-- A kind without company makes the hand no sets and a pair.
pub lonely_refuse : (counts : List ℕ) (melds kind : ℕ) (company : Bool) → length counts ≡ 34 → kind < 34 → company ≡ has_company counts kind → company ≡ false →
    false ≡ (leb melds 4 && has_way (one_more counts kind) 0 0 0 (4 - melds) false)
lonely_refuse counts melds kind company size within is alone =
    sym (and_right (leb melds 4) _
    (false_from_ne_true (has_way (one_more counts kind) 0 0 0 (4 - melds) false)
    (λ has. split has (cases_lt 0 (get_or counts kind 0)))))
  where
    never : has_company counts kind ≡ true → ⊥
    never some = false≢true (sym alone ∙ is ∙ some)

    split : has_way (one_more counts kind) 0 0 0 (4 - melds) false ≡ true → (0 < get_or counts kind 0) ⊎ (get_or counts kind 0 ≤ 0) → ⊥
    split has (inl some) = never (held_is_company counts kind some)
    split has (inr none) =
        let found = has_way-are (one_more counts kind) (4 - melds) (length-set counts kind (get_or counts kind 0 + 1) ∙ size) has in
        never (run_is_company counts kind (held_run counts kind (4 - melds) found.0 found.1 size within (omega (arith, none)) found.2))
