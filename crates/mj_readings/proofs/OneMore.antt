-- Which kinds complete a hand, and why others do not.
use Rattle.std.proofs.Common.{ℕ, ◌≡◌, ◌<◌, ◌≤◌, ◌+◌, ◌-◌, ◌∷◌, [], Bool, true, false, cond, List, length, get_or, set, length-set, get_or-set_same, get_or-set_other}
use Rattle.std.proofs.Common.{refl, sym, ◌∙◌, ap, arith, eqb, leb, ltb, zero, suc, Option, Some, None, ◌⊎◌, inl, inr, ◌&&◌, ◌||◌}
use Rattle.std.specs.List.{list_all, list_any, count_by}
use Rattle.std.specs.Option.{is_some}
use Rattle.std.specs.Prelude.{not}
use Rattle.std.proofs.lemmas.Bool.{and_parts, and_from, and_left, and_right, or_from, lt-ltb, ltb-true}
use Rattle.std.proofs.lemmas.Bool.{eqb-true, eq-eqb, or_left, false≢true, ne_eqb, cases_eq, cases_lt, false_from_ne_true}
use Rattle.std.proofs.lemmas.Bool.Decides.{nat_tests}
use Rattle.std.proofs.lemmas.Grind.{common_steps}
use Rattle.std.proofs.lemmas.List.{set_past}
use Rattle.mj_tiles.specs.Counts.{IsCounts, all_kinds}
use Rattle.mj_tiles.specs.Kinds.{has_kind, no_kinds, kinds_that}
use Rattle.mj_tiles.proofs.EachKind.{no_kind}
use Rattle.mj_tiles.proofs.KindSets.{has_kind-kinds_that, has_kind-none}
use Rattle.mj_tiles.specs.Terminals.{is_terminal_or_honour}
use Rattle.mj_readings.specs.Complete.{is_seven_pairs, orphan_number}
use Rattle.mj_readings.specs.Inner.Ways.{has_way}
use Rattle.mj_readings.specs.Tests.{complete, one_more, orphan_double}
use Rattle.mj_readings.specs.Completing.{IsCompleting, is_completing}
use Rattle.mj_readings.specs.Inner.OneMore.{NoSpecial}
use Rattle.mj_readings.specs.Inner.Sums.{singles}
use Rattle.mj_readings.proofs.KindsBelow.{no_kinds-that}
use Rattle.mj_readings.proofs.SumLaws.{not_sets, singles_stay}
use Rattle.mj_readings.proofs.Orphans.{orphan_count, orphan_double-are}
use Rattle.mj_readings.proofs.Laws.{complete-are, are-complete, counts-one_more}

-- A hand that lacks one tile to be seven pairs has at most one single tile.
no_single : (counts : List ℕ) → list_all (λ n. eqb n 0 || eqb n 2) counts ≡ true → count_by (λ n. eqb n 1) counts ≡ 0
no_single [] all = refl
no_single (count ∷ others) all =
    let parts = and_parts (eqb count 0 || eqb count 2) (list_all (λ n. eqb n 0 || eqb n 2) others) all in
    grind (arith, nat_tests, common_steps, parts.0, no_single others parts.1)

few_singles : (counts : List ℕ) (kind n : ℕ) → list_all (λ n. eqb n 0 || eqb n 2) (set counts kind n) ≡ true → count_by (λ n. eqb n 1) counts ≤ 1
few_singles [] kind n all = omega arith
few_singles (count ∷ others) zero n all =
    let parts = and_parts (eqb n 0 || eqb n 2) (list_all (λ n. eqb n 0 || eqb n 2) others) all in
    grind (arith, nat_tests, common_steps, no_single others parts.1)
few_singles (count ∷ others) (suc kind) n all =
    let parts = and_parts (eqb count 0 || eqb count 2) (list_all (λ n. eqb n 0 || eqb n 2) (set others kind n)) all in
    grind (arith, nat_tests, common_steps, parts.0, few_singles others kind n parts.1)

no_pairs : (counts : List ℕ) (kind : ℕ) → 1 < count_by (λ n. eqb n 1) counts → is_seven_pairs (one_more counts kind) ≡ false
unfolding is_seven_pairs
no_pairs counts kind many =
    and_left (list_all (λ n. eqb n 0 || eqb n 2) (one_more counts kind)) (eqb (count_by (λ n. eqb n 2) (one_more counts kind)) 7)
    (false_from_ne_true (list_all (λ n. eqb n 0 || eqb n 2) (one_more counts kind))
    (λ all. omega (arith, many, few_singles counts kind (get_or counts kind 0 + 1) all)))

-- A hand with a tile that is no terminal or honour is never one tile from thirteen orphans.
middle : (held : ℕ) → 0 < held → held < 8 → is_terminal_or_honour held ≡ false
unfolding is_terminal_or_honour
middle held low high = grind (arith, nat_tests)

not_less : (counts : List ℕ) (kind held : ℕ) → 0 < get_or counts held 0 → 0 < get_or (one_more counts kind) held 0
not_less counts kind held some = at (cases_eq held kind) (cases_lt kind (length counts))
  where
    at : (held ≡ kind) ⊎ (held ≡ kind → ⊥) → (kind < length counts) ⊎ (length counts ≤ kind) → 0 < get_or (one_more counts kind) held 0
    at (inl same) (inl inside) = rw same (rw (get_or-set_same counts kind (get_or counts kind 0 + 1) 0 inside) (omega arith))
    at (inl same) (inr past) = rw (set_past counts kind (get_or counts kind 0 + 1) past) some
    at (inr differ) size = rw (get_or-set_other counts kind held (get_or counts kind 0 + 1) 0 differ) some

no_orphans : (counts : List ℕ) (kind held : ℕ) → 0 < held → held < 8 → 0 < get_or counts held 0 → is_some (orphan_double (one_more counts kind)) ≡ false
no_orphans counts kind held low high some = split (orphan_double (one_more counts kind)) refl
  where
    split : (double : Option ℕ) → orphan_double (one_more counts kind) ≡ double → is_some double ≡ false
    split None is = refl
    split (Some double) is =
        let number = orphan_count (one_more counts kind) double held (omega (arith, high)) (orphan_double-are (one_more counts kind) double is) in
        let zero : orphan_number double held ≡ 0 = ap (λ b. cond b (cond (eqb held double) 2 1) 0) (middle held low high) in
        absurd (omega (arith, number, zero, not_less counts kind held some))

pub no_special : (counts : List ℕ) (melds held : ℕ) → 1 < count_by (λ n. eqb n 1) counts →
    0 < held → held < 8 → 0 < get_or counts held 0 → NoSpecial counts melds
no_special counts melds held many low high some kind within =
    and_right (eqb melds 0) (is_seven_pairs (one_more counts kind) || is_some (orphan_double (one_more counts kind)))
    (or_from (is_seven_pairs (one_more counts kind)) (is_some (orphan_double (one_more counts kind))) (no_pairs counts kind many) (no_orphans counts kind held low high some))

pub no_special-melds : (counts : List ℕ) (melds : ℕ) → 0 < melds → NoSpecial counts melds
no_special-melds counts melds some kind within =
    and_left (eqb melds 0) (is_seven_pairs (one_more counts kind) || is_some (orphan_double (one_more counts kind))) (ne_eqb melds 0 (λ e. omega (arith, e, some)))

-- A kind that makes the hand neither sets and a pair nor another complete hand.
pub neither : (counts : List ℕ) (melds kind : ℕ) → NoSpecial counts melds → kind < 34 → has_way (one_more counts kind) 0 0 0 (4 - melds) false ≡ false →
    is_completing counts melds kind ≡ false
unfolding complete
neither counts melds kind special within none =
    and_right (ltb (get_or counts kind 0) 4) _ (or_from _ _ (and_right (leb melds 4) _ none) (special kind within))

-- Sums by which a kind makes the hand no sets and a pair, and by which none does.
pub sums_refuse : (counts : List ℕ) (melds kind : ℕ) (takes : Bool) → length counts ≡ 34 → takes ≡ eqb (singles (one_more counts kind)) 0 → takes ≡ false →
    false ≡ (leb melds 4 && has_way (one_more counts kind) 0 0 0 (4 - melds) false)
sums_refuse counts melds kind takes size is off =
    sym (and_right (leb melds 4) _
    (not_sets (one_more counts kind) (4 - melds) (length-set counts kind (get_or counts kind 0 + 1) ∙ size)
    (λ none total. false≢true (sym (sym is ∙ off) ∙ eq-eqb (singles (one_more counts kind)) 0 none))))

pub sums_refuse_all : (counts : List ℕ) (melds kinds many : ℕ) (has : Bool) → length counts ≡ 34 → NoSpecial counts melds → many ≡ singles counts →
    has ≡ ltb 1 many → has ≡ true → kinds ≡ no_kinds → kinds ≡ kinds_that (is_completing counts melds)
sums_refuse_all counts melds kinds many has size special are is some none =
    none ∙ no_kinds-that (is_completing counts melds)
    (λ kind within. neither counts melds kind special within
    (not_sets (one_more counts kind) (4 - melds) (length-set counts kind (get_or counts kind 0 + 1) ∙ size)
    (λ fits total. omega (arith, fits, are, ltb-true 1 many (sym is ∙ some), singles_stay counts kind size within))))

-- No kind of an empty set completes a hand, and none of any where the sums refuse all.
pub none_among : (counts : List ℕ) (melds among : ℕ) (empty : Bool) → empty ≡ eqb among no_kinds → empty ≡ true →
    false ≡ list_any (λ kind. has_kind among kind && is_completing counts melds kind) all_kinds
none_among counts melds among empty is holds =
    sym (no_kind (λ kind. has_kind among kind && is_completing counts melds kind)
    (λ kind within. and_left (has_kind among kind) (is_completing counts melds kind)
    (ap (λ ks. has_kind ks kind) (eqb-true among no_kinds (sym is ∙ holds)) ∙ has_kind-none kind)))

pub sums_refuse_among : (counts : List ℕ) (melds among many : ℕ) (has : Bool) → length counts ≡ 34 → NoSpecial counts melds → many ≡ singles counts →
    has ≡ ltb 1 many → has ≡ true → false ≡ list_any (λ kind. has_kind among kind && is_completing counts melds kind) all_kinds
sums_refuse_among counts melds among many has size special are is some =
    sym (no_kind (λ kind. has_kind among kind && is_completing counts melds kind)
    (λ kind within. and_right (has_kind among kind) (is_completing counts melds kind) (neither counts melds kind special within
    (not_sets (one_more counts kind) (4 - melds) (length-set counts kind (get_or counts kind 0 + 1) ∙ size)
    (λ fits total. omega (arith, fits, are, ltb-true 1 many (sym is ∙ some), singles_stay counts kind size within))))))

-- A kind that makes the hand sets and a pair, and one that doesn't, where another complete hand is or isn't in question.
pub standard_yes : (counts : List ℕ) (melds kind : ℕ) (result : Bool) → get_or counts kind 0 < 4 →
    result ≡ (leb melds 4 && has_way (one_more counts kind) 0 0 0 (4 - melds) false) → result ≡ true → true ≡ is_completing counts melds kind
unfolding complete
standard_yes counts melds kind result few is holds =
    sym (and_from (ltb (get_or counts kind 0) 4) _ (lt-ltb (get_or counts kind 0) 4 few) (or_left _ _ (sym is ∙ holds)))

pub standard_no : (counts : List ℕ) (melds kind : ℕ) (result : Bool) → NoSpecial counts melds → kind < 34 →
    result ≡ (leb melds 4 && has_way (one_more counts kind) 0 0 0 (4 - melds) false) → result ≡ false → false ≡ is_completing counts melds kind
unfolding complete
standard_no counts melds kind result special within is off =
    sym (and_right (ltb (get_or counts kind 0) 4) _ (or_from _ _ (sym is ∙ off) (special kind within)))

pub special_asked : (counts : List ℕ) (melds kind : ℕ) (result other : Bool) → get_or counts kind 0 < 4 →
    result ≡ (leb melds 4 && has_way (one_more counts kind) 0 0 0 (4 - melds) false) → result ≡ false →
    other ≡ (eqb melds 0 && (is_seven_pairs (one_more counts kind) || is_some (orphan_double (one_more counts kind)))) → other ≡ is_completing counts melds kind
unfolding complete
special_asked counts melds kind result other few is off asked =
    asked
    ∙ sym (ap (λ b. b || (eqb melds 0 && (is_seven_pairs (one_more counts kind) || is_some (orphan_double (one_more counts kind))))) (sym is ∙ off))
    ∙ sym (ap (λ b. b && complete (one_more counts kind) melds) (lt-ltb (get_or counts kind 0) 4 few))

-- The test says what it is to complete the hand.
pub completing_law : (counts : List ℕ) (melds kinds : ℕ) → IsCounts counts → kinds ≡ kinds_that (is_completing counts melds) → (kind : ℕ) → kind < 34 →
    (has_kind kinds kind ≡ true → IsCompleting counts melds kind) × (IsCompleting counts melds kind → has_kind kinds kind ≡ true)
completing_law counts melds kinds are is kind within =
    let same : has_kind kinds kind ≡ is_completing counts melds kind =
    ap (λ ks. has_kind ks kind) is ∙ has_kind-kinds_that (is_completing counts melds) kind within in (
      λ test.
          let parts = and_parts (ltb (get_or counts kind 0) 4) (complete (one_more counts kind) melds) (sym same ∙ test) in
          let few = ltb-true (get_or counts kind 0) 4 parts.0 in
          (few, complete-are (one_more counts kind) melds (counts-one_more counts kind are few) parts.1),
      λ law. same ∙ and_from (ltb (get_or counts kind 0) 4) (complete (one_more counts kind) melds) (lt-ltb (get_or counts kind 0) 4 law.0)
          (are-complete (one_more counts kind) melds (counts-one_more counts kind are law.0) law.1),
    )

pub a_middle : (counts : List ℕ) (melds singles : ℕ) (middle : Bool) → singles ≡ count_by (λ n. eqb n 1) counts → 1 < singles →
    (middle ≡ true → (held : ℕ) × ((0 < held) × (held < 8) × (0 < get_or counts held 0))) → not middle ≡ false → NoSpecial counts melds
a_middle counts melds singles true are many held is =
    let found = held refl in no_special counts melds found.0 (omega (arith, are, many)) found.1.0 found.1.1 found.1.2
a_middle counts melds singles false are many held is = absurd (false≢true (sym is))
