-- Kinds that were missed, and what they say of furiten.
use Rattle.std.proofs.Common.{ℕ, ◌≡◌, ◌<◌, Bool, true, false, List, [], ◌∷◌, refl, sym, ◌∙◌, ap, arith, get_or, ltb, ◌&&◌, ◌||◌}
use Rattle.std.specs.List.{list_any}
use Rattle.std.proofs.lemmas.Bool.{false≢true, and_parts, and_from, or_left, or_right, false_from_ne_true, ltb-true, lt-ltb}
use Rattle.mj_tiles.specs.Counts.{NoFifth, all_kinds}
use Rattle.mj_tiles.specs.Kinds.{has_kind, kinds_that}
use Rattle.mj_tiles.proofs.EachKind.{any_kind, no_kind}
use Rattle.mj_tiles.proofs.KindSets.{has_kind-kinds_that}
use Rattle.mj_readings.specs.Tests.{complete, one_more}
use Rattle.mj_readings.specs.Completing.{is_completing}
use Rattle.mj_waits.specs.Waits.{is_wait}
use Rattle.mj_waits.specs.Furiten.{is_missed, is_furiten}

-- Some kind of three sets passes where some kind of one of them does.
any_of_three : (p q r test : ℕ → Bool) (kinds : List ℕ) →
    (list_any (λ kind. p kind && test kind) kinds || list_any (λ kind. q kind && test kind) kinds || list_any (λ kind. r kind && test kind) kinds)
    ≡ list_any (λ kind. (p kind || q kind || r kind) && test kind) kinds
any_of_three p q r test [] = refl
any_of_three p q r test (kind ∷ kinds) =
    step (p kind) (q kind) (r kind) (test kind) _ _ _ ∙ ap (λ b. (p kind || q kind || r kind) && test kind || b) (any_of_three p q r test kinds)
  where
    step : (p q r t a b c : Bool) → ((p && t || a) || (q && t || b) || (r && t || c)) ≡ ((p || q || r) && t || (a || b || c))
    step p q r t a b c = grind arith

-- Some kind of a set completes the hand, and some kind of three sets.
abbrev some_of : List ℕ → ℕ → ℕ → Bool
some_of counts melds set = list_any (λ kind. has_kind set kind && is_completing counts melds kind) all_kinds

abbrev some_of_three : List ℕ → ℕ → ℕ → ℕ → ℕ → Bool
some_of_three counts melds own passed since =
    list_any (λ kind. (has_kind own kind || has_kind passed kind || has_kind since kind) && is_completing counts melds kind) all_kinds

either : (counts : List ℕ) (melds own passed since : ℕ) →
    (some_of counts melds own || some_of counts melds passed || some_of counts melds since) ≡ some_of_three counts melds own passed since
either counts melds own passed since = any_of_three (has_kind own) (has_kind passed) (has_kind since) (is_completing counts melds) all_kinds

pub first_has : (counts : List ℕ) (melds own passed since : ℕ) (a : Bool) → a ≡ some_of counts melds own → a ≡ true → true ≡ some_of_three counts melds own passed since
first_has counts melds own passed since a is holds =
    sym
    (or_left (some_of counts melds own || some_of counts melds passed) (some_of counts melds since)
    (or_left (some_of counts melds own) (some_of counts melds passed) (sym is ∙ holds)))
    ∙ either counts melds own passed since

pub second_has : (counts : List ℕ) (melds own passed since : ℕ) (b : Bool) → b ≡ some_of counts melds passed → b ≡ true → true ≡ some_of_three counts melds own passed since
second_has counts melds own passed since b is holds =
    sym
    (or_left (some_of counts melds own || some_of counts melds passed) (some_of counts melds since)
    (or_right (some_of counts melds own) (some_of counts melds passed) (sym is ∙ holds)))
    ∙ either counts melds own passed since

pub third_decides : (counts : List ℕ) (melds own passed since : ℕ) (a b c : Bool) → a ≡ some_of counts melds own → a ≡ false → b ≡ some_of counts melds passed → b ≡ false →
    c ≡ some_of counts melds since → c ≡ some_of_three counts melds own passed since
third_decides counts melds own passed since a b c is lacks also misses last =
    last ∙ alone (some_of counts melds own) (some_of counts melds passed) (some_of counts melds since) (sym is ∙ lacks) (sym also ∙ misses) ∙ either counts melds own passed since
  where
    alone : (a b c : Bool) → a ≡ false → b ≡ false → c ≡ (a || b || c)
    alone a b c e f = rw (e, f) refl

-- Where no missed kind completes the hand, none of its waits was missed.
pub none_missed : (counts room : List ℕ) (melds own passed since : ℕ) (some : Bool) →
    some ≡ list_any (λ kind. (has_kind own kind || has_kind passed kind || has_kind since kind) && is_completing counts melds kind) all_kinds →
    some ≡ false → NoFifth room →
    is_furiten (record { waits = kinds_that (is_wait counts room melds); own = own; passed = passed; passed_in_riichi = since }) ≡ false
unfolding is_furiten
none_missed counts room melds own passed since some is none few =
    no_kind (is_missed (record { waits = kinds_that (is_wait counts room melds); own = own; passed = passed; passed_in_riichi = since }))
    (λ kind within. false_from_ne_true _ (λ missed. never kind within (and_parts (has_kind (kinds_that (is_wait counts room melds)) kind) (asked kind) missed)))
  where
    asked : ℕ → Bool
    asked kind = has_kind own kind || has_kind passed kind || has_kind since kind

    never : (kind : ℕ) → kind < 34 → (has_kind (kinds_that (is_wait counts room melds)) kind ≡ true) × (asked kind ≡ true) → ⊥
    never kind within parts =
        let wait = and_parts (ltb (get_or counts kind 0) (get_or room kind 0)) (complete (one_more counts kind) melds)
        (sym (has_kind-kinds_that (is_wait counts room melds) kind within) ∙ parts.0) in
        let below : get_or counts kind 0 < get_or room kind 0 = ltb-true (get_or counts kind 0) (get_or room kind 0) wait.0 in
        let completing : is_completing counts melds kind ≡ true =
        and_from (ltb (get_or counts kind 0) 4) (complete (one_more counts kind) melds) (lt-ltb (get_or counts kind 0) 4 (omega (arith, below, few kind))) wait.1 in
        false≢true
        (sym none ∙ is
        ∙ any_kind (λ kind. (has_kind own kind || has_kind passed kind || has_kind since kind) && is_completing counts melds kind) kind within
        (and_from (asked kind) (is_completing counts melds kind) parts.1 completing))
