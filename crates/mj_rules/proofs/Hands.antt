-- What the walks over the counts of a hand find.
use Rattle.std.proofs.Common.{◌≡◌, ℕ, zero, suc, ◌<◌, ◌≤◌, ◌⊎◌, inl, inr, Bool, true, false, refl, ap, sym, ◌∙◌, arith, get_or, ltb}
use Rattle.std.specs.List.{list_any}
use Rattle.std.proofs.lemmas.Bool.{false≢true, and_parts, and_from, ltb-true, lt-ltb}
use Rattle.mj_lists.proofs.Ranges.{below_or_here}
use Rattle.mj_tiles.specs.Counts.{all_kinds}
use Rattle.mj_tiles.proofs.EachKind.{any_kind, no_kind}
use Rattle.mj_readings.specs.Tests.{complete, one_more}
use Rattle.mj_readings.specs.AllReadings.{readings_of}
use Rattle.mj_readings.proofs.Laws.{complete-are, are-complete, counts-one_more}
use Rattle.mj_readings.proofs.ReadingLaws.{list_law}
use Rattle.mj_waits.specs.Waits.{IsWait, is_wait, is_ready}
use Rattle.mj_score.specs.Worth.{worth_of}
use Rattle.mj_score.proofs.BestScore.{worth_law}
use Rattle.mj_rules.specs.Hands.{CompleteIsFound, WaitsAreFound, ReadyIsFound, ReadingsAreFound, WorthIsFound}

pub complete_is_found : CompleteIsFound
complete_is_found counts melds are = (complete-are counts melds are, are-complete counts melds are)

pub waits_are_found : WaitsAreFound
waits_are_found counts room melds kind are few = (
  λ test.
      let parts = and_parts (ltb (get_or counts kind 0) (get_or room kind 0)) (complete (one_more counts kind) melds) test in
      let held = ltb-true (get_or counts kind 0) (get_or room kind 0) parts.0 in
      (held, complete-are (one_more counts kind) melds (counts-one_more counts kind are (below (get_or counts kind 0) (get_or room kind 0) held few)) parts.1),
  λ wait.
      and_from (ltb (get_or counts kind 0) (get_or room kind 0)) (complete (one_more counts kind) melds) (lt-ltb (get_or counts kind 0) (get_or room kind 0) wait.0)
      (are-complete (one_more counts kind) melds (counts-one_more counts kind are (below (get_or counts kind 0) (get_or room kind 0) wait.0 few)) wait.1),
)
  where
    below : (held room : ℕ) → held < room → room ≤ 4 → held < 4
    below held room h few = omega arith

-- Of the numbers below one some passes a test, or none does.
Finds : (ℕ → Bool) → ℕ → Type 0
Finds p n = ((k : ℕ) × ((k < n) × (p k ≡ true))) ⊎ ((k : ℕ) → k < n → p k ≡ false)

finds : (p : ℕ → Bool) (n : ℕ) → Finds p n
unfolding Finds
finds p zero = inr (λ k h. absurd (omega (arith, h)))
finds p (suc n) = with_it (p n) refl (finds p n)
  where
    fails : (k : ℕ) → p n ≡ false → ((j : ℕ) → j < n → p j ≡ false) → (k < n) ⊎ (k ≡ n) → p k ≡ false
    fails k e none (inl below) = none k below
    fails k e none (inr here) = ap p here ∙ e

    with_it : (b : Bool) → p n ≡ b → ((k : ℕ) × ((k < n) × (p k ≡ true))) ⊎ ((k : ℕ) → k < n → p k ≡ false) →
        ((k : ℕ) × ((k < suc n) × (p k ≡ true))) ⊎ ((k : ℕ) → k < suc n → p k ≡ false)
    with_it true e rest = inl (n, (omega arith, e))
    with_it false e (inl found) = inl (found.0, (omega (arith, found.1.0), found.1.1))
    with_it false e (inr none) = inr (λ k h. fails k e none (below_or_here k n (omega (arith, h))))

pub ready_is_found : ReadyIsFound
unfolding is_ready Finds
ready_is_found counts room melds are few = (
  λ test. found test (finds (is_wait counts room melds) 34),
  λ some. any_kind (is_wait counts room melds) some.0 some.1.0 ((waits_are_found counts room melds some.0 are (few some.0)).1 some.1.1),
)
  where
    found : list_any (is_wait counts room melds) all_kinds ≡ true → ((k : ℕ) × ((k < 34) × (is_wait counts room melds k ≡ true))) ⊎ ((k : ℕ) → k < 34 → is_wait counts room melds k ≡ false) →
        (kind : ℕ) × ((kind < 34) × IsWait counts room melds kind)
    found test (inl some) = (some.0, (some.1.0, (waits_are_found counts room melds some.0 are (few some.0)).0 some.1.1))
    found test (inr none) = absurd (false≢true (sym (no_kind (is_wait counts room melds) none) ∙ test))

pub readings_are_found : ReadingsAreFound
readings_are_found = list_law

pub worth_is_found : WorthIsFound
unfolding worth_of
worth_is_found counts melds winning case extra are =
    worth_law counts melds winning case extra (readings_of counts melds winning) (worth_of counts melds winning case extra) (list_law counts melds winning are) refl
