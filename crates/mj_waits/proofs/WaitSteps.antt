-- The waits, one kind after another.
use Rattle.std.proofs.Common.{ℕ, ◌≡◌, ◌<◌, ◌≤◌, ◌+◌, Bool, true, false, List, refl, sym, ◌∙◌, ap, subst, arith, get_or, ltb, eqb, zero, suc, ◌&&◌, ◌⊎◌, inl, inr}
use Rattle.std.specs.List.{list_any}
use Rattle.std.specs.Prelude.{not}
use Rattle.std.proofs.lemmas.Bool.{false≢true, and_parts, and_from, and_right, ltb-true, lt-ltb, eqb-true, eq-eqb, ne_eqb}
use Rattle.std.proofs.lemmas.Bool.Decides.{nat_tests}
use Rattle.mj_lists.proofs.Ranges.{below_or_here}
use Rattle.mj_tiles.specs.Kinds.{has_kind, with_kind, no_kinds, kinds_that}
use Rattle.mj_tiles.specs.Counts.{NoFifth, all_kinds}
use Rattle.mj_tiles.proofs.KindSets.{has_kind-kinds_that, has_kind-none}
use Rattle.mj_readings.proofs.KindsBelow.{kinds_below, kinds_below-none, kinds_below-yes, kinds_below-no, kinds_below-all, no_kinds-that}
use Rattle.mj_readings.specs.Tests.{complete, one_more}
use Rattle.mj_readings.specs.Completing.{IsCompleting, is_completing}
use Rattle.mj_waits.specs.Waits.{IsWait, is_wait, is_ready}
use Rattle.mj_tiles.proofs.EachKind.{any_kind, no_kind}

-- The kinds with room among those that complete the hand: no room is above four.
pub wait_value : (counts room : List ℕ) (melds completing kind : ℕ) (result : Bool) → completing ≡ kinds_that (is_completing counts melds) → kind < 34 →
    get_or room kind 0 ≤ 4 → result ≡ (ltb (get_or counts kind 0) (get_or room kind 0) && has_kind completing kind) → result ≡ is_wait counts room melds kind
wait_value counts room melds completing kind result are within few is =
    is
    ∙ ap (λ b. ltb (get_or counts kind 0) (get_or room kind 0) && b)
    (ap (λ ks. has_kind ks kind) are ∙ has_kind-kinds_that (is_completing counts melds) kind within)
    ∙ below_four (get_or counts kind 0) (get_or room kind 0) (complete (one_more counts kind) melds) few
  where
    below_four : (held room : ℕ) (b : Bool) → room ≤ 4 → (ltb held room && (ltb held 4 && b)) ≡ (ltb held room && b)
    below_four held room b few = grind (arith, nat_tests)

pub wait_law : (counts room : List ℕ) (melds completing kind : ℕ) (result : Bool) →
    ((k : ℕ) → k < 34 → (has_kind completing k ≡ true → IsCompleting counts melds k) × (IsCompleting counts melds k → has_kind completing k ≡ true)) →
    kind < 34 → get_or room kind 0 ≤ 4 → result ≡ (ltb (get_or counts kind 0) (get_or room kind 0) && has_kind completing kind) →
    (result ≡ true → IsWait counts room melds kind) × (IsWait counts room melds kind → result ≡ true)
wait_law counts room melds completing kind result law within few is = (
  λ test.
      let parts = and_parts (ltb (get_or counts kind 0) (get_or room kind 0)) (has_kind completing kind) (sym is ∙ test) in
      (ltb-true (get_or counts kind 0) (get_or room kind 0) parts.0, ((law kind within).0 parts.1).1),
  λ wait.
      is ∙ and_from (ltb (get_or counts kind 0) (get_or room kind 0)) (has_kind completing kind) (lt-ltb (get_or counts kind 0) (get_or room kind 0) wait.0)
      ((law kind within).1 (omega (arith, wait.0, few), wait.1)),
)

-- Where no kind completes the hand, none is a wait.
pub none_waits : (counts room : List ℕ) (melds completing : ℕ) (empty : Bool) → completing ≡ kinds_that (is_completing counts melds) →
    ((k : ℕ) → k < 34 → (has_kind completing k ≡ true → IsCompleting counts melds k) × (IsCompleting counts melds k → has_kind completing k ≡ true)) →
    NoFifth room → empty ≡ eqb completing no_kinds → empty ≡ true →
    (completing ≡ kinds_that (is_wait counts room melds))
    × ((k : ℕ) → k < 34 → (has_kind completing k ≡ true → IsWait counts room melds k) × (IsWait counts room melds k → has_kind completing k ≡ true))
none_waits counts room melds completing empty are law few is holds = (
  none ∙ no_kinds-that (is_wait counts room melds) (λ k within. sym (wait_value counts room melds completing k false are within (few k) (nothing k))),
  λ k within. (
    λ has. absurd (false≢true (sym (lacks k) ∙ has)),
    λ wait. absurd (false≢true ((wait_law counts room melds completing k false law within (few k) (nothing k)).1 wait)),
  ),
)
  where
    none : completing ≡ no_kinds
    none = eqb-true completing no_kinds (sym is ∙ holds)

    lacks : (k : ℕ) → has_kind completing k ≡ false
    lacks k = ap (λ ks. has_kind ks k) none ∙ has_kind-none k

    nothing : (k : ℕ) → false ≡ (ltb (get_or counts k 0) (get_or room k 0) && has_kind completing k)
    nothing k = sym (and_right (ltb (get_or counts k 0) (get_or room k 0)) (has_kind completing k) (lacks k))

-- The test says what a wait is.
abbrev pub Says : List ℕ → List ℕ → ℕ → ℕ → Type 0
Says counts room melds kind =
    (is_wait counts room melds kind ≡ true → IsWait counts room melds kind) × (IsWait counts room melds kind → is_wait counts room melds kind ≡ true)

pub record WaitsSoFar (counts room : List ℕ) (melds kinds n : ℕ) : Type 0 where
  pub set : kinds ≡ kinds_below (is_wait counts room melds) n
  pub says : (k : ℕ) → k < n → Says counts room melds k

pub says_of : (counts room : List ℕ) (melds kind : ℕ) (result : Bool) → result ≡ is_wait counts room melds kind →
    (result ≡ true → IsWait counts room melds kind) × (IsWait counts room melds kind → result ≡ true) → Says counts room melds kind
says_of counts room melds kind result value law = (λ test. law.0 (value ∙ test), λ wait. sym value ∙ law.1 wait)

says_more : (counts room : List ℕ) (melds n kind : ℕ) → ((k : ℕ) → k < n → Says counts room melds k) → kind ≡ n → Says counts room melds kind →
    (k : ℕ) → k < n + 1 → Says counts room melds k
says_more counts room melds n kind before here one k inside = split (below_or_here k n inside)
  where
    split : (k < n) ⊎ (k ≡ n) → Says counts room melds k
    split (inl below) = before k below
    split (inr same) = subst (Says counts room melds) (here ∙ sym same) one

pub waits-start : (counts room : List ℕ) (melds kinds : ℕ) → kinds ≡ no_kinds → WaitsSoFar counts room melds kinds 0
waits-start counts room melds kinds none = record { set = none ∙ kinds_below-none (is_wait counts room melds); says = λ k inside. absurd (omega (arith, inside)) }

pub waits-yes : (counts room : List ℕ) (melds kinds next n kind : ℕ) (result : Bool) → WaitsSoFar counts room melds kinds n → n < 34 → kind ≡ n →
    result ≡ is_wait counts room melds kind → (result ≡ true → IsWait counts room melds kind) × (IsWait counts room melds kind → result ≡ true) →
    result ≡ true → next ≡ with_kind kinds kind → WaitsSoFar counts room melds next (n + 1)
waits-yes counts room melds kinds next n kind result far within here value law is more = record {
  set =
      more ∙ ap (λ k. with_kind kinds k) here ∙ ap (λ ks. with_kind ks n) far.set
      ∙ kinds_below-yes (is_wait counts room melds) n within (ap (is_wait counts room melds) (sym here) ∙ sym value ∙ is);
  says = says_more counts room melds n kind far.says here (says_of counts room melds kind result value law);
}

pub waits-no : (counts room : List ℕ) (melds kinds next n kind : ℕ) (result : Bool) → WaitsSoFar counts room melds kinds n → kind ≡ n →
    result ≡ is_wait counts room melds kind → (result ≡ true → IsWait counts room melds kind) × (IsWait counts room melds kind → result ≡ true) →
    result ≡ false → next ≡ kinds → WaitsSoFar counts room melds next (n + 1)
waits-no counts room melds kinds next n kind result far here value law is more = record {
  set =
      more ∙ far.set
      ∙ kinds_below-no (is_wait counts room melds) n (ap (is_wait counts room melds) (sym here) ∙ sym value ∙ is);
  says = says_more counts room melds n kind far.says here (says_of counts room melds kind result value law);
}

pub waits-value : (counts room : List ℕ) (melds kinds n : ℕ) → WaitsSoFar counts room melds kinds n → n ≡ 34 → kinds ≡ kinds_that (is_wait counts room melds)
waits-value counts room melds kinds n far last =
    far.set ∙ ap (kinds_below (is_wait counts room melds)) last ∙ kinds_below-all (is_wait counts room melds)

pub waits-law : (counts room : List ℕ) (melds kinds n : ℕ) → WaitsSoFar counts room melds kinds n → n ≡ 34 → (kind : ℕ) → kind < 34 →
    (has_kind kinds kind ≡ true → IsWait counts room melds kind) × (IsWait counts room melds kind → has_kind kinds kind ≡ true)
waits-law counts room melds kinds n far last kind within =
    let has : has_kind kinds kind ≡ is_wait counts room melds kind =
    ap (λ ks. has_kind ks kind) (waits-value counts room melds kinds n far last) ∙ has_kind-kinds_that (is_wait counts room melds) kind within in
    let says = far.says kind (omega (arith, within, last)) in
    (λ test. says.0 (sym has ∙ test), λ wait. has ∙ says.1 wait)

each_below : (test : ℕ → Bool) (n : ℕ) → ((k : ℕ) → k < n → test k ≡ false) → test n ≡ false → (k : ℕ) → k < suc n → test k ≡ false
each_below test n none here k inside = at (below_or_here k n (omega (arith, inside)))
  where
    at : (k < n) ⊎ (k ≡ n) → test k ≡ false
    at (inl below) = none k below
    at (inr same) = ap test same ∙ here

-- Some number below one passes a test, or each fails it.
some_or_none : (test : ℕ → Bool) (n : ℕ) → ((k : ℕ) × ((k < n) × (test k ≡ true))) ⊎ ((k : ℕ) → k < n → test k ≡ false)
some_or_none test zero = inr (λ k inside. absurd (omega (arith, inside)))
some_or_none test (suc n) = step (some_or_none test n) (test n) refl
  where
    step : ((k : ℕ) × ((k < n) × (test k ≡ true))) ⊎ ((k : ℕ) → k < n → test k ≡ false) → (b : Bool) → test n ≡ b →
        ((k : ℕ) × ((k < suc n) × (test k ≡ true))) ⊎ ((k : ℕ) → k < suc n → test k ≡ false)
    step (inl found) b is = inl (found.0, (omega (arith, found.1.0), found.1.1))
    step (inr none) true is = inl (n, (omega arith, is))
    step (inr none) false is = inr (each_below test n none is)

-- A hand is ready where its set of waits isn't empty.
pub ready_as : (counts room : List ℕ) (melds waits : ℕ) (empty : Bool) → waits ≡ kinds_that (is_wait counts room melds) →
    ((k : ℕ) → k < 34 → (has_kind waits k ≡ true → IsWait counts room melds k) × (IsWait counts room melds k → has_kind waits k ≡ true)) →
    empty ≡ eqb waits no_kinds →
    (not empty ≡ is_ready counts room melds)
    × ((not empty ≡ true → (k : ℕ) × ((k < 34) × IsWait counts room melds k)) × ((k : ℕ) × ((k < 34) × IsWait counts room melds k) → not empty ≡ true))
unfolding is_ready
ready_as counts room melds waits empty are law is = at (some_or_none (is_wait counts room melds) 34)
  where
    has : (k : ℕ) → k < 34 → has_kind waits k ≡ is_wait counts room melds k
    has k within = ap (λ ks. has_kind ks k) are ∙ has_kind-kinds_that (is_wait counts room melds) k within

    at : ((k : ℕ) × ((k < 34) × (is_wait counts room melds k ≡ true))) ⊎ ((k : ℕ) → k < 34 → is_wait counts room melds k ≡ false) →
        (not empty ≡ list_any (is_wait counts room melds) all_kinds)
        × ((not empty ≡ true → (k : ℕ) × ((k < 34) × IsWait counts room melds k)) × ((k : ℕ) × ((k < 34) × IsWait counts room melds k) → not empty ≡ true))
    at (inl found) =
        let held : has_kind waits found.0 ≡ true = has found.0 found.1.0 ∙ found.1.1 in
        let some : not empty ≡ true =
        ap not (is ∙ ne_eqb waits no_kinds (λ e. false≢true (sym (ap (λ ks. has_kind ks found.0) e ∙ has_kind-none found.0) ∙ held))) in (
          some ∙ sym (any_kind (is_wait counts room melds) found.0 found.1.0 found.1.1),
          (λ test. (found.0, (found.1.0, (law found.0 found.1.0).0 held)), λ wait. some),
        )
    at (inr none) =
        let nothing : not empty ≡ false = ap not (is ∙ eq-eqb waits no_kinds (are ∙ sym (no_kinds-that (is_wait counts room melds) none))) in (
          nothing ∙ sym (no_kind (is_wait counts room melds) none),
          (
            λ test. absurd (false≢true (sym nothing ∙ test)),
            λ wait. absurd (false≢true (sym (has wait.0 wait.1.0 ∙ none wait.0 wait.1.0) ∙ (law wait.0 wait.1.0).1 wait.1.1)),
          ),
        )
