-- Thirteen orphans, kind by kind.
use Rattle.std.proofs.Common.{ℕ, ◌≡◌, ◌<◌, ◌+◌, Bool, true, false, cond, List, length, get_or, map, refl, sym, ◌∙◌, ap, arith, zero, suc, Option, Some, None, ◌⊎◌, inl, inr, zero-add}
use Rattle.std.specs.List.{find, slice_get, position_or_len, range_with_len}
use Rattle.std.specs.Option.{is_some}
use Rattle.std.specs.Str.{bytes_eq}
use Rattle.std.proofs.lemmas.Bool.{and_parts, and_from, false_from_ne_true, cases_eq, eq-eqb, ne_eqb, false≢true}
use Rattle.std.proofs.lemmas.Slice.Eq.{bytes_eq-Decides}
use Rattle.std.proofs.lemmas.List.Folds.{find_at}
use Rattle.std.proofs.lemmas.List.Sums.{position_or_len_is}
use Rattle.std.proofs.lemmas.List.FromFn.{length-range_with_len, get_or-range_with_len, get_or-map-range_with_len, fill_by_all}
use Rattle.std.proofs.lemmas.Option.{slice_get-get_or, slice_get_past, none-some, same_Some}
use Rattle.mj_lists.proofs.Ranges.{below_or_here}
use Rattle.mj_tiles.specs.Counts.{all_kinds}
use Rattle.mj_tiles.specs.Terminals.{is_terminal_or_honour}
use Rattle.mj_readings.specs.Complete.{orphan_number, AreOrphans}
use Rattle.mj_readings.specs.Tests.{has_orphans, orphan_double}

-- The first number that passes a test, and none.
find_in_range : (p : ℕ → Bool) (n kind : ℕ) → kind < n → p kind ≡ true → ((k : ℕ) → k < kind → p k ≡ false) → find p (range_with_len 0 n) ≡ Some kind
find_in_range p n kind within passes first =
    let size : length (range_with_len 0 n) ≡ n = length-range_with_len 0 n in
    let inside : kind < length (range_with_len 0 n) = rw size within in
    let place : position_or_len p (range_with_len 0 n) ≡ kind =
    position_or_len_is p (range_with_len 0 n) kind 0 (omega (arith, inside))
    (λ k below. ap p (get_or-range_with_len 0 n k 0 (omega (arith, below, within)) ∙ zero-add k) ∙ first k below)
    (λ inside. ap p (get_or-range_with_len 0 n kind 0 within ∙ zero-add kind) ∙ passes) in
    find_at p (range_with_len 0 n) ∙ ap (slice_get (range_with_len 0 n)) place ∙ slice_get-get_or (range_with_len 0 n) kind 0 inside
    ∙ ap Some (get_or-range_with_len 0 n kind 0 within ∙ zero-add kind)

find_none_in_range : (p : ℕ → Bool) (n : ℕ) → ((k : ℕ) → k < n → p k ≡ false) → find p (range_with_len 0 n) ≡ None
find_none_in_range p n never =
    let size : length (range_with_len 0 n) ≡ n = length-range_with_len 0 n in
    let place : position_or_len p (range_with_len 0 n) ≡ n =
    position_or_len_is p (range_with_len 0 n) n 0 (omega (arith, size))
    (λ k below. ap p (get_or-range_with_len 0 n k 0 below ∙ zero-add k) ∙ never k below)
    (λ inside. absurd (omega (arith, inside, size))) in
    find_at p (range_with_len 0 n) ∙ ap (slice_get (range_with_len 0 n)) place ∙ slice_get_past (range_with_len 0 n) n (omega (arith, size))

-- The test says what it is to be thirteen orphans.
pub has_orphans-are : (counts : List ℕ) (double : ℕ) → double < 34 → has_orphans counts double ≡ true → AreOrphans counts double
unfolding has_orphans
has_orphans-are counts double within has =
    let parts = and_parts (is_terminal_or_honour double) (bytes_eq counts (map (orphan_number double) all_kinds)) has in
    record { kind = within; orphan = parts.0; tiles = (bytes_eq-Decides counts (map (orphan_number double) all_kinds)).0 parts.1 }

pub are-has_orphans : (counts : List ℕ) (double : ℕ) → AreOrphans counts double → has_orphans counts double ≡ true
unfolding has_orphans
are-has_orphans counts double are =
    and_from (is_terminal_or_honour double) (bytes_eq counts (map (orphan_number double) all_kinds)) are.orphan
    ((bytes_eq-Decides counts (map (orphan_number double) all_kinds)).1 are.tiles)

-- The count of a kind in thirteen orphans.
pub orphan_count : (counts : List ℕ) (double kind : ℕ) → kind < 34 → AreOrphans counts double → get_or counts kind 0 ≡ orphan_number double kind
unfolding all_kinds
orphan_count counts double kind within are =
    ap (λ ns. get_or ns kind 0) are.tiles ∙ get_or-map-range_with_len (orphan_number double) 0 34 kind kind 0 within (zero-add kind)

-- Only one kind is doubled.
same_double : (counts : List ℕ) (one other : ℕ) → AreOrphans counts one → AreOrphans counts other → one ≡ other
same_double counts one other a b =
    same_of one other (cases_eq one other)
    (sym (orphan_count counts one one a.kind a) ∙ orphan_count counts other one a.kind b) a.orphan
  where
    same_of : (one other : ℕ) → (one ≡ other) ⊎ (one ≡ other → ⊥) → orphan_number one one ≡ orphan_number other one → is_terminal_or_honour one ≡ true → one ≡ other
    same_of one other (inl same) e orphan = same
    same_of one other (inr differ) e orphan =
        let two : ◌≡◌ {A = ℕ} (orphan_number one one) 2 = rw orphan (rw (eq-eqb one one refl) refl) in
        let single : ◌≡◌ {A = ℕ} (orphan_number other one) 1 = rw orphan (rw (ne_eqb one other differ) refl) in
        absurd (omega (arith, two, single, e))

pub orphan_double-is : (counts : List ℕ) (double : ℕ) → AreOrphans counts double → orphan_double counts ≡ Some double
unfolding orphan_double all_kinds
orphan_double-is counts double are =
    find_in_range (has_orphans counts) 34 double are.kind (are-has_orphans counts double are)
    (λ k below. false_from_ne_true (has_orphans counts k)
    (λ has. let same : k ≡ double = same_double counts k double (has_orphans-are counts k (omega (arith, below, are.kind)) has) are in omega (arith, same, below)))

pub orphan_double-none : (counts : List ℕ) → ((double : ℕ) → AreOrphans counts double → ⊥) → orphan_double counts ≡ None
unfolding orphan_double all_kinds
orphan_double-none counts never =
    find_none_in_range (has_orphans counts) 34 (λ k within. false_from_ne_true (has_orphans counts k) (λ has. never k (has_orphans-are counts k within has)))

-- The counts below a kind are those of thirteen orphans, with this kind twice where there is one.
abbrev pub number_so_far : Option ℕ → ℕ → ℕ
number_so_far None kind = cond (is_terminal_or_honour kind) 1 0
number_so_far (Some double) kind = orphan_number double kind

abbrev pub DoubleBelow : Option ℕ → ℕ → Type 0
DoubleBelow None kind = Unit {0}
DoubleBelow (Some double) kind = (double < kind) × (is_terminal_or_honour double ≡ true)

pub record OrphansSoFar (counts : List ℕ) (double : Option ℕ) (kind : ℕ) : Type 0 where
  pub below : DoubleBelow double kind
  pub counted : (k : ℕ) → k < kind → get_or counts k 0 ≡ number_so_far double k

-- The number of the doubled kind, and of another.
doubled : (kind : ℕ) → is_terminal_or_honour kind ≡ true → ◌≡◌ {A = ℕ} (orphan_number kind kind) 2
doubled kind orphan = rw orphan (rw (eq-eqb kind kind refl) refl)

not_doubled : (double kind : ℕ) → (kind ≡ double → ⊥) → orphan_number double kind ≡ cond (is_terminal_or_honour kind) 1 0
not_doubled double kind differ = rw (ne_eqb kind double differ) refl

single : (double kind : ℕ) → is_terminal_or_honour kind ≡ true → (kind ≡ double → ⊥) → ◌≡◌ {A = ℕ} (orphan_number double kind) 1
single double kind orphan differ = rw orphan (rw (ne_eqb kind double differ) refl)

-- What is found passes.
found_in_range : (p : ℕ → Bool) (from n found : ℕ) → find p (range_with_len from n) ≡ Some found → (p found ≡ true) × (found < from + n)
found_in_range p from zero found is = absurd (none-some found is)
found_in_range p from (suc n) found is = split (p from) refl is (found_in_range p (from + 1) n found)
  where
    split : (b : Bool) → p from ≡ b → cond b (Some from) (find p (range_with_len (from + 1) n)) ≡ Some found →
        (find p (range_with_len (from + 1) n) ≡ Some found → (p found ≡ true) × (found < from + 1 + n)) → (p found ≡ true) × (found < from + suc n)
    split true here is rest =
        let same : from ≡ found = same_Some from found is in
        (ap p (sym same) ∙ here, omega arith)
    split false here is rest = let later = rest is in (later.0, omega (arith, later))

pub orphan_double-are : (counts : List ℕ) (double : ℕ) → orphan_double counts ≡ Some double → AreOrphans counts double
unfolding orphan_double all_kinds
orphan_double-are counts double is =
    let found = found_in_range (has_orphans counts) 0 34 double is in
    has_orphans-are counts double (omega (arith, found)) found.0

-- The loop over the kinds: one more kind as expected, or the doubled one; any other number ends it.
pub orphans_plain : (counts : List ℕ) (double : Option ℕ) (kind : ℕ) → OrphansSoFar counts double kind →
    get_or counts kind 0 ≡ cond (is_terminal_or_honour kind) 1 0 → OrphansSoFar counts double (kind + 1)
orphans_plain counts None kind far plain = record {
  below = tt;
  counted = λ k inside. at k (below_or_here k kind inside);
}
  where
    at : (k : ℕ) → (k < kind) ⊎ (k ≡ kind) → get_or counts k 0 ≡ number_so_far None k
    at k (inl before) = far.counted k before
    at k (inr here) = rw here plain
orphans_plain counts (Some double) kind far plain = record {
  below = (omega (arith, far.below), far.below.1);
  counted = λ k inside. at k (below_or_here k kind inside);
}
  where
    at : (k : ℕ) → (k < kind) ⊎ (k ≡ kind) → get_or counts k 0 ≡ number_so_far (Some double) k
    at k (inl before) = far.counted k before
    at k (inr here) = rw here (plain ∙ sym (not_doubled double kind (λ e. omega (arith, e, far.below))))

pub orphans_double : (counts : List ℕ) (kind : ℕ) → OrphansSoFar counts None kind →
    is_terminal_or_honour kind ≡ true → get_or counts kind 0 ≡ 2 → OrphansSoFar counts (Some kind) (kind + 1)
orphans_double counts kind far orphan two = record {
  below = (omega arith, orphan);
  counted = λ k inside. at k (below_or_here k kind inside);
}
  where
    at : (k : ℕ) → (k < kind) ⊎ (k ≡ kind) → get_or counts k 0 ≡ number_so_far (Some kind) k
    at k (inl before) = far.counted k before ∙ sym (not_doubled kind k (λ e. omega (arith, e, before)))
    at k (inr here) = rw here (two ∙ sym (doubled kind orphan))

pub orphans_end : (counts : List ℕ) (double : Option ℕ) (kind : ℕ) → length counts ≡ 34 → kind ≡ 34 → OrphansSoFar counts double kind →
    double ≡ orphan_double counts
unfolding all_kinds
orphans_end counts None kind size last far =
    sym (orphan_double-none counts (λ double are.
    let two : get_or counts double 0 ≡ orphan_number double double = orphan_count counts double double are.kind are in
    let one : get_or counts double 0 ≡ cond (is_terminal_or_honour double) 1 0 = far.counted double (omega (arith, are.kind, last)) in
    let single : ◌≡◌ {A = ℕ} (cond (is_terminal_or_honour double) 1 0) 1 = ap (λ b. cond b 1 0) are.orphan in
    omega (arith, two, one, single, doubled double are.orphan)))
orphans_end counts (Some double) kind size last far =
    sym (orphan_double-is counts double (record {
      kind = omega (arith, far.below, last);
      orphan = far.below.1;
      tiles = fill_by_all (orphan_number double) counts 34 0 size (λ k inside. far.counted k (omega (arith, inside, last)));
    }))

pub orphans_off : (counts : List ℕ) (double : Option ℕ) (kind : ℕ) → OrphansSoFar counts double kind → kind < 34 →
    (get_or counts kind 0 ≡ cond (is_terminal_or_honour kind) 1 0 → ⊥) → (is_terminal_or_honour kind ≡ false) ⊎ ((get_or counts kind 0 ≡ 2 → ⊥) ⊎ (is_some double ≡ true)) →
    orphan_double counts ≡ None
orphans_off counts double kind far within off either =
    orphan_double-none counts (λ other are. clash counts double kind other far within off either are (cases_eq kind other))
  where
    clash : (counts : List ℕ) (double : Option ℕ) (kind other : ℕ) → OrphansSoFar counts double kind → kind < 34 →
        (get_or counts kind 0 ≡ cond (is_terminal_or_honour kind) 1 0 → ⊥) → (is_terminal_or_honour kind ≡ false) ⊎ ((get_or counts kind 0 ≡ 2 → ⊥) ⊎ (is_some double ≡ true)) →
        AreOrphans counts other → (kind ≡ other) ⊎ (kind ≡ other → ⊥) → ⊥
    clash counts double kind other far within off either are (inr differ) =
        off (orphan_count counts other kind within are ∙ not_doubled other kind differ)
    clash counts double kind other far within off (inl none) are (inl same) =
        false≢true (sym none ∙ ap is_terminal_or_honour same ∙ are.orphan)
    clash counts double kind other far within off (inr (inl few)) are (inl same) =
        few (orphan_count counts other kind within are ∙ ap (orphan_number other) same ∙ doubled other are.orphan)
    clash counts None kind other far within off (inr (inr made)) are (inl same) = false≢true made
    clash counts (Some double) kind other far within off (inr (inr made)) are (inl same) =
        let two : get_or counts double 0 ≡ orphan_number double double = far.counted double far.below.0 in
        let one : get_or counts double 0 ≡ orphan_number other double = orphan_count counts other double (omega (arith, far.below, within)) are in
        omega (arith, two, one, doubled double far.below.1, single other double far.below.1 (λ e. omega (arith, e, same, far.below)))
