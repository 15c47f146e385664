-- What is found by how many tiles of each kind are seen is what the definitions say of the tiles.
use Rattle.std.proofs.Common.{◌≡◌, ℕ, zero, suc, ◌+◌, ◌%◌, ◌<◌, ◌==◌, ◌&&◌, ◌||◌, not, Bool, true, false, List, length, get_or, refl, sym, ap, ap₂, ◌∙◌, arith}
use Rattle.std.specs.Prelude.{nat_lt}
use Rattle.std.specs.List.{list_any, range_with_len}
use Rattle.std.proofs.lemmas.Bool.{and_parts, eq-eqb, lt-ltb, ltb-true, ne_eqb}
use Rattle.mj_tiles.specs.Counts.{all_kinds, kind_counts}
use Rattle.mj_tiles.specs.Terminals.{is_terminal_or_honour}
use Rattle.mj_tiles.proofs.CountSteps.{get_or-kind_counts}
use Rattle.mj_readings.specs.Sets.{begins_run}
use Rattle.mj_deeds.specs.declared.deed.Deed.{Deed}
use Rattle.mj_deeds.specs.Facts.{seat_melds}
use Rattle.mj_sights.specs.Seen.{seen_tiles}
use Rattle.mj_safety.specs.Safe.{sees_all, is_run_of, run_from, sees_all_beside, are_runs_blocked, are_orphans_blocked, is_blocked}
use Rattle.mj_hand.proofs.KindLists.{same_all}
use Rattle.mj_safe.specs.Inner.Blocks.{four_beside, is_run_blocked, runs_blocked, is_orphan_beside, orphans_blocked}

-- Some kind passes the one test exactly where one passes the other, where both say the same of each.
same_any : (p q : ℕ → Bool) → ((k : ℕ) → k < 34 → p k ≡ q k) → list_any p all_kinds ≡ list_any q all_kinds
unfolding all_kinds
same_any p q each = go 0 34 (λ k inside. each k (omega (arith, inside)))
  where
    go : (from n : ℕ) → ((k : ℕ) → k < from + n → p k ≡ q k) → list_any p (range_with_len from n) ≡ list_any q (range_with_len from n)
    go from zero each = refl
    go from (suc n) each = ap₂ (λ a b. a || b) (each from (omega arith)) (go (from + 1) n (λ k inside. each k (omega (arith, inside))))

-- The lowest kind of a run is that of a suit.
pub run_low : (kind low : ℕ) → is_run_of kind low ≡ true → low < 27
unfolding begins_run
run_low kind low h = ltb-true low 27 (and_parts (nat_lt low 27) (nat_lt (low % 9) 7) (and_parts (begins_run low) _ h).0).0

record Sees (ds : List Deed) (seat : ℕ) (seen : List ℕ) : Type 0 where
  each : (kind : ℕ) → kind < 34 → (get_or seen kind 0 == 4) ≡ sees_all ds seat kind

sees_each : (ds : List Deed) (seat : ℕ) (seen : List ℕ) → seen ≡ kind_counts (seen_tiles ds seat) → Sees ds seat seen
sees_each ds seat seen is = record { each = λ kind small. ap (λ n. n == 4) (ap (λ (xs : List ℕ). get_or xs kind 0) is ∙ get_or-kind_counts (seen_tiles ds seat) kind small) }

beside : (ds : List Deed) (seat : ℕ) (seen : List ℕ) → Sees ds seat seen → (kind other : ℕ) → other < 34 → four_beside seen kind other ≡ (not (other == kind) && sees_all ds seat other)
beside ds seat seen s kind other small = ap (λ b. not (other == kind) && b) (s.each other small)

run_same : (ds : List Deed) (seat : ℕ) (seen : List ℕ) → Sees ds seat seen → (kind low : ℕ) → is_run_blocked seen kind low ≡ (not (is_run_of kind low) || sees_all_beside ds seat kind (run_from low))
run_same ds seat seen s kind low = by_run (is_run_of kind low) refl
  where
    by_run : (b : Bool) → is_run_of kind low ≡ b → (not b || list_any (four_beside seen kind) (run_from low)) ≡ (not b || sees_all_beside ds seat kind (run_from low))
    by_run false e = refl
    by_run true e =
        let below = run_low kind low e in
        let first = beside ds seat seen s kind low (omega (arith, below)) in
        let second = beside ds seat seen s kind (low + 1) (omega (arith, below)) in
        let third = beside ds seat seen s kind (low + 2) (omega (arith, below)) in
        λ i. first i || (second i || (third i || false))

runs_same : (ds : List Deed) (seat : ℕ) (seen : List ℕ) → Sees ds seat seen → (kind : ℕ) → runs_blocked seen kind ≡ are_runs_blocked ds seat kind
unfolding are_runs_blocked
runs_same ds seat seen s kind = same_all (is_run_blocked seen kind) (λ low. not (is_run_of kind low) || sees_all_beside ds seat kind (run_from low)) (λ low small. run_same ds seat seen s kind low)

orphans_same : (ds : List Deed) (seat against : ℕ) (seen : List ℕ) → Sees ds seat seen → (kind : ℕ)
    → orphans_blocked seen (nat_lt 0 (length (seat_melds ds against))) kind ≡ are_orphans_blocked ds seat against kind
unfolding are_orphans_blocked
orphans_same ds seat against seen s kind =
    ap (λ b. not (is_terminal_or_honour kind) || nat_lt 0 (length (seat_melds ds against)) || b)
    (same_any (is_orphan_beside seen kind) (λ other. is_terminal_or_honour other && (not (other == kind) && sees_all ds seat other))
    (λ other small. ap (λ b. is_terminal_or_honour other && b) (beside ds seat seen s kind other small)))

pub block_same : (ds : List Deed) (seat against kind : ℕ) (seen : List ℕ) → kind < 34 → seen ≡ kind_counts (seen_tiles ds seat) →
    (get_or seen kind 0 == 4 && runs_blocked seen kind && orphans_blocked seen (nat_lt 0 (length (seat_melds ds against))) kind) ≡ is_blocked ds seat against kind
block_same ds seat against kind seen small is =
    let s = sees_each ds seat seen is in
    let four = s.each kind small in
    let runs = runs_same ds seat seen s kind in
    let orphans = orphans_same ds seat against seen s kind in
    λ i. four i && runs i && orphans i

-- As the code asks it, one after the other.

pub not_four : (ds : List Deed) (seat against kind number : ℕ) (seen : List ℕ) → kind < 34 → seen ≡ kind_counts (seen_tiles ds seat) → number ≡ get_or seen kind 0 → (number ≡ 4 → ⊥)
    → false ≡ is_blocked ds seat against kind
not_four ds seat against kind number seen small is n other =
    sym (ap (λ b. b && runs_blocked seen kind && orphans_blocked seen (nat_lt 0 (length (seat_melds ds against))) kind) (ne_eqb (get_or seen kind 0) 4 (λ e. other (n ∙ e))))
    ∙ block_same ds seat against kind seen small is

pub not_runs : (ds : List Deed) (seat against kind number : ℕ) (seen : List ℕ) → kind < 34 → seen ≡ kind_counts (seen_tiles ds seat) → number ≡ get_or seen kind 0 → number ≡ 4
    → runs_blocked seen kind ≡ false →
    false ≡ is_blocked ds seat against kind
not_runs ds seat against kind number seen small is n four wanting =
    sym
    (ap (λ b. b && runs_blocked seen kind && orphans_blocked seen (nat_lt 0 (length (seat_melds ds against))) kind) (eq-eqb (get_or seen kind 0) 4 (sym n ∙ four))
    ∙ ap (λ b. b && orphans_blocked seen (nat_lt 0 (length (seat_melds ds against))) kind) wanting)
    ∙ block_same ds seat against kind seen small is

pub as_orphans : (ds : List Deed) (seat against kind number : ℕ) (seen : List ℕ) (melded : Bool) → kind < 34 → seen ≡ kind_counts (seen_tiles ds seat) → number ≡ get_or seen kind 0
    → number ≡ 4 → runs_blocked seen kind ≡ true →
    melded ≡ nat_lt 0 (length (seat_melds ds against)) → orphans_blocked seen melded kind ≡ is_blocked ds seat against kind
as_orphans ds seat against kind number seen melded small is n four blocked melds =
    ap (λ b. orphans_blocked seen b kind) melds
    ∙ sym
    (ap (λ b. b && runs_blocked seen kind && orphans_blocked seen (nat_lt 0 (length (seat_melds ds against))) kind) (eq-eqb (get_or seen kind 0) 4 (sym n ∙ four))
    ∙ ap (λ b. b && orphans_blocked seen (nat_lt 0 (length (seat_melds ds against))) kind) blocked)
    ∙ block_same ds seat against kind seen small is

pub some_meld : (n : ℕ) → not (n == 0) ≡ nat_lt 0 n
some_meld zero = refl
some_meld (suc n) = ap not (ne_eqb (suc n) 0 (λ e. none n e)) ∙ sym (lt-ltb 0 (suc n) (omega arith))
  where
    none : (n : ℕ) → suc n ≡ 0 → ⊥
    none n e = omega (arith, e)
