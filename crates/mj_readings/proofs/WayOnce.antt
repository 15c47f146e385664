-- Each way is given once.
use Rattle.std.proofs.Common.{ℕ, ◌≡◌, ◌≢◌, ◌≤◌, ◌+◌, ◌-◌, ◌*◌, ◌++◌, ◌∷◌, [], Bool, true, false, cond, List, length}
use Rattle.std.proofs.Common.{refl, ap, arith, eqb, leb, map, replicate, zero, suc, Option, Some, None, ◌&&◌, ◌||◌}
use Rattle.std.specs.List.{list_all, All}
use Rattle.std.specs.Option.{is_none}
use Rattle.std.proofs.lemmas.Bool.{and_parts, leb-true, eq-eqb, ne_eqb}
use Rattle.std.proofs.lemmas.List.{append_cancel_left}
use Rattle.std.proofs.lemmas.List.Elements.{All-nil, All-append, All-weaker}
use Rattle.mj_readings.specs.declared.reading.Set.{Set}
use Rattle.mj_readings.specs.Sets.{place_of, begins_run}
use Rattle.mj_readings.specs.Inner.Ways.{Way, run_at, triplet_at, sets_at, put, begin, at_kind, end_of, ways}
use Rattle.mj_readings.proofs.Order.{place_from_low}
use Rattle.mj_readings.proofs.WayRules.{IsWay, begin_all, ways_sound}
use Rattle.mj_readings.proofs.Distinct.{Distinct, Distinct-append, Distinct-map, apart_by}

-- How many runs of a way begin at a kind.
runs_of : ℕ → List Set → ℕ
runs_of kind [] = 0
runs_of kind (set ∷ others) = cond (eqb (place_of set) (2 * kind)) 1 0 + runs_of kind others

runs_of-append : (kind : ℕ) (one other : List Set) → runs_of kind (one ++ other) ≡ runs_of kind one + runs_of kind other
unfolding runs_of
runs_of-append kind [] other = grind arith
runs_of-append kind (set ∷ one) other = grind (arith, runs_of-append kind one other)

runs_of-runs : (kind n : ℕ) → runs_of kind (replicate n (run_at kind)) ≡ n
unfolding runs_of
runs_of-runs kind zero = refl
runs_of-runs kind (suc n) = grind (arith, eq-eqb (2 * kind) (2 * kind) refl, runs_of-runs kind n)

runs_of-triplets : (kind n : ℕ) → runs_of kind (replicate n (triplet_at kind)) ≡ 0
unfolding runs_of
runs_of-triplets kind zero = refl
runs_of-triplets kind (suc n) = grind (arith, ne_eqb (2 * kind + 1) (2 * kind) (λ e. omega (arith, e)), runs_of-triplets kind n)

runs_of-later : (kind : ℕ) (sets : List Set) → list_all (λ set. leb (kind + 1) set.low) sets ≡ true → runs_of kind sets ≡ 0
unfolding runs_of
runs_of-later kind [] later = refl
runs_of-later kind (set ∷ others) later =
    let parts = and_parts (leb (kind + 1) set.low) (list_all (λ set. leb (kind + 1) set.low) others) later in
    grind (arith, ne_eqb (place_of set) (2 * kind) (λ e. omega (arith, e, place_from_low set, leb-true (kind + 1) set.low parts.0)), runs_of-later kind others parts.1)

-- A branch has ways with so many runs.
begin_runs : (next : ℕ → ℕ → Option ℕ → List Way) (others : List ℕ) (kind second runs triplets left : ℕ) (pair : Option ℕ) →
    All (IsWay others (kind + 1) second runs (left - (runs + triplets)) pair) (next runs (left - (runs + triplets)) pair) →
    All (λ way. runs_of kind way.sets ≡ runs) (begin next kind runs triplets left pair)
begin_runs next others kind second runs triplets left pair each =
    begin_all (λ way. runs_of kind way.sets ≡ runs) (IsWay others (kind + 1) second runs (left - (runs + triplets)) pair) next kind runs triplets left pair each
    (λ few may way is.
    sum_of _ _ _ _ _ (runs_of-append kind (sets_at kind runs triplets) way.sets)
    (runs_of-append kind (replicate runs (run_at kind)) (replicate triplets (triplet_at kind)))
    (runs_of-runs kind runs) (runs_of-triplets kind triplets) (runs_of-later kind way.sets is.later))
  where
    sum_of : (all front rest a b : ℕ) {r : ℕ} → all ≡ front + rest → front ≡ a + b → a ≡ r → b ≡ 0 → rest ≡ 0 → all ≡ r
    sum_of all front rest a b whole parts runs triplets later = omega arith

put_same : (front : List Set) (one other : Way) → put front one ≡ put front other → one ≡ other
put_same front one other e =
    let sets : one.sets ≡ other.sets = append_cancel_left front one.sets other.sets (ap (λ way. way.sets) e) in
    let pair : one.pair ≡ other.pair = ap (λ way. way.pair) e in
    λ i. record { sets = sets i; pair = pair i }

begin_once : (next : ℕ → ℕ → Option ℕ → List Way) (kind runs triplets left : ℕ) (pair : Option ℕ) →
    Distinct (next runs (left - (runs + triplets)) pair) → Distinct (begin next kind runs triplets left pair)
begin_once next kind runs triplets left pair once = branch ((eqb runs 0 || begins_run kind) && leb (runs + triplets) left)
  where
    branch : (b : Bool) → Distinct (cond b (map (put (sets_at kind runs triplets)) (next runs (left - (runs + triplets)) pair)) [])
    branch true = Distinct-map (put (sets_at kind runs triplets)) (next runs (left - (runs + triplets)) pair) (put_same (sets_at kind runs triplets)) once
    branch false = tt

-- The branches of a kind differ in their runs.
at_kind_once : (next : ℕ → ℕ → Option ℕ → List Way) (others : List ℕ) (kind second free left : ℕ) (made : Option ℕ) →
    ((runs left : ℕ) (pair : Option ℕ) → All (IsWay others (kind + 1) second runs left pair) (next runs left pair)) →
    ((runs left : ℕ) (pair : Option ℕ) → Distinct (next runs left pair)) → Distinct (at_kind next kind free left made)
at_kind_once next others kind second free left made each once =
    Distinct-append (plain ++ cond (leb 3 free) triplet []) (cond (leb 2 free && is_none made) paired [])
    (Distinct-append plain (cond (leb 3 free) triplet []) plain_once (triplet_once (leb 3 free)) (plain_triplet (leb 3 free) refl))
    (paired_once (leb 2 free && is_none made))
    (All-append (λ x. All (λ y. x ≢ y) (cond (leb 2 free && is_none made) paired [])) plain (cond (leb 3 free) triplet [])
    (plain_paired (leb 2 free && is_none made) refl)
    (triplet_paired (leb 3 free) (leb 2 free && is_none made) refl))
  where
    runs : Way → ℕ
    runs way = runs_of kind way.sets

    plain : List Way
    plain = begin next kind free 0 left made

    triplet : List Way
    triplet = begin next kind (free - 3) 1 left made

    paired : List Way
    paired = begin next kind (free - 2) 0 left (Some kind)

    plain_runs : All (λ way. runs way ≡ free) plain
    plain_runs = begin_runs next others kind second free 0 left made (each free (left - (free + 0)) made)

    triplet_runs : All (λ way. runs way ≡ free - 3) triplet
    triplet_runs = begin_runs next others kind second (free - 3) 1 left made (each (free - 3) (left - (free - 3 + 1)) made)

    paired_runs : All (λ way. runs way ≡ free - 2) paired
    paired_runs = begin_runs next others kind second (free - 2) 0 left (Some kind) (each (free - 2) (left - (free - 2 + 0)) (Some kind))

    plain_once : Distinct plain
    plain_once = begin_once next kind free 0 left made (once free (left - (free + 0)) made)

    triplet_once : (b : Bool) → Distinct (cond b triplet [])
    triplet_once true = begin_once next kind (free - 3) 1 left made (once (free - 3) (left - (free - 3 + 1)) made)
    triplet_once false = tt

    paired_once : (b : Bool) → Distinct (cond b paired [])
    paired_once true = begin_once next kind (free - 2) 0 left (Some kind) (once (free - 2) (left - (free - 2 + 0)) (Some kind))
    paired_once false = tt

    nothing : (xs : List Way) → All (λ x. All (λ y. x ≢ y) []) xs
    nothing xs = All-weaker (λ x. Unit {0}) (λ x. All (λ y. x ≢ y) []) (λ x u. All-nil (λ y. x ≢ y)) xs (λ k d inside. tt)

    two_of : (x : Bool) → (leb 2 free && x) ≡ true → 2 ≤ free
    two_of x h = leb-true 2 free (and_parts (leb 2 free) x h).0

    plain_triplet : (b : Bool) → leb 3 free ≡ b → All (λ x. All (λ y. x ≢ y) (cond b triplet [])) plain
    plain_triplet true h = let enough : 3 ≤ free = leb-true 3 free h in
        apart_by runs free (free - 3) plain triplet plain_runs triplet_runs (λ e. omega (arith, e, enough))
    plain_triplet false h = nothing plain

    plain_paired : (c : Bool) → (leb 2 free && is_none made) ≡ c → All (λ x. All (λ y. x ≢ y) (cond c paired [])) plain
    plain_paired true h = let enough : 2 ≤ free = two_of (is_none made) h in
        apart_by runs free (free - 2) plain paired plain_runs paired_runs (λ e. omega (arith, e, enough))
    plain_paired false h = nothing plain

    triplet_paired : (b c : Bool) → leb 3 free ≡ b → All (λ x. All (λ y. x ≢ y) (cond c paired [])) (cond b triplet [])
    triplet_paired false c h = All-nil (λ x. All (λ y. x ≢ y) (cond c paired []))
    triplet_paired true false h = nothing triplet
    triplet_paired true true h = let enough : 3 ≤ free = leb-true 3 free h in
        apart_by runs (free - 3) (free - 2) triplet paired triplet_runs paired_runs (λ e. omega (arith, e, enough))

kind_once : (next : ℕ → ℕ → Option ℕ → List Way) (others : List ℕ) (kind second free left : ℕ) (made : Option ℕ) →
    ((runs left : ℕ) (pair : Option ℕ) → All (IsWay others (kind + 1) second runs left pair) (next runs left pair)) →
    ((runs left : ℕ) (pair : Option ℕ) → Distinct (next runs left pair)) → (b : Bool) → Distinct (cond b (at_kind next kind free left made) [])
kind_once next others kind second free left made each once true = at_kind_once next others kind second free left made each once
kind_once next others kind second free left made each once false = tt

end_once : (left : ℕ) (made : Option ℕ) → Distinct (end_of left made)
end_once left None = tt
end_once left (Some pair) = branch (eqb left 0)
  where
    branch : (b : Bool) → Distinct {X = Way} (cond b (record { sets = []; pair = pair } ∷ []) [])
    branch true = (All-nil (λ (way : Way). record { sets = []; pair = pair } ≢ way), tt)
    branch false = tt

-- No way is given twice.
pub ways_once : (counts : List ℕ) (kind first second left : ℕ) (made : Option ℕ) → kind + length counts ≡ 34 →
    Distinct (ways counts kind first second left made)
unfolding ways
ways_once [] kind first second left made size = end_once left made
ways_once (count ∷ others) kind first second left made size =
    kind_once (λ runs left pair. ways others (kind + 1) second runs left pair) others kind second (count - (first + second)) left made
    (λ runs left pair. ways_sound others (kind + 1) second runs left pair (omega (arith, size)))
    (λ runs left pair. ways_once others (kind + 1) second runs left pair (omega (arith, size))) (leb (first + second) count)
