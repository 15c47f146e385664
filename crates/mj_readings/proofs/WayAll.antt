-- Each sets in order and pair with the counts are one of the ways.
use Rattle.std.proofs.Common.{ℕ, ◌≡◌, ◌<◌, ◌≤◌, ◌+◌, ◌-◌, ◌*◌, ◌++◌, ◌∷◌, [], Bool, true, false, cond, List, length, refl, sym, ◌∙◌, ap, subst}
use Rattle.std.proofs.Common.{arith, lit<, ltb, ◌%◌, eqb, leb, replicate, zero, suc, Option, Some, None, ◌⊎◌, inl, inr, ◌&&◌, add-zero}
use Rattle.std.specs.List.{list_all, Contains}
use Rattle.std.proofs.lemmas.Bool.{and_parts, leb-true, le-leb, cases_eq, eq-eqb, ne_eqb, false≢true, ltb-true}
use Rattle.std.proofs.lemmas.List.{length-append, length-replicate}
use Rattle.std.proofs.lemmas.List.Elements.{Contains-append_left, Contains-append_right}
use Rattle.mj_readings.specs.declared.reading.Set.{Set}
use Rattle.std.specs.Prelude.{not}
use Rattle.mj_readings.specs.declared.reading.SetForm.{SetForm}
use Rattle.mj_readings.specs.declared.reading.SetForm.TheVariants.{Run, Triplet, Kan}
use Rattle.mj_readings.specs.Sets.{is_concealed, is_concealed_form, begins_run}
use Rattle.mj_readings.specs.Inner.Ways.{Way, run_at, triplet_at, sets_at, put, begin, at_kind, end_of, ways}
use Rattle.mj_readings.proofs.Order.{Front, front_of}
use Rattle.mj_readings.proofs.WayRules.{IsWay, pair_tiles, way_here, way_after, begin_has}

-- A way is its first sets, put before the others.
way_is : (way : Way) (kind runs triplets : ℕ) (rest : List Set) → way.sets ≡ sets_at kind runs triplets ++ rest →
    put (sets_at kind runs triplets) (record { sets = rest; pair = way.pair }) ≡ way
way_is way kind runs triplets rest is = λ i. record { sets = sym is i; pair = way.pair }

-- Runs and a triplet at most at a kind.
plain_has : (next : ℕ → ℕ → Option ℕ → List Way) (count kind under left : ℕ) (made : Option ℕ) (way : Way) (runs triplets : ℕ) (rest : List Set) →
    way.sets ≡ sets_at kind runs triplets ++ rest → (runs ≡ 0) ⊎ (begins_run kind ≡ true) → runs + triplets ≤ left →
    count ≡ runs + 3 * triplets + under → count ≤ 4 →
    Contains (next runs (left - (runs + triplets)) made) (record { sets = rest; pair = way.pair }) →
    Contains (at_kind next kind (count - under) left made) way
plain_has next count kind under left made way runs zero rest is may few here small has =
    let free : count - under ≡ runs = omega arith in
    let found : Contains (begin next kind runs 0 left made) way =
    subst (Contains (begin next kind runs 0 left made)) (way_is way kind runs 0 rest is) (begin_has next kind runs 0 left made _ few may has) in
    let there : Contains (begin next kind (count - under) 0 left made) way = rw free found in
    Contains-append_left _ _ way (Contains-append_left _ _ way there)
plain_has next count kind under left made way runs (suc zero) rest is may few here small has =
    let free : count - under ≡ runs + 3 = omega arith in
    let fewer : count - under - 3 ≡ runs = omega arith in
    let enough : leb 3 (count - under) ≡ true = le-leb 3 (count - under) (omega arith) in
    let found : Contains (begin next kind runs 1 left made) way =
    subst (Contains (begin next kind runs 1 left made)) (way_is way kind runs 1 rest is) (begin_has next kind runs 1 left made _ few may has) in
    let there : Contains (cond (leb 3 (count - under)) (begin next kind (count - under - 3) 1 left made) []) way = rw enough (rw fewer found) in
    Contains-append_left _ _ way (Contains-append_right (begin next kind (count - under) 0 left made) _ way there)
plain_has next count kind under left made way runs (suc (suc t)) rest is may few here small has = absurd (omega arith)

-- The pair at a kind, and runs.
pair_has : (next : ℕ → ℕ → Option ℕ → List Way) (count kind under left : ℕ) (way : Way) (runs triplets : ℕ) (rest : List Set) →
    way.sets ≡ sets_at kind runs triplets ++ rest → (runs ≡ 0) ⊎ (begins_run kind ≡ true) → runs + triplets ≤ left →
    count ≡ runs + 3 * triplets + under + 2 → count ≤ 4 →
    Contains (next runs (left - (runs + triplets)) (Some kind)) (record { sets = rest; pair = way.pair }) →
    Contains (at_kind next kind (count - under) left None) way
pair_has next count kind under left way runs zero rest is may few here small has =
    let fewer : count - under - 2 ≡ runs = omega arith in
    let enough : leb 2 (count - under) ≡ true = le-leb 2 (count - under) (omega arith) in
    let found : Contains (begin next kind runs 0 left (Some kind)) way =
    subst (Contains (begin next kind runs 0 left (Some kind))) (way_is way kind runs 0 rest is) (begin_has next kind runs 0 left (Some kind) _ few may has) in
    let there : Contains (cond (leb 2 (count - under) && true) (begin next kind (count - under - 2) 0 left (Some kind)) []) way =
    rw enough (rw fewer found) in
    Contains-append_right _ _ way there
pair_has next count kind under left way runs (suc t) rest is may few here small has = absurd (omega arith)

-- The sets at a kind are no more than all.
front_few : (kind : ℕ) (sets : List Set) (left : ℕ) (front : Front kind sets) → length sets ≡ left → front.runs + front.triplets ≤ left
front_few kind sets left front all =
    let lengths : length sets ≡ front.runs + front.triplets + length front.rest =
    ap length front.is ∙ length-append (sets_at kind front.runs front.triplets) front.rest
    ∙ ap (λ n. n + length front.rest) (length-append (replicate front.runs (run_at kind)) (replicate front.triplets (triplet_at kind))
    ∙ both _ _ _ _ (length-replicate front.runs (run_at kind)) (length-replicate front.triplets (triplet_at kind))) in
    omega arith
  where
    both : (a b c d : ℕ) → a ≡ c → b ≡ d → a + b ≡ c + d
    both a b c d e f = cc

-- A way is among those at its kind: its pair is made before, or stands here, or comes later.
split_has : (next : ℕ → ℕ → Option ℕ → List Way) (count : ℕ) (others : List ℕ) (kind first second left : ℕ) (made : Option ℕ) (way : Way) →
    ((runs left : ℕ) (pair : Option ℕ) (after : Way) → IsWay others (kind + 1) second runs left pair after → Contains (next runs left pair) after) →
    count ≤ 4 → IsWay (count ∷ others) kind first second left made way → (front : Front kind way.sets) →
    count ≡ front.runs + 3 * front.triplets + (first + second) + pair_tiles made way.pair (kind + 0) → (way.pair ≡ kind) ⊎ (way.pair ≡ kind → ⊥) →
    Contains (at_kind next kind (count - (first + second)) left made) way
split_has next count others kind first second left (Some pair) way has small is front here either =
    plain_has next count kind (first + second) left (Some pair) way front.runs front.triplets front.rest front.is front.may_run
    (front_few kind way.sets left front is.so_many) (here ∙ add-zero _) small
    (has front.runs (left - (front.runs + front.triplets)) (Some pair) _ (way_after count others kind first second left (Some pair) (Some pair) way is front is.pair_fits (λ j. refl)))
split_has next count others kind first second left None way has small is front here (inl same) =
    let equal : way.pair ≡ kind + 0 = same ∙ sym (add-zero kind) in
    let two : ◌≡◌ {A = ℕ} (cond (eqb way.pair (kind + 0)) 2 0) 2 = ap (λ b. cond b 2 0) (eq-eqb way.pair (kind + 0) equal) in
    pair_has next count kind (first + second) left way front.runs front.triplets front.rest front.is front.may_run
    (front_few kind way.sets left front is.so_many) (here ∙ ap (λ n. front.runs + 3 * front.triplets + (first + second) + n) two) small
    (has front.runs (left - (front.runs + front.triplets)) (Some kind) _
    (way_after count others kind first second left None (Some kind) way is front (sym same)
    (λ j. ap (λ b. cond b 2 0) (ne_eqb way.pair (kind + suc j) (λ e. omega (arith, e, same))))))
split_has next count others kind first second left None way has small is front here (inr differ) =
    let none : eqb way.pair (kind + 0) ≡ false = ne_eqb way.pair (kind + 0) (λ e. differ (e ∙ add-zero kind)) in
    let above : kind + 1 ≤ way.pair = above_of kind way.pair is.pair_fits.0 differ in
    plain_has next count kind (first + second) left None way front.runs front.triplets front.rest front.is front.may_run
    (front_few kind way.sets left front is.so_many)
    (here ∙ ap (λ b. front.runs + 3 * front.triplets + (first + second) + cond b 2 0) none ∙ add-zero _) small
    (has front.runs (left - (front.runs + front.triplets)) None _
    (way_after count others kind first second left None None way is front (above, is.pair_fits.1)
    (λ j. let same : kind + suc j ≡ kind + 1 + j = omega arith in ap (λ k. cond (eqb way.pair k) 2 0) same)))
  where
    above_of : (kind pair : ℕ) → kind ≤ pair → (pair ≡ kind → ⊥) → kind + 1 ≤ pair
    above_of kind pair from differ = omega arith

-- After the last kind no sets stand, and the pair is made.
low_within : (set : Set) → is_concealed set ≡ true → set.low < 34
unfolding begins_run
low_within set concealed = of_form set.form set.low (not set.shown) concealed
  where
    of_form : (form : SetForm) (low : ℕ) (b : Bool) → (b && is_concealed_form form low) ≡ true → low < 34
    of_form form low false h = absurd (false≢true h)
    of_form Run low true h = omega (arith, ltb-true low 27 (and_parts (ltb low 27) (ltb (low % 9) 7) h).0)
    of_form Triplet low true h = ltb-true low 34 h
    of_form Kan low true h = absurd (false≢true h)

no_sets : (sets : List Set) → list_all is_concealed sets ≡ true → list_all (λ set. leb 34 set.low) sets ≡ true → sets ≡ []
no_sets [] concealed later = refl
no_sets (set ∷ others) concealed later =
    let here = and_parts (is_concealed set) (list_all is_concealed others) concealed in
    let past = and_parts (leb 34 set.low) (list_all (λ set. leb 34 set.low) others) later in
    absurd (omega (arith, low_within set here.0, leb-true 34 set.low past.0))

end_has : (first second left : ℕ) (made : Option ℕ) (way : Way) → IsWay [] 34 first second left made way → Contains (end_of left made) way
end_has first second left None way is = absurd (omega (arith, is.pair_fits))
end_has first second left (Some pair) way is =
    let none : way.sets ≡ [] = no_sets way.sets is.concealed is.later in
    let left_none : left ≡ 0 = sym is.so_many ∙ ap length none in
    rw (eq-eqb left 0 left_none) (0, lit< tt, (λ i. record { sets = sym none i; pair = is.pair_fits i }))

-- Each way is among the ways.
pub ways_complete : (counts : List ℕ) (kind first second left : ℕ) (made : Option ℕ) (way : Way) → kind + length counts ≡ 34 →
    list_all (λ count. leb count 4) counts ≡ true → IsWay counts kind first second left made way → Contains (ways counts kind first second left made) way
unfolding ways
ways_complete [] kind first second left made way size small is = end_has first second left made way (let last : kind ≡ 34 = omega (arith, size) in rw last at is)
ways_complete (count ∷ others) kind first second left made way size small is =
    let parts = and_parts (leb count 4) (list_all (λ count. leb count 4) others) small in
    let front = front_of kind way.sets is.concealed is.later is.order in
    let here = way_here count others kind first second left made way is front in
    let room : first + second ≤ count = omega (arith, here) in
    rw (le-leb (first + second) count room)
    (split_has (λ runs left pair. ways others (kind + 1) second runs left pair) count others kind first second left made way
    (λ runs left pair after is. ways_complete others (kind + 1) second runs left pair after (omega (arith, size)) parts.1 is)
    (leb-true count 4 parts.0) is front here (cases_eq way.pair kind))
