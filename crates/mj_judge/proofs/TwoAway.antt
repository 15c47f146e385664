-- How many tiles are missing of the nearest complete hand tells whether some discard leaves the hand ready.
use Rattle.mj_tiles.proofs.EachKind.{any_kind}
use Rattle.std.proofs.Common.{ℕ, ◌||◌, ◌⊎◌, zero, suc, ◌≡◌, ◌<◌, ◌≤◌, ◌+◌, ◌*◌, ◌∷◌, [], inl, inr, Bool, true, false, cond, eqb, ltb, List, length, get_or, sum, refl, sym, ◌∙◌, ap, subst, arith, ◌-◌}
use Rattle.std.specs.List.{list_any, range_with_len}
use Rattle.std.proofs.lemmas.Bool.{cases_eq, eq-eqb, ne_eqb, and_parts, ltb-true, and_from, cases_lt, lt-ltb}
use Rattle.std.proofs.lemmas.List.{length-set}
use Rattle.mj_tiles.specs.Counts.{all_kinds, IsCounts}
use Rattle.mj_readings.specs.Tests.{complete, one_more}
use Rattle.mj_readings.proofs.Laws.{complete-are, are-complete}
use Rattle.mj_waits.specs.Waits.{is_wait, is_ready}
use Rattle.mj_suits.specs.Targets.{missing}
use Rattle.mj_suits.specs.Tables.{IsLeast}
use Rattle.mj_shanten.specs.Room.{IsRoom, IsWithinRoom}
use Rattle.mj_shanten.specs.Shanten.{IsGoal}
use Rattle.mj_shanten.specs.Exchanges.{one_less}
use Rattle.mj_shanten.proofs.Goal.{counts_from}
use Rattle.mj_shanten.proofs.Least.{one_nearer, fewer_held}
use Rattle.mj_shanten.proofs.Path.{one_less_at, one_more_at}
use Rattle.mj_shanten.proofs.Sums.{sum-cons, sum_missing, sum_complete}
use Rattle.mj_judge.specs.Inner.Ready.{leaves_ready}

-- numbers

sum_more : (xs : List ℕ) (k : ℕ) → k < length xs → sum (one_more xs k) ≡ suc (sum xs)
sum_more [] k inside = absurd (omega arith)
sum_more (x ∷ xs) zero inside = (let a = sum-cons x xs in let b = sum-cons (x + 1) xs in omega arith)
sum_more (x ∷ xs) (suc k) inside = (let a = sum-cons x xs in let b = sum-cons x (one_more xs k) in let c = sum_more xs k (omega arith) in omega arith)

sum_less : (xs : List ℕ) (k : ℕ) → k < length xs → 0 < get_or xs k 0 → suc (sum (one_less xs k)) ≡ sum xs
sum_less [] k inside some = absurd (omega arith)
sum_less (x ∷ xs) zero inside some = (let a = sum-cons x xs in let b = sum-cons (x - 1) xs in let c : 0 < x = some in omega arith)
sum_less (x ∷ xs) (suc k) inside some = (let a = sum-cons x xs in let b = sum-cons x (one_less xs k) in let c = sum_less xs k (omega arith) some in omega arith)

itself : (t : List ℕ) → missing t t ≡ 0
itself [] = refl
itself (w ∷ t) = (let r = itself t in omega arith)

-- A list that misses nothing of another of the same sum is that one.
same_of : (t h : List ℕ) → length t ≡ length h → sum t ≡ sum h → missing t h ≡ 0 → t ≡ h
same_of [] [] size whole none = refl
same_of [] (y ∷ h) size whole none = absurd (omega arith)
same_of (x ∷ t) [] size whole none = absurd (omega arith)
same_of (x ∷ t) (y ∷ h) size whole none =
    let a = sum-cons x t in
    let b = sum-cons y h in
    let c = sum_missing t h in
    let head : x ≡ y = omega arith in
    let tail : t ≡ h = same_of t h (omega arith) (omega arith) (omega arith) in
    (λ i. head i ∷ tail i)

-- A place at which one more of a hand makes another.
record Away (t h : List ℕ) : Type 0 where
  at : ℕ
  inside : at < length h
  is : one_more h at ≡ t
  more : get_or h at 0 < get_or t at 0

-- Where one tile is missed of a hand with one tile more, it is that one.
away_from : (t h : List ℕ) → length t ≡ length h → sum t ≡ suc (sum h) → missing t h ≡ 1 → Away t h
away_from [] [] size whole one = absurd (omega arith)
away_from [] (y ∷ h) size whole one = absurd (omega arith)
away_from (x ∷ t) [] size whole one = absurd (omega arith)
away_from (x ∷ t) (y ∷ h) size whole one =
    let a = sum-cons x t in
    let b = sum-cons y h in
    let c = sum_missing t h in
    elim (cases_lt y x) [
      | inl less ↦
          (let head : y + 1 ≡ x = omega arith in
          let tail : t ≡ h = same_of t h (omega arith) (omega arith) (omega arith) in
          record { at = 0; inside = omega arith; is = (λ i. head i ∷ sym tail i); more = less })
      | inr over ↦
          (let head : y ≡ x = omega arith in
          let rest : Away t h = away_from t h (omega arith) (omega arith) (omega arith) in
          record { at = suc rest.at; inside = (let e = rest.inside in omega arith); is = (λ i. head i ∷ rest.is i); more = rest.more })
    ]

-- a kind that passes

record Found (p : ℕ → Bool) (below : ℕ) : Type 0 where
  kind : ℕ
  low : kind < below
  yes : p kind ≡ true

found_in : (p : ℕ → Bool) (from n : ℕ) → list_any p (range_with_len from n) ≡ true → Found p (from + n)
found_in p from zero h = cc
found_in p from (suc n) h = by_test (p from) refl h (found_in p (from + 1) n)
  where
    by_test : (b : Bool) → p from ≡ b → (b || list_any p (range_with_len (from + 1) n)) ≡ true → (list_any p (range_with_len (from + 1) n) ≡ true → Found p (from + 1 + n)) → Found p (from + suc n)
    by_test true e k later = record { kind = from; low = omega arith; yes = e }
    by_test false e k later = (let f = later k in record { kind = f.kind; low = (let l = f.low in omega arith); yes = f.yes })

-- a hand that is ready

more_within : (counts room : List ℕ) (kind : ℕ) → length counts ≡ 34 → kind < 34 → IsWithinRoom counts room → get_or counts kind 0 < get_or room kind 0 → IsWithinRoom (one_more counts kind) room
more_within counts room kind size low within less k small = (let a = one_more_at counts kind k (omega arith) in let w = within k small in
    elim (cases_eq kind k) [
      | inl same ↦ (let e : ◌≡◌ {A = ℕ} (cond (eqb kind k) 1 0) 1 = ap (λ b. cond b 1 0) (eq-eqb kind k same) in
          let f : get_or counts k 0 < get_or room k 0 = subst (λ j. get_or counts j 0 < get_or room j 0) same less in omega arith)
      | inr other ↦ (let e : ◌≡◌ {A = ℕ} (cond (eqb kind k) 1 0) 0 = ap (λ b. cond b 1 0) (ne_eqb kind k other) in omega arith)
    ])

-- It has thirteen tiles, and misses one of a complete hand.
pub record OneMissed (counts room : List ℕ) (melds : ℕ) : Type 0 where
  pub thirteen : sum counts + 3 * melds ≡ 13
  pub least : IsLeast counts (IsGoal room melds) 1

pub ready_misses : (counts room : List ℕ) (melds : ℕ) → length counts ≡ 34 → IsRoom room melds → IsWithinRoom counts room → is_ready counts room melds ≡ true → OneMissed counts room melds
unfolding is_ready all_kinds
ready_misses counts room melds size is_room within ready = by_wait (found_in (is_wait counts room melds) 0 34 ready)
  where
    by_wait : Found (is_wait counts room melds) 34 → OneMissed counts room melds
    by_wait f = record { thirteen = thirteen; least = record { some = (one_more counts f.kind, (goal, one)); least = at_least } }
      where
        parts : (ltb (get_or counts f.kind 0) (get_or room f.kind 0) ≡ true) × (complete (one_more counts f.kind) melds ≡ true)
        parts = and_parts (ltb (get_or counts f.kind 0) (get_or room f.kind 0)) (complete (one_more counts f.kind) melds) f.yes

        whole : length (one_more counts f.kind) ≡ 34
        whole = length-set counts f.kind _ ∙ size

        wide : IsWithinRoom (one_more counts f.kind) room
        wide = more_within counts room f.kind size f.low within (ltb-true _ _ parts.0)

        are : IsCounts (one_more counts f.kind)
        are = counts_from room (one_more counts f.kind) melds is_room whole wide

        goal : IsGoal room melds (one_more counts f.kind)
        goal = record { are_counts = are; complete = complete-are (one_more counts f.kind) melds are parts.1; within = wide }

        fourteen : sum (one_more counts f.kind) ≡ suc (sum counts)
        fourteen = sum_more counts f.kind (let l = f.low in omega arith)

        thirteen : sum counts + 3 * melds ≡ 13
        thirteen = (let a = fourteen in let b = sum_complete (one_more counts f.kind) melds goal.complete in omega arith)

        at_least : (other : List ℕ) → IsGoal room melds other → 1 ≤ missing other counts
        at_least other g = (let a = sum_complete other melds g.complete in let b = sum_missing other counts in let c = thirteen in omega arith)

        at_most : missing (one_more counts f.kind) counts ≤ 1
        at_most =
            let a = one_nearer f.kind (one_more counts f.kind) counts (one_more counts f.kind) (size ∙ sym whole)
            (λ k inside. (let b = one_more_at counts f.kind k (let l = f.low in omega arith) in omega arith)) in
            let c = itself (one_more counts f.kind) in
            omega arith

        one : 1 ≡ missing (one_more counts f.kind) counts
        one = (let a = at_most in let b = at_least (one_more counts f.kind) goal in omega arith)

-- And where it has thirteen tiles and misses one, it is ready.
misses_ready : (counts room : List ℕ) (melds number : ℕ) → length counts ≡ 34 → sum counts + 3 * melds ≡ 13 → number ≤ 1 → IsLeast counts (IsGoal room melds) number → is_ready counts room melds ≡ true
unfolding is_ready
misses_ready counts room melds number size thirteen few least = any_kind (is_wait counts room melds) away.at (let i = away.inside in omega arith)
    (and_from (ltb (get_or counts away.at 0) (get_or room away.at 0)) (complete (one_more counts away.at) melds)
    (lt-ltb _ _ (let i = away.inside in let w = goal.within away.at (omega arith) in let m = away.more in omega arith))
    (ap (λ t. complete t melds) away.is ∙ are-complete target melds goal.are_counts goal.complete))
  where
    target : List ℕ
    target = least.some.0

    goal : IsGoal room melds target
    goal = least.some.1.0

    away : Away target counts
    away =
        let a = sum_complete target melds goal.complete in
        let b = sum_missing target counts in
        let c : number ≡ missing target counts = least.some.1.1 in
        away_from target counts (goal.are_counts.size ∙ sym size) (omega arith) (omega arith)

-- a hand of one tile less

less_within : (counts room : List ℕ) (kind : ℕ) → length counts ≡ 34 → kind < 34 → IsWithinRoom counts room → IsWithinRoom (one_less counts kind) room
less_within counts room kind size low within k small = (let a = one_less_at counts kind k (omega arith) in let w = within k small in omega arith)

-- Without any tile of it the hand misses as many tiles as with it, or more, and a ready hand misses one.
pub two_away : (counts room : List ℕ) (melds number : ℕ) → length counts ≡ 34 → IsRoom room melds → IsWithinRoom counts room → IsLeast counts (IsGoal room melds) number → 1 < number →
    (k : ℕ) → k < 34 → leaves_ready counts room melds k ≡ false
two_away counts room melds number size is_room within least far k low = by_test (leaves_ready counts room melds k) refl
  where
    never : is_ready (one_less counts k) room melds ≡ true → ⊥
    never ready =
        let one : OneMissed (one_less counts k) room melds = ready_misses (one_less counts k) room melds (length-set counts k _ ∙ size) is_room (less_within counts room k size low within) ready in
        let target : List ℕ = one.least.some.0 in
        let near : missing target counts ≤ missing target (one_less counts k) =
        fewer_held target counts (one_less counts k) (sym (length-set counts k _)) (λ j inside. (let a = one_less_at counts k j (omega arith) in omega arith)) in
        let few : number ≤ missing target counts = least.least target one.least.some.1.0 in
        let is : 1 ≡ missing target (one_less counts k) = one.least.some.1.1 in
        omega arith

    by_test : (b : Bool) → leaves_ready counts room melds k ≡ b → b ≡ false
    by_test false e = refl
    by_test true e = absurd (never (and_parts (ltb 0 (get_or counts k 0)) (is_ready (one_less counts k) room melds) e).1)

-- a tile to spare

-- A place of which a target leaves a tile.
record Over (t h : List ℕ) : Type 0 where
  at : ℕ
  inside : at < length h
  held : 0 < get_or h at 0
  near : missing t (one_less h at) ≤ missing t h

some_over : (t h : List ℕ) → length t ≡ length h → Over t h ⊎ (missing t h + sum h ≡ sum t)
some_over [] [] size = inr refl
some_over [] (y ∷ h) size = absurd (omega arith)
some_over (x ∷ t) [] size = absurd (omega arith)
some_over (x ∷ t) (y ∷ h) size = by_head (cases_lt x y) (some_over t h (omega (arith, size)))
  where
    by_head : (x < y) ⊎ (y ≤ x) → Over t h ⊎ (missing t h + sum h ≡ sum t) → Over (x ∷ t) (y ∷ h) ⊎ (missing (x ∷ t) (y ∷ h) + sum (y ∷ h) ≡ sum (x ∷ t))
    by_head (inl less) rest = inl (record {
      at = 0;
      inside = omega arith;
      held = (let h0 : 0 < y = omega (arith, less) in h0);
      near = (let n : (x - (y - 1)) + missing t h ≤ (x - y) + missing t h = omega (arith, less) in n);
    })
    by_head (inr most) (inl o) = inl (record {
      at = suc o.at;
      inside = (let i = o.inside in omega arith);
      held = o.held;
      near = (let n = o.near in let m : (x - y) + missing t (one_less h o.at) ≤ (x - y) + missing t h = omega (arith, n) in m);
    })
    by_head (inr most) (inr e) = inr (let a = sum-cons x t in let b = sum-cons y h in let n : (x - y) + missing t h + sum (y ∷ h) ≡ sum (x ∷ t) = omega (arith, a, b, e, most) in n)

-- A tile that is held.
record Held (h : List ℕ) : Type 0 where
  at : ℕ
  inside : at < length h
  held : 0 < get_or h at 0

some_held : (h : List ℕ) → 0 < sum h → Held h
some_held [] some = absurd (omega (arith, some))
some_held (zero ∷ h) some = (let r = some_held h (let a = sum-cons 0 h in omega (arith, a, some)) in record { at = suc r.at; inside = (let i = r.inside in omega arith); held = r.held })
some_held (suc y ∷ h) some = record { at = 0; inside = omega arith; held = (let p : 0 < suc y = omega arith in p) }

-- Of as many tiles as the target has one can go where at most one is missing.
record Spare (t h : List ℕ) : Type 0 where
  at : ℕ
  inside : at < length h
  held : 0 < get_or h at 0
  near : missing t (one_less h at) ≤ 1

spare : (t h : List ℕ) → length t ≡ length h → sum t ≡ sum h → missing t h ≤ 1 → 0 < sum h → Spare t h
spare t h size whole few some = by_over (some_over t h size)
  where
    by_over : Over t h ⊎ (missing t h + sum h ≡ sum t) → Spare t h
    by_over (inl o) = record { at = o.at; inside = o.inside; held = o.held; near = (let n = o.near in omega (arith, n, few)) }
    by_over (inr e) =
        let any : Held h = some_held h some in
        let nearer : missing t (one_less h any.at) ≤ missing t h + 1 =
        one_nearer any.at t (one_less h any.at) h (length-set h any.at _) (λ k inside. (let a = one_less_at h any.at k (let i = any.inside in omega (arith, i)) in omega (arith, a))) in
        record { at = any.at; inside = any.inside; held = any.held; near = omega (arith, nearer, e, whole) }

-- Where at most one tile is missing of fourteen, some discard leaves the hand ready.
pub one_away : (counts room : List ℕ) (melds number : ℕ) → length counts ≡ 34 → IsRoom room melds → IsWithinRoom counts room → IsLeast counts (IsGoal room melds) number → number ≤ 1 →
    sum counts + 3 * melds ≡ 14 → melds ≤ 4 → (k : ℕ) × ((k < 34) × (leaves_ready counts room melds k ≡ true))
one_away counts room melds number size is_room within least near fourteen few = (
  gone.at,
  (
    low,
    and_from (ltb 0 (get_or counts gone.at 0)) (is_ready (one_less counts gone.at) room melds) (lt-ltb 0 _ gone.held)
        (misses_ready (one_less counts gone.at) room melds (missing target (one_less counts gone.at)) (length-set counts gone.at _ ∙ size) thirteen gone.near left),
  ),
)
  where
    target : List ℕ
    target = least.some.0

    goal : IsGoal room melds target
    goal = least.some.1.0

    gone : Spare target counts
    gone =
        let a = sum_complete target melds goal.complete in
        let c : number ≡ missing target counts = least.some.1.1 in
        spare target counts (goal.are_counts.size ∙ sym size) (omega (arith, a, fourteen)) (omega (arith, c, near)) (omega (arith, fourteen, few))

    low : gone.at < 34
    low = (let i = gone.inside in omega (arith, i, size))

    thirteen : sum (one_less counts gone.at) + 3 * melds ≡ 13
    thirteen = (let a = sum_less counts gone.at gone.inside gone.held in omega (arith, a, fourteen))

    left : IsLeast (one_less counts gone.at) (IsGoal room melds) (missing target (one_less counts gone.at))
    left = record {
      some = (target, (goal, refl));
      least = λ other is. (let n = gone.near in let a = sum_complete other melds is.complete in let b = sum_missing other (one_less counts gone.at) in omega (arith, n, a, b, thirteen));
    }
