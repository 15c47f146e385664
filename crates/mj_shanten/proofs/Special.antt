-- What seven pairs and thirteen orphans miss at least, and the fewest that a complete hand misses.
use Rattle.std.proofs.Common.{◌≡◌, ◌⊎◌, cond, eqb, ℕ, zero, suc, ◌+◌, ◌-◌, ◌<◌, ◌≤◌, Bool, true, false, Option, None, Some, List, [], ◌∷◌, ◌++◌, map}
use Rattle.std.proofs.Common.{min, length, take, get_or, set, get_or-set_other, get_or-set_same, refl, sym, subst, ap, ◌∙◌, inl, inr, arith}
use Rattle.std.specs.Prelude.{IsSomeAnd}
use Rattle.std.proofs.lemmas.Bool.{cases_eq, cases_lt, eq-eqb, ne_eqb}
use Rattle.std.proofs.lemmas.List.{ext_get_or, length-set, length-take-le, get_or-take}
use Rattle.std.proofs.lemmas.List.FromFn.{get_or-map-range_with_len, length-map-range_with_len}
use Rattle.mj_tiles.specs.Counts.{all_kinds}
use Rattle.mj_tiles.specs.Terminals.{is_terminal_or_honour}
use Rattle.mj_readings.specs.Complete.{orphan_number}
use Rattle.mj_suits.specs.Targets.{missing}
use Rattle.mj_suits.specs.Improves.{Improves}
use Rattle.mj_suits.specs.Tables.{IsLeast}
use Rattle.mj_suits.proofs.Near.{Improves-not}
use Rattle.mj_shanten.specs.Room.{IsRoom}
use Rattle.mj_shanten.specs.Shanten.{IsGoal, IsShanten}
use Rattle.mj_shanten.specs.Suits.{with_two, Padded, IsJoint, suits_of}
use Rattle.mj_shanten.specs.Walked.{IsLeastOr}
use Rattle.mj_shanten.specs.Inner.Special.{IsPairs, IsHeldTwice, IsOrphans, IsSpecial, IsLeastWith, so_often}
use Rattle.mj_shanten.proofs.Hands.{missing_two}
use Rattle.mj_shanten.proofs.Doubles.{orphans_size, orphans_at}
use Rattle.mj_shanten.proofs.Pairs.{seven_parts, miss_least, least}
use Rattle.mj_shanten.proofs.Exists.{some_goal}
use Rattle.mj_shanten.proofs.Sums.{missing_few, sum_complete}
use Rattle.mj_shanten.proofs.Goal.{goal_searched, special_goal, joint_goal, wide_missing}

-- ---- thirteen orphans

abbrev each_orphan : ℕ → ℕ
each_orphan kind = cond (is_terminal_or_honour kind) 1 0

at_least_each : (double kind : ℕ) → each_orphan kind ≤ orphan_number double kind
at_least_each double kind = go (is_terminal_or_honour kind) (eqb kind double)
  where
    go : (a b : Bool) → cond a 1 0 ≤ cond a (cond b 2 1) 0
    go true true = omega arith
    go true false = omega arith
    go false b = omega arith

missing_map : (f g : ℕ → ℕ) → ((k : ℕ) → f k ≤ g k) → (ks more held : List ℕ) → missing (map f ks ++ more) held ≤ missing (map g ks ++ more) held
missing_map f g less [] more held = omega arith
missing_map f g less (k ∷ ks) more [] = (let a = less k in let b = missing_map f g less ks more [] in omega arith)
missing_map f g less (k ∷ ks) more (h ∷ hs) = (let a = less k in let b = missing_map f g less ks more hs in omega arith)

singles_are : (singles : List ℕ) → singles ≡ with_two (map each_orphan all_kinds) → (held t : List ℕ) → Padded IsOrphans t → missing singles held ≤ missing t held
singles_are singles is held t h =
    let tiles : t ≡ with_two (map (orphan_number h.is.double) all_kinds) = h.numbers_are ∙ ap with_two h.is.are.tiles in
    let bound = missing_map each_orphan (orphan_number h.is.double) (at_least_each h.is.double) all_kinds (0 ∷ 0 ∷ []) held in
    let a : missing singles held ≡ missing (with_two (map each_orphan all_kinds)) held = ap (λ s. missing s held) is in
    let b : missing t held ≡ missing (with_two (map (orphan_number h.is.double) all_kinds)) held = ap (λ s. missing s held) tiles in
    omega arith

the_singles : (1 ∷ 0 ∷ 0 ∷ 0 ∷ 0 ∷ 0 ∷ 0 ∷ 0 ∷ 1 ∷ 1 ∷ 0 ∷ 0 ∷ 0 ∷ 0 ∷ 0 ∷ 0 ∷ 0 ∷ 1 ∷ 1 ∷ 0 ∷ 0 ∷ 0 ∷ 0 ∷ 0 ∷ 0 ∷ 0 ∷ 1 ∷ 1 ∷ 1 ∷ 1 ∷ 1 ∷ 1 ∷ 1 ∷ 1 ∷ 0 ∷ 0 ∷ []) ≡ with_two
    (map each_orphan all_kinds)
unfolding all_kinds is_terminal_or_honour
the_singles = refl

-- each orphan once, and one of them once more

each_size : length (map each_orphan all_kinds) ≡ 34
unfolding all_kinds
each_size = length-map-range_with_len each_orphan 0 34

each_at : (kind : ℕ) → kind < 34 → get_or (map each_orphan all_kinds) kind 0 ≡ each_orphan kind
unfolding all_kinds
each_at kind within = get_or-map-range_with_len each_orphan 0 34 kind kind 0 within (omega arith)

once_more : (double : ℕ) → double < 34 → is_terminal_or_honour double ≡ true → map (orphan_number double) all_kinds ≡ set (map each_orphan all_kinds) double 2
once_more double low orphan =
    ext_get_or 0 (map (orphan_number double) all_kinds) (set (map each_orphan all_kinds) double 2) (orphans_size double ∙ sym (length-set (map each_orphan all_kinds) double 2 ∙ each_size))
    (λ k inside. at k (let s = orphans_size double in omega arith))
  where
    at : (k : ℕ) → k < 34 → get_or (map (orphan_number double) all_kinds) k 0 ≡ get_or (set (map each_orphan all_kinds) double 2) k 0
    at k small = elim (cases_eq k double) [
      | inl same ↦ orphans_at double k small ∙ ap (λ b. cond (is_terminal_or_honour k) (cond b 2 1) 0) (eq-eqb k double same)
          ∙ ap (λ b. cond b 2 0) (ap is_terminal_or_honour same ∙ orphan)
          ∙ sym (ap (λ j. get_or (set (map each_orphan all_kinds) double 2) j 0) same ∙ get_or-set_same (map each_orphan all_kinds) double 2 0 (let s = each_size in omega arith))
      | inr other ↦ orphans_at double k small ∙ ap (λ b. cond (is_terminal_or_honour k) (cond b 2 1) 0) (ne_eqb k double other)
          ∙ sym (get_or-set_other (map each_orphan all_kinds) double k 2 0 other ∙ each_at k small)
    ]

missing_set : (t held : List ℕ) (n a : ℕ) → n < length t → length t ≤ length held → missing (set t n a) held + (get_or t n 0 - get_or held n 0) ≡ missing t held + (a - get_or held n 0)
missing_set [] held n a inside wide = absurd (omega arith)
missing_set (x ∷ t) [] n a inside wide = absurd (omega arith)
missing_set (x ∷ t) (h ∷ held) zero a inside wide = (let e : (a - h) + missing t held + (x - h) ≡ (x - h) + missing t held + (a - h) = omega arith in e)
missing_set (x ∷ t) (h ∷ held) (suc n) a inside wide =
    let rest : missing (set t n a) held + (get_or t n 0 - get_or held n 0) ≡ missing t held + (a - get_or held n 0) = missing_set t held n a (omega arith) (omega arith) in
    let e : (x - h) + missing (set t n a) held + (get_or t n 0 - get_or held n 0) ≡ (x - h) + missing t held + (a - get_or held n 0) = omega arith in e

-- with one of them twice they miss one tile more, but where that is held twice
orphans_miss : (singles held : List ℕ) (double : ℕ) → singles ≡ with_two (map each_orphan all_kinds) → length held ≡ 36 → double < 34 → is_terminal_or_honour double ≡ true
    → missing (with_two (map (orphan_number double) all_kinds)) held + (1 - get_or held double 0) ≡ missing singles held + (2 - get_or held double 0)
orphans_miss singles held double is wide low orphan =
    let a : missing (with_two (map (orphan_number double) all_kinds)) held ≡ missing (set (map each_orphan all_kinds) double 2) (take 34 held) =
    missing_two (map (orphan_number double) all_kinds) held (orphans_size double) wide ∙ ap (λ t. missing t (take 34 held)) (once_more double low orphan) in
    let b : missing singles held ≡ missing (map each_orphan all_kinds) (take 34 held) = ap (λ s. missing s held) is ∙ missing_two (map each_orphan all_kinds) held each_size wide in
    let s = each_size in
    let l : length (take 34 held) ≡ 34 = length-take-le 34 held (omega arith) in
    let c = missing_set (map each_orphan all_kinds) (take 34 held) double 2 (omega arith) (omega arith) in
    let d : get_or (take 34 held) double 0 ≡ get_or held double 0 = get_or-take 34 held double 0 low in
    let e : get_or (map each_orphan all_kinds) double 0 ≡ 1 = each_at double low ∙ ap (λ b. cond b 1 0) orphan in
    omega arith

pub singles_few : (held : List ℕ) → missing
    (1 ∷ 0 ∷ 0 ∷ 0 ∷ 0 ∷ 0 ∷ 0 ∷ 0 ∷ 1 ∷ 1 ∷ 0 ∷ 0 ∷ 0 ∷ 0 ∷ 0 ∷ 0 ∷ 0 ∷ 1 ∷ 1 ∷ 0 ∷ 0 ∷ 0 ∷ 0 ∷ 0 ∷ 0 ∷ 0 ∷ 1 ∷ 1 ∷ 1 ∷ 1 ∷ 1 ∷ 1 ∷ 1 ∷ 1 ∷ 0 ∷ 0 ∷ []) held ≤ 13
singles_few held = missing_few (1 ∷ 0 ∷ 0 ∷ 0 ∷ 0 ∷ 0 ∷ 0 ∷ 0 ∷ 1 ∷ 1 ∷ 0 ∷ 0 ∷ 0 ∷ 0 ∷ 0 ∷ 0 ∷ 0 ∷ 1 ∷ 1 ∷ 0 ∷ 0 ∷ 0 ∷ 0 ∷ 0 ∷ 0 ∷ 0 ∷ 1 ∷ 1 ∷ 1 ∷ 1 ∷ 1 ∷ 1 ∷ 1 ∷ 1 ∷ 0 ∷ 0 ∷ []) held

-- where one of them is held twice
pub orphans_twice : (held : List ℕ) (singles : ℕ)
    → singles ≡ missing (1 ∷ 0 ∷ 0 ∷ 0 ∷ 0 ∷ 0 ∷ 0 ∷ 0 ∷ 1 ∷ 1 ∷ 0 ∷ 0 ∷ 0 ∷ 0 ∷ 0 ∷ 0 ∷ 0 ∷ 1 ∷ 1 ∷ 0 ∷ 0 ∷ 0 ∷ 0 ∷ 0 ∷ 0 ∷ 0 ∷ 1 ∷ 1 ∷ 1 ∷ 1 ∷ 1 ∷ 1 ∷ 1 ∷ 1 ∷ 0 ∷ 0 ∷ []) held
    → length held ≡ 36 → (kind : ℕ) × IsHeldTwice held kind → IsLeast held (Padded IsOrphans) singles
orphans_twice held singles is wide found = record {
  some = (
    with_two (map (orphan_number found.0) all_kinds),
    (
      record { counts = map (orphan_number found.0) all_kinds; is = record { double = found.0; are = record { kind = found.1.kind_is; orphan = found.1.orphan; tiles = refl } }; numbers_are = refl },
      (let m = orphans_miss (1 ∷ 0 ∷ 0 ∷ 0 ∷ 0 ∷ 0 ∷ 0 ∷ 0 ∷ 1 ∷ 1 ∷ 0 ∷ 0 ∷ 0 ∷ 0 ∷ 0 ∷ 0 ∷ 0 ∷ 1 ∷ 1 ∷ 0 ∷ 0 ∷ 0 ∷ 0 ∷ 0 ∷ 0 ∷ 0 ∷ 1 ∷ 1 ∷ 1 ∷ 1 ∷ 1 ∷ 1 ∷ 1 ∷ 1 ∷ 0 ∷ 0 ∷ []) held
          found.0 the_singles wide found.1.kind_is found.1.orphan in let t = found.1.twice in omega arith),
    ),
  );
  least = λ t orphans. (let m = singles_are _ the_singles held t orphans in omega arith);
}

-- where none is
pub orphans_single : (held : List ℕ) (singles : ℕ)
    → singles ≡ missing (1 ∷ 0 ∷ 0 ∷ 0 ∷ 0 ∷ 0 ∷ 0 ∷ 0 ∷ 1 ∷ 1 ∷ 0 ∷ 0 ∷ 0 ∷ 0 ∷ 0 ∷ 0 ∷ 0 ∷ 1 ∷ 1 ∷ 0 ∷ 0 ∷ 0 ∷ 0 ∷ 0 ∷ 0 ∷ 0 ∷ 1 ∷ 1 ∷ 1 ∷ 1 ∷ 1 ∷ 1 ∷ 1 ∷ 1 ∷ 0 ∷ 0 ∷ []) held
    → length held ≡ 36 → ((kind : ℕ) → IsHeldTwice held kind → ⊥) → IsLeast held (Padded IsOrphans) (singles + 1)
unfolding is_terminal_or_honour
orphans_single held singles is wide none = record {
  some = (
    with_two (map (orphan_number 0) all_kinds),
    (
      record { counts = map (orphan_number 0) all_kinds; is = record { double = 0; are = record { kind = omega arith; orphan = refl; tiles = refl } }; numbers_are = refl },
      sym (one_more 0 (omega arith) refl),
    ),
  );
  least = λ t orphans.
      (let m = one_more orphans.is.double orphans.is.are.kind orphans.is.are.orphan in
      let e : missing t held ≡ missing (with_two (map (orphan_number orphans.is.double) all_kinds)) held = ap (λ s. missing s held) (orphans.numbers_are ∙ ap with_two orphans.is.are.tiles) in
      omega arith);
}
  where
    one_more : (double : ℕ) → double < 34 → is_terminal_or_honour double ≡ true → missing (with_two (map (orphan_number double) all_kinds)) held ≡ singles + 1
    one_more double low orphan =
        let m = orphans_miss (1 ∷ 0 ∷ 0 ∷ 0 ∷ 0 ∷ 0 ∷ 0 ∷ 0 ∷ 1 ∷ 1 ∷ 0 ∷ 0 ∷ 0 ∷ 0 ∷ 0 ∷ 0 ∷ 0 ∷ 1 ∷ 1 ∷ 0 ∷ 0 ∷ 0 ∷ 0 ∷ 0 ∷ 0 ∷ 0 ∷ 1 ∷ 1 ∷ 1 ∷ 1 ∷ 1 ∷ 1 ∷ 1 ∷ 1 ∷ 0 ∷ 0 ∷ []) held
        double the_singles wide low orphan in
        elim (cases_lt (get_or held double 0) 2) [
          | inl few ↦ omega arith
          | inr twice ↦ absurd (none double record { kind_is = low; orphan = orphan; twice = twice })
        ]

-- ---- seven pairs

pairs_miss : (held t : List ℕ) → length held ≡ 36 → length (take 34 held) ≡ 34 → Padded IsPairs t → 7 - so_often 2 (take 34 held) ≤ missing t held
pairs_miss held t wide size h =
    let p = seven_parts h.counts h.is.seven in
    let a : missing t held ≡ missing h.counts (take 34 held) = ap (λ s. missing s held) h.numbers_are ∙ missing_two h.counts held h.is.size wide in
    let b : least (take 34 held) 7 ≤ missing h.counts (take 34 held) =
    subst (λ n. least (take 34 held) n ≤ missing h.counts (take 34 held)) p.1 (miss_least h.counts (take 34 held) (h.is.size ∙ sym size) p.0) in
    omega arith

pub special_misses : (held : List ℕ) (pairs singles number : ℕ) → number ≡ min pairs singles → length held ≡ 36 → length (take 34 held) ≡ 34 → pairs ≡ 7 - so_often 2 (take 34 held)
    → singles ≡ missing (1 ∷ 0 ∷ 0 ∷ 0 ∷ 0 ∷ 0 ∷ 0 ∷ 0 ∷ 1 ∷ 1 ∷ 0 ∷ 0 ∷ 0 ∷ 0 ∷ 0 ∷ 0 ∷ 0 ∷ 1 ∷ 1 ∷ 0 ∷ 0 ∷ 0 ∷ 0 ∷ 0 ∷ 0 ∷ 0 ∷ 1 ∷ 1 ∷ 1 ∷ 1 ∷ 1 ∷ 1 ∷ 1 ∷ 1 ∷ 0 ∷ 0 ∷ []) held
    → (melds : ℕ) (t : List ℕ) → IsSpecial melds t → number ≤ missing t held
special_misses held pairs singles number is wide size pairs_are singles_is melds t special = elim special.either [
  | inl seven ↦ (let m = pairs_miss held t wide size seven in omega arith)
  | inr orphans ↦ (let m = singles_are _ the_singles held t orphans in omega arith)
]

-- the best hand is nearer than all of these
pub special_far : (held : List ℕ) (melds number : ℕ) (best : Option (ℕ × List ℕ)) → IsSomeAnd best (λ answer. answer.0 < number)
    → ((m : ℕ) (t : List ℕ) → IsSpecial m t → number ≤ missing t held) → Improves held (IsSpecial melds) best best
special_far held melds number None near least = absurd near
special_far held melds number (Some answer) near least = Improves-not held (IsSpecial melds) (Some answer) (λ t special. inl (let m = least melds t special in omega arith))

-- the best hand is nearer than thirteen orphans
pub orphans_far : (held : List ℕ) (number : ℕ) (best : Option (ℕ × List ℕ)) → IsSomeAnd best (λ answer. answer.0 < number)
    → number ≡ missing (1 ∷ 0 ∷ 0 ∷ 0 ∷ 0 ∷ 0 ∷ 0 ∷ 0 ∷ 1 ∷ 1 ∷ 0 ∷ 0 ∷ 0 ∷ 0 ∷ 0 ∷ 0 ∷ 0 ∷ 1 ∷ 1 ∷ 0 ∷ 0 ∷ 0 ∷ 0 ∷ 0 ∷ 0 ∷ 0 ∷ 1 ∷ 1 ∷ 1 ∷ 1 ∷ 1 ∷ 1 ∷ 1 ∷ 1 ∷ 0 ∷ 0 ∷ []) held
    → Improves held (Padded IsOrphans) best best
orphans_far held number None near is = absurd near
orphans_far held number (Some answer) near is = Improves-not held (Padded IsOrphans) (Some answer) (λ t orphans. inl (let m = singles_are _ the_singles held t orphans in omega arith))

-- ---- the fewest that a complete hand misses

-- none of these is nearer than the sets
pub sets_kept : (held : List ℕ) (P : List ℕ → Type 0) (sets : ℕ) → ((t : List ℕ) → P t → sets ≤ missing t held) → IsLeastWith held P sets sets
sets_kept held P sets far = record { at_most = omega arith; least = far; some = inl refl }

-- the fewest of the sets and the pairs, which no orphans go below, or the orphans that do
pub special_least : (held : List ℕ) (sets pairs nearest number : ℕ) → nearest ≡ min sets pairs → IsLeast held (Padded IsPairs) pairs → number ≤ nearest
    → ((t : List ℕ) → Padded IsOrphans t → number ≤ missing t held)
    → (number ≡ nearest) ⊎ ((t : List ℕ) × (Padded IsOrphans t × (number ≡ missing t held))) → IsLeastWith held (IsSpecial 0) sets number
special_least held sets pairs nearest number is pairs_are few far from = record {
  at_most = omega arith;
  least = λ t special. elim special.either [
    | inl seven ↦ (let m = pairs_are.least t seven in omega arith)
    | inr orphans ↦ far t orphans
  ];
  some = elim from [
    | inl same ↦ elim (cases_lt pairs sets) [
      | inl less ↦ inr (pairs_are.some.0, (record { no_melds = refl; either = inl pairs_are.some.1.0 }, (let e = pairs_are.some.1.1 in omega arith)))
      | inr more ↦ inl (omega arith)
    ]
    | inr found ↦ inr (found.0, (record { no_melds = refl; either = inr found.1.0 }, found.1.1))
  ];
}

-- the orphans all miss as many
pub orphans_no_less : (held : List ℕ) (sets pairs nearest singles : ℕ) → nearest ≡ min sets pairs → IsLeast held (Padded IsPairs) pairs → nearest ≤ singles
    → singles ≡ missing (1 ∷ 0 ∷ 0 ∷ 0 ∷ 0 ∷ 0 ∷ 0 ∷ 0 ∷ 1 ∷ 1 ∷ 0 ∷ 0 ∷ 0 ∷ 0 ∷ 0 ∷ 0 ∷ 0 ∷ 1 ∷ 1 ∷ 0 ∷ 0 ∷ 0 ∷ 0 ∷ 0 ∷ 0 ∷ 0 ∷ 1 ∷ 1 ∷ 1 ∷ 1 ∷ 1 ∷ 1 ∷ 1 ∷ 1 ∷ 0 ∷ 0 ∷ []) held
    → IsLeastWith held (IsSpecial 0) sets nearest
orphans_no_less held sets pairs nearest singles is pairs_are few singles_is =
    special_least held sets pairs nearest nearest is pairs_are (omega arith) (λ t orphans. (let m = singles_are _ the_singles held t orphans in omega arith)) (inl refl)

-- the nearest orphans, or what is nearer
pub both_least : (held : List ℕ) (sets pairs nearest orphans number : ℕ) → nearest ≡ min sets pairs → IsLeast held (Padded IsPairs) pairs → IsLeast held (Padded IsOrphans) orphans
    → number ≡ min nearest orphans
    → IsLeastWith held (IsSpecial 0) sets number
both_least held sets pairs nearest orphans number is pairs_are orphans_are number_is =
    special_least held sets pairs nearest number is pairs_are (omega arith) (λ t far. (let l = orphans_are.least t far in omega arith))
    (elim (cases_lt orphans nearest) [
      | inl less ↦ inr (orphans_are.some.0, (orphans_are.some.1.0, (let e = orphans_are.some.1.1 in omega arith)))
      | inr more ↦ inl (omega arith)
    ])

-- with melds there are none of these
pub special_melds : (held : List ℕ) (melds sets : ℕ) → 0 < melds → IsLeastWith held (IsSpecial melds) sets sets
special_melds held melds sets some = sets_kept held (IsSpecial melds) sets (λ t special. absurd (let e = special.no_melds in omega arith))

goal_few : (counts room o : List ℕ) (melds : ℕ) → IsGoal room melds o → missing o counts ≤ 14
goal_few counts room o melds goal = (let a = missing_few o counts in let c = sum_complete o melds goal.complete in omega arith)

pub least_goal : (counts room : List ℕ) (melds sets number : ℕ) → melds ≤ 4 → IsRoom room melds → length counts ≡ 34 → length room ≡ 34
    → IsLeastOr (with_two counts) (IsJoint (suits_of (with_two counts) (with_two room)) (4 - melds) true) sets
    → IsLeastWith (with_two counts) (IsSpecial melds) sets number → IsLeast counts (IsGoal room melds) number
least_goal counts room melds sets number few is_room size room_size joint special = record {
  some = elim special.some [
    | inl same ↦ elim joint.some [
      | inl fifteen ↦
          let g = some_goal room melds few is_room in
          let a = lower g.counts g.is in
          let b = goal_few counts room g.counts melds g.is in
          absurd (omega arith)
      | inr found ↦ taken found.0 (joint_goal counts room found.0 melds few is_room room_size found.1.0) (same ∙ found.1.1)
    ]
    | inr found ↦ taken found.0 (special_goal room found.0 melds is_room found.1.0) found.1.1
  ];
  least = lower;
}
  where
    lower : (o : List ℕ) → IsGoal room melds o → number ≤ missing o counts
    lower o goal =
        let wide = wide_missing o counts goal.are_counts.size size in
        let most = special.at_most in
        elim (goal_searched counts room o melds is_room room_size goal) [
          | inl s ↦ (let l = special.least (with_two o) s in omega arith)
          | inr j ↦ (let l = joint.least (with_two o) j in omega arith)
        ]

    taken : (t : List ℕ) → Padded (IsGoal room melds) t → number ≡ missing t (with_two counts) → (target : List ℕ) × (IsGoal room melds target × (number ≡ missing target counts))
    taken t p is = (p.counts, (p.is, is ∙ ap (λ u. missing u (with_two counts)) p.numbers_are ∙ wide_missing p.counts counts p.is.are_counts.size size))

-- the number is one less
pub number_is : (counts room : List ℕ) (melds least : ℕ) → IsLeast counts (IsGoal room melds) least → (number : ℕ) (target : List ℕ) → IsShanten counts room melds number target → least - 1 ≡ number
number_is counts room melds least is number target shanten =
    let a = is.least target shanten.is_goal in
    let b = shanten.number_is in
    let c = shanten.least is.some.0 is.some.1.0 in
    let d = is.some.1.1 in
    omega arith
