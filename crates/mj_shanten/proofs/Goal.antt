-- The best hand of all, and what it says of shanten.
use Rattle.std.proofs.Common.{ℕ, ◌≡◌, ◌≢◌, ◌<◌, ◌≤◌, ◌+◌, ◌-◌, ◌*◌, ◌++◌, ◌∷◌, [], Bool, true, false, cond, eqb, List, Option}
use Rattle.std.proofs.Common.{None, Some, length, get_or, take, sum, refl, sym, ◌∙◌, ap, subst, ◌⊎◌, inl, inr, arith}
use Rattle.std.specs.Prelude.{MatchOption}
use Rattle.std.specs.Ordering.{nat_cmp}
use Rattle.std.specs.Cmp.Lexicographic.{slice_cmp}
use Rattle.std.specs.List.{count_by, flat_map}
use Rattle.std.proofs.lemmas.Bool.{cases_lt, ne_eqb}
use Rattle.std.proofs.lemmas.List.{take_at, get_or_append_left, get_or-append_right, get_or_past, length-append, nil_from_length}
use Rattle.mj_tiles.specs.Counts.{IsCounts}
use Rattle.mj_readings.specs.declared.reading.Set.{Set}
use Rattle.mj_readings.specs.Sets.{tiles_of_set}
use Rattle.mj_readings.specs.Complete.{IsComplete, AreSetsAndPair, orphan_number}
use Rattle.mj_readings.proofs.Laws.{length-tally, get_or-tally}
use Rattle.mj_readings.proofs.Tiles.{number_at, count-flat_map}
use Rattle.mj_suits.specs.Targets.{missing, IsNearest}
use Rattle.mj_suits.specs.Improves.{Improves}
use Rattle.mj_suits.proofs.Near.{Improves-both, Improves-not}
use Rattle.mj_suits.proofs.Near.{best_is_nearest}
use Rattle.mj_suits.proofs.Near.{missing-append}
use Rattle.mj_shanten.specs.Room.{IsRoom, IsHand, IsWithinRoom}
use Rattle.mj_shanten.specs.Shanten.{IsGoal, IsShanten}
use Rattle.mj_shanten.specs.Suits.{Padded, with_two, IsJoint, suits_of}
use Rattle.mj_shanten.specs.Inner.Special.{IsPairs, IsOrphans, IsSpecial}
use Rattle.mj_shanten.proofs.Joint.{cmp_before}
use Rattle.mj_shanten.proofs.Parting.{number_past}
use Rattle.mj_shanten.proofs.Standard.{joint_of, hand_of, IsMade}
use Rattle.mj_lists.proofs.Fronts.{zero_at}
use Rattle.mj_shanten.proofs.Pairs.{seven_parts, pairs_few}
use Rattle.mj_shanten.proofs.Doubles.{orphans_size, orphans_at, orphan_few}
use Rattle.mj_shanten.proofs.Sums.{sum_missing, missing_few, sum_complete}
use Rattle.mj_shanten.proofs.Order.{sorted_order}
use Rattle.mj_shanten.proofs.Exists.{some_goal}

pub special_off : (held : List ℕ) (melds : ℕ) (a : Option (ℕ × List ℕ)) → 0 < melds → Improves held (IsSpecial melds) a a
special_off held melds a some = Improves-not held (IsSpecial melds) a (λ t h. (let e = h.no_melds in absurd (omega arith)))

pub special_on : (held : List ℕ) (melds : ℕ) (a b c : Option (ℕ × List ℕ)) → melds ≡ 0 → Improves held (Padded IsPairs) a b → Improves held (Padded IsOrphans) b c → Improves held (IsSpecial melds) a c
special_on held melds a b c none first second =
    Improves-both held (IsSpecial melds) (Padded IsPairs) (Padded IsOrphans) a b c
    (λ t h. record { no_melds = none; either = inl h })
    (λ t h. record { no_melds = none; either = inr h })
    (λ t h. h.either) first second

-- ---- two numbers more

pub wide_low : (c : List ℕ) (k : ℕ) → length c ≡ 34 → k < 34 → get_or (with_two c) k 0 ≡ get_or c k 0
wide_low c k size low = get_or_append_left c (0 ∷ 0 ∷ []) 0 k (omega arith)

wide_past : (c : List ℕ) (k : ℕ) → length c ≡ 34 → 34 ≤ k → get_or (with_two c) k 0 ≡ 0
wide_past c k size past = get_or-append_right c (0 ∷ 0 ∷ []) 34 k 0 size past ∙ zero_at 2 (k - 34)

pub wide_size : (c : List ℕ) → length c ≡ 34 → length (with_two c) ≡ 36
wide_size c size = length-append c (0 ∷ 0 ∷ []) ∙ ap (λ n. n + 2) size

pub wide_missing : (c h : List ℕ) → length c ≡ 34 → length h ≡ 34 → missing (with_two c) (with_two h) ≡ missing c h
wide_missing c h a b = missing-append c (0 ∷ 0 ∷ []) h (0 ∷ 0 ∷ []) (a ∙ sym b) ∙ (let e : missing c h + 0 ≡ missing c h = omega arith in e)

-- ---- the room

room_four : (room : List ℕ) (melds : ℕ) → IsRoom room melds → (k : ℕ) → k < 34 → get_or room k 0 ≤ 4
room_four room melds h k low = (let l = h.left k low in omega arith)

no_melds_room : (room : List ℕ) (melds : ℕ) → IsRoom room melds → melds ≡ 0 → (k : ℕ) → k < 34 → get_or room k 0 ≡ 4
no_melds_room room melds h none k low =
    let e : h.sets ≡ [] = nil_from_length h.sets (h.so_many ∙ none) in
    let f : count_by (λ tile. eqb tile k) (flat_map tiles_of_set h.sets) ≡ 0 = ap (λ s. count_by (λ tile. eqb tile k) (flat_map tiles_of_set s)) e in
    let l = h.left k low in
    omega arith

pub counts_from : (room c : List ℕ) (melds : ℕ) → IsRoom room melds → length c ≡ 34 → IsWithinRoom c room → IsCounts c
counts_from room c melds h size within = record { size = size; within = λ k. four k (cases_lt k 34) }
  where
    four : (k : ℕ) → (k < 34) ⊎ (34 ≤ k) → get_or c k 0 ≤ 4
    four k (inl low) = (let a = within k low in let b = room_four room melds h k low in omega arith)
    four k (inr past) = (let a : get_or c k 0 ≡ 0 = get_or_past c k 0 (omega arith) in omega arith)

-- a pair or a triplet of seven pairs and thirteen orphans is within four
small_within : (room c : List ℕ) (melds : ℕ) → IsRoom room melds → melds ≡ 0 → ((k : ℕ) → get_or c k 0 ≤ 4) → IsWithinRoom c room
small_within room c melds h none few k low = (let a = few k in let b = no_melds_room room melds h none k low in omega arith)

sets_at : (counts : List ℕ) (number : ℕ) (sets : List Set) (pair : ℕ) → AreSetsAndPair counts number sets pair → (k : ℕ) → k < 34 → get_or counts k 0 ≡ number_at k sets + cond (eqb pair k) 2 0
sets_at counts number sets pair h k low =
    ap (λ c. get_or c k 0) (sym h.tiles) ∙ get_or-tally (flat_map tiles_of_set sets ++ pair ∷ pair ∷ []) k low ∙ count-flat_map k sets (pair ∷ pair ∷ [])
    ∙ ap (λ n. number_at k sets + n) (twice (eqb pair k))
  where
    twice : (b : Bool) → 0 + cond b 1 0 + cond b 1 0 ≡ cond b 2 0
    twice true = refl
    twice false = refl

-- a goal was searched
pub goal_searched : (counts room c : List ℕ) (melds : ℕ) → IsRoom room melds → length room ≡ 34 → IsGoal room melds c
    → IsSpecial melds (with_two c) ⊎ IsJoint (suits_of (with_two counts) (with_two room)) (4 - melds) true (with_two c)
goal_searched counts room c melds h size goal = which goal.complete
  where
    which : IsComplete c melds → IsSpecial melds (with_two c) ⊎ IsJoint (suits_of (with_two counts) (with_two room)) (4 - melds) true (with_two c)
    which (inl s) = inr (subst (λ n. IsJoint (suits_of (with_two counts) (with_two room)) n true (with_two c)) s.1.2.so_many
        (joint_of (with_two counts) (with_two room) (with_two c) s.1.0 s.1.1 (wide_size c goal.are_counts.size) s.1.2.concealed s.1.2.pair_kind
        (λ k inside. elim (cases_lt k 34) [
          | inl low ↦ wide_low c k goal.are_counts.size low ∙ sets_at c (4 - melds) s.1.0 s.1.1 s.1.2 k low
          | inr past ↦ (let a = wide_past c k goal.are_counts.size past in let b = number_past s.1.0 k s.1.2.concealed past in
              let p = s.1.2.pair_kind in let apart : s.1.1 ≢ k = (λ e. omega arith) in let d : ◌≡◌ {A = ℕ} (cond (eqb s.1.1 k) 2 0) 0 = ap (λ b. cond b 2 0) (ne_eqb s.1.1 k apart) in omega arith)
        ])
        (λ k inside. elim (cases_lt k 34) [
          | inl low ↦ (let a = wide_low c k goal.are_counts.size low in let b = wide_low room k size low in let w = goal.within k low in omega arith)
          | inr past ↦ (let a = wide_past c k goal.are_counts.size past in omega arith)
        ])))
    which (inr (inl p)) = inl record { no_melds = p.0; either = inl record { counts = c; is = record { size = goal.are_counts.size; seven = p.1 }; numbers_are = refl } }
    which (inr (inr o)) = inl record { no_melds = o.0; either = inr record { counts = c; is = record { double = o.1.0; are = o.1.1 }; numbers_are = refl } }

-- what was searched is a goal
pub special_goal : (room t : List ℕ) (melds : ℕ) → IsRoom room melds → IsSpecial melds t → Padded (IsGoal room melds) t
special_goal room t melds h s = which s.either
  where
    which : Padded IsPairs t ⊎ Padded IsOrphans t → Padded (IsGoal room melds) t
    which (inl p) = record {
      counts = p.counts;
      is = record {
        are_counts = record { size = p.is.size; within = λ k. pairs_few p.counts k (seven_parts p.counts p.is.seven).0 };
        complete = inr (inl (s.no_melds, p.is.seven));
        within = small_within room p.counts melds h s.no_melds (λ k. pairs_few p.counts k (seven_parts p.counts p.is.seven).0);
      };
      numbers_are = p.numbers_are;
    }
    which (inr o) = record {
      counts = o.counts;
      is = record {
        are_counts = record { size = size_of o; within = few_of o };
        complete = inr (inr (s.no_melds, (o.is.double, o.is.are)));
        within = small_within room o.counts melds h s.no_melds (few_of o);
      };
      numbers_are = o.numbers_are;
    }
      where
        size_of : Padded IsOrphans t → length o.counts ≡ 34
        size_of q = ap length o.is.are.tiles ∙ orphans_size o.is.double

        few_of : Padded IsOrphans t → (k : ℕ) → get_or o.counts k 0 ≤ 4
        few_of q k = elim (cases_lt k 34) [
          | inl low ↦ (let a : get_or o.counts k 0 ≡ orphan_number o.is.double k = ap (λ c. get_or c k 0) o.is.are.tiles ∙ orphans_at o.is.double k low in
              let b = orphan_few o.is.double k in omega arith)
          | inr past ↦ (let a : get_or o.counts k 0 ≡ 0 = get_or_past o.counts k 0 (let s = size_of q in omega arith) in omega arith)
        ]

pub joint_goal : (counts room t : List ℕ) (melds : ℕ) → melds ≤ 4 → IsRoom room melds → length room ≡ 34 → IsJoint (suits_of (with_two counts) (with_two room)) (4 - melds) true t
    → Padded (IsGoal room melds) t
joint_goal counts room t melds few h size j =
    let m : IsMade (with_two room) (4 - melds) t = hand_of (with_two counts) (with_two room) (4 - melds) t (wide_past room 34 size (omega arith)) (wide_past room 35 size (omega arith)) j in
    let c_size : length m.counts ≡ 34 = ap length (sym m.are.tiles) ∙ length-tally (flat_map tiles_of_set m.sets ++ m.pair ∷ m.pair ∷ []) in
    let within : IsWithinRoom m.counts room = (λ k low. (let a = m.within k low in let b = wide_low room k size low in omega arith)) in
    record {
      counts = m.counts;
      is = record {
        are_counts = counts_from room m.counts melds h c_size within;
        complete = inl (few, (m.sets, m.pair, m.are));
        within = within;
      };
      numbers_are = m.is;
    }

pub whole_search : (counts room : List ℕ) (melds : ℕ) (a b c : Option (ℕ × List ℕ)) → melds ≤ 4 → IsRoom room melds → length room ≡ 34
    → Improves (with_two counts) (IsJoint (suits_of (with_two counts) (with_two room)) (4 - melds) true) a b → Improves (with_two counts) (IsSpecial melds) b c
    → Improves (with_two counts) (Padded (IsGoal room melds)) a c
whole_search counts room melds a b c few h size first second =
    Improves-both (with_two counts) (Padded (IsGoal room melds)) (IsJoint (suits_of (with_two counts) (with_two room)) (4 - melds) true) (IsSpecial melds) a b c
    (λ t j. joint_goal counts room t melds few h size j)
    (λ t s. special_goal room t melds h s)
    (λ t g. elim (goal_searched counts room g.counts melds h size g.is) [
      | inl special ↦ inr (subst (IsSpecial melds) (sym g.numbers_are) special)
      | inr joint ↦ inl (subst (IsJoint (suits_of (with_two counts) (with_two room)) (4 - melds) true) (sym g.numbers_are) joint)
    ])
    first second

-- ---- the answer

-- there is one
pub some_best : (counts room : List ℕ) (melds : ℕ) (b : Option (ℕ × List ℕ)) → melds ≤ 4 → IsRoom room melds → Improves (with_two counts) (Padded (IsGoal room melds)) None b → b ≡ None → ⊥
some_best counts room melds b few h found none =
    let m : MatchOption None ((t : List ℕ) → Padded (IsGoal room melds) t → ⊥) (λ (answer : ℕ × List ℕ). IsNearest (with_two counts) (Padded (IsGoal room melds)) answer.0 answer.1) =
    subst (λ o. MatchOption o ((t : List ℕ) → Padded (IsGoal room melds) t → ⊥) (λ answer. IsNearest (with_two counts) (Padded (IsGoal room melds)) answer.0 answer.1)) none
    (best_is_nearest (with_two counts) (Padded (IsGoal room melds)) b found) in
    let g = some_goal room melds few h in
    m (with_two g.counts) record { counts = g.counts; is = g.is; numbers_are = refl }

pub best_nearest : (counts room : List ℕ) (melds number : ℕ) (target : List ℕ) (b : Option (ℕ × List ℕ)) → Improves (with_two counts) (Padded (IsGoal room melds)) None b → b ≡ Some (number, target)
    → IsNearest (with_two counts) (Padded (IsGoal room melds)) number target
best_nearest counts room melds number target b found is =
    subst (λ o. MatchOption o ((t : List ℕ) → Padded (IsGoal room melds) t → ⊥) (λ answer. IsNearest (with_two counts) (Padded (IsGoal room melds)) answer.0 answer.1)) is
    (best_is_nearest (with_two counts) (Padded (IsGoal room melds)) b found)

-- what it says of the hand
pub record Says (counts room : List ℕ) (melds number : ℕ) (target : List ℕ) : Type 0 where
  pub are_counts : IsCounts (take 34 target)
  pub some : 1 ≤ number
  pub few : number ≤ 14
  pub shanten : IsShanten counts room melds (number - 1) (take 34 target)

pub nearest_says : (counts room : List ℕ) (melds number : ℕ) (target : List ℕ) → IsHand counts room melds → length counts ≡ 34
    → IsNearest (with_two counts) (Padded (IsGoal room melds)) number target → Says counts room melds number target
nearest_says counts room melds number target h size n = subst (λ t. Says counts room melds number t) (sym p.numbers_are) says
  where
    p : Padded (IsGoal room melds) target
    p = n.is_one

    c_size : length p.counts ≡ 34
    c_size = p.is.are_counts.size

    front : take 34 (with_two p.counts) ≡ p.counts
    front = take_at p.counts (0 ∷ 0 ∷ []) 34 c_size

    distance : missing p.counts counts ≡ number
    distance = sym (wide_missing p.counts counts c_size size) ∙ ap (λ t. missing t (with_two counts)) (sym p.numbers_are) ∙ sym n.number_is

    full : sum p.counts + 3 * melds ≡ 14
    full = sum_complete p.counts melds p.is.complete

    some : 1 ≤ number
    some = (let a = sum_missing p.counts counts in let b = h.thirteen in let c = full in let d = distance in omega arith)

    few : number ≤ 14
    few = (let a = missing_few p.counts counts in let c = full in let d = distance in omega arith)

    other_is : (o : List ℕ) → IsGoal room melds o → Padded (IsGoal room melds) (with_two o)
    other_is o g = record { counts = o; is = g; numbers_are = refl }

    says : Says counts room melds number (with_two p.counts)
    says = record {
      are_counts = subst IsCounts (sym front) p.is.are_counts;
      some = some;
      few = few;
      shanten = subst (λ t. IsShanten counts room melds (number - 1) t) (sym front) record {
        is_goal = p.is;
        number_is = (let d = distance in let s = some in omega arith);
        least = λ o g. (let a = n.least (with_two o) (other_is o g) in let b = wide_missing o counts g.are_counts.size size in let s = some in omega arith);
        first = λ o g level.
            sorted_order p.counts o c_size g.are_counts.size (let a = full in let b = sum_complete o melds g.complete in omega arith)
            (λ over. n.greatest (with_two o) (other_is o g) (wide_missing o counts g.are_counts.size size ∙ level ∙ (let s = some in let e : number - 1 + 1 ≡ number = omega arith in e))
            (ap (λ t. slice_cmp nat_cmp (with_two o) t) p.numbers_are ∙ cmp_before o p.counts (0 ∷ 0 ∷ []) (g.are_counts.size ∙ sym c_size) ∙ over));
      };
    }

-- ---- for the call

search_of : (counts room held : List ℕ) (melds : ℕ) (b c : Option (ℕ × List ℕ)) → IsHand counts room melds → length room ≡ 34 → held ≡ with_two counts
    → Improves (with_two counts) (IsJoint (suits_of (with_two counts) (with_two room)) (4 - melds) true) None b → Improves held (IsSpecial melds) b c
    → Improves (with_two counts) (Padded (IsGoal room melds)) None c
search_of counts room held melds b c h room_size held_is first second =
    whole_search counts room melds None b c (let t = h.thirteen in omega arith) h.room_is room_size first (subst (λ x. Improves x (IsSpecial melds) b c) held_is second)

pub answer_says : (counts room held : List ℕ) (melds : ℕ) (answer : ℕ × List ℕ) (b c : Option (ℕ × List ℕ)) → IsHand counts room melds → length counts ≡ 34 → length room ≡ 34 → held ≡ with_two counts
    → Improves (with_two counts) (IsJoint (suits_of (with_two counts) (with_two room)) (4 - melds) true) None b → Improves held (IsSpecial melds) b c → c ≡ Some answer
    → Says counts room melds answer.0 answer.1
answer_says counts room held melds answer b c h size room_size held_is first second is =
    nearest_says counts room melds answer.0 answer.1 h size
    (best_nearest counts room melds answer.0 answer.1 c (search_of counts room held melds b c h room_size held_is first second) is)

pub never_none : (counts room held : List ℕ) (melds : ℕ) (b c : Option (ℕ × List ℕ)) → IsHand counts room melds → length room ≡ 34 → held ≡ with_two counts
    → Improves (with_two counts) (IsJoint (suits_of (with_two counts) (with_two room)) (4 - melds) true) None b → Improves held (IsSpecial melds) b c → c ≡ None → ⊥
never_none counts room held melds b c h room_size held_is first second none =
    some_best counts room melds c (let t = h.thirteen in omega arith) h.room_is (search_of counts room held melds b c h room_size held_is first second) none
