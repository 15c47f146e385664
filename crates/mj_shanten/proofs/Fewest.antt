-- For each hand there is a fewest number of tiles that a complete hand misses: the walk of its suits says that of the sets, and
-- the counts say those of seven pairs and of thirteen orphans.
use Rattle.std.proofs.Common.{ℕ, zero, suc, ◌≡◌, ◌⊎◌, ◌-◌, ◌<◌, ◌≤◌, inl, inr, Bool, true, false, cond, eqb, leb, ◌&&◌, min, List, [], ◌∷◌, length, take, get_or, refl, sym, ap, ◌∙◌, subst, arith}
use Rattle.std.proofs.lemmas.List.{get_or_past}
use Rattle.std.specs.Prelude.{MatchBool}
use Rattle.std.proofs.lemmas.Bool.{cases_Bool, cases_eq, cases_lt, le-leb, lt-leb, true≢false}
use Rattle.mj_tiles.specs.Terminals.{is_terminal_or_honour}
use Rattle.mj_suits.specs.Rows.{Holds, IsFew, lane, start_lane, walked}
use Rattle.mj_suits.specs.Tables.{IsLeast}
use Rattle.mj_suits.proofs.Nine.{leaves_most}
use Rattle.mj_shanten.specs.declared.suits.Suit.{Suit}
use Rattle.mj_shanten.specs.Room.{IsRoom, IsWithinRoom}
use Rattle.mj_shanten.specs.Shanten.{IsGoal}
use Rattle.mj_shanten.specs.Discards.{MissesAtMost, MissesMore}
use Rattle.mj_shanten.specs.Suits.{IsSuit, IsJoint, Padded, suit_from, suits_of, with_two}
use Rattle.mj_shanten.specs.Walked.{Tiles, IsRow, IsWide, AreWalked, IsLeastOr}
use Rattle.mj_shanten.specs.Inner.Special.{IsOrphans, IsHeldTwice, IsSpecial, IsLeastWith}
use Rattle.mj_shanten.proofs.Goal.{wide_size}
use Rattle.mj_shanten.proofs.Pairs.{least, pairs_least}
use Rattle.mj_shanten.proofs.Special.{orphans_twice, orphans_single, both_least, special_melds, least_goal}
use Rattle.mj_shanten.proofs.Whole.{four_are, front_two, same_tiles_of, new_wide, least_joint}

-- ---- a row that holds given lanes

abbrev row_of_lanes : (ℕ → ℕ → ℕ) → List ℕ
row_of_lanes f =
    f 0 0 ∷ f 1 0 ∷ f 2 0 ∷ f 3 0 ∷ f 4 0 ∷ f 5 0 ∷ f 6 0 ∷ f 7 0
    ∷ f 0 1 ∷ f 1 1 ∷ f 2 1 ∷ f 3 1 ∷ f 4 1 ∷ f 5 1 ∷ f 6 1 ∷ f 7 1 ∷ []

row_holds : (f : ℕ → ℕ → ℕ) → Holds (row_of_lanes f) f
row_holds f = record { at = at }
  where
    at : (s p : ℕ) → s < 8 → p < 2 → lane (row_of_lanes f) s p ≡ f s p
    at zero zero few one = refl
    at (suc zero) zero few one = refl
    at (suc (suc zero)) zero few one = refl
    at (suc (suc (suc zero))) zero few one = refl
    at (suc (suc (suc (suc zero)))) zero few one = refl
    at (suc (suc (suc (suc (suc zero))))) zero few one = refl
    at (suc (suc (suc (suc (suc (suc zero)))))) zero few one = refl
    at (suc (suc (suc (suc (suc (suc (suc zero))))))) zero few one = refl
    at zero (suc zero) few one = refl
    at (suc zero) (suc zero) few one = refl
    at (suc (suc zero)) (suc zero) few one = refl
    at (suc (suc (suc zero))) (suc zero) few one = refl
    at (suc (suc (suc (suc zero)))) (suc zero) few one = refl
    at (suc (suc (suc (suc (suc zero))))) (suc zero) few one = refl
    at (suc (suc (suc (suc (suc (suc zero)))))) (suc zero) few one = refl
    at (suc (suc (suc (suc (suc (suc (suc zero))))))) (suc zero) few one = refl
    at s p few one = absurd (omega arith)

walk_after : (suit : Suit) (after : List ℕ) → IsSuit suit → length suit.room ≡ 9 → IsFew after → (row : List ℕ) × IsRow suit after row
walk_after suit after is nine few = (
  row_of_lanes (walked suit.runs (lane after) suit.room suit.counts 0 0),
  leaves_most suit.counts suit.room suit.runs after _ nine is.nine (λ n inside. is.of_four n (omega arith)) few (row_holds (walked suit.runs (lane after) suit.room suit.counts 0 0)),
)

start_few : IsFew (row_of_lanes start_lane)
start_few s p few one = (let e = (row_holds start_lane).at s p few one in let b = small ((eqb s 0) && (eqb p 0)) in omega arith)
  where
    small : (b : Bool) → cond b 15 0 ≤ 15
    small true = omega arith
    small false = omega arith

-- ---- sets and a pair

sets_least : (held room : List ℕ) (tiles : Tiles) (sets : ℕ) → IsWide held room → record { counts = take 34 held; room = take 34 room } ≡ tiles → sets ≤ 4
    → (number : ℕ) × IsLeastOr (with_two tiles.counts) (IsJoint (suits_of (with_two tiles.counts) (with_two tiles.room)) sets true) number
sets_least held room tiles sets wide same few =
    let start = row_of_lanes start_lane in
    let suits = four_are held room wide in
    let characters = walk_after (suit_from held room 0 true) start suits.0.0 suits.0.1 start_few in
    let circles = walk_after (suit_from held room 9 true) characters.0 suits.1.0.0 suits.1.0.1 characters.1.few in
    let bamboo = walk_after (suit_from held room 18 true) circles.0 suits.1.1.0.0 suits.1.1.0.1 circles.1.few in
    let honours = walk_after (suit_from held room 27 false) bamboo.0 suits.1.1.1.0.0 suits.1.1.1.0.1 bamboo.1.few in
    let are : AreWalked held room start characters.0 circles.0 bamboo.0 honours.0 = record {
      wide = wide;
      start_is = row_holds start_lane;
      start_few = start_few;
      first = characters.1;
      second = circles.1;
      third = bamboo.1;
      fourth = honours.1;
    } in
    (15 - lane honours.0 sets 1, least_joint tiles held room start characters.0 circles.0 bamboo.0 honours.0 sets (lane honours.0 sets 1) same are few refl)

-- ---- thirteen orphans

test_twice : (held : List ℕ) (kind : ℕ) → IsHeldTwice held kind ⊎ (IsHeldTwice held kind → ⊥)
test_twice held kind = elim (cases_lt kind 34) [
  | inl low ↦ elim (cases_Bool (is_terminal_or_honour kind)) [
    | inl orphan ↦ elim (cases_lt (get_or held kind 0) 2) [
      | inl few ↦ inr (λ twice. (let t = twice.twice in absurd (omega arith)))
      | inr many ↦ inl record { kind_is = low; orphan = orphan; twice = many }
    ]
    | inr plain ↦ inr (λ twice. absurd (true≢false (sym twice.orphan ∙ plain)))
  ]
  | inr past ↦ inr (λ twice. (let t = twice.kind_is in absurd (omega arith)))
]

twice_below : (held : List ℕ) (bound : ℕ) → ((kind : ℕ) × IsHeldTwice held kind) ⊎ ((kind : ℕ) → kind < bound → IsHeldTwice held kind → ⊥)
twice_below held zero = inr (λ kind low twice. absurd (omega arith))
twice_below held (suc bound) = elim (twice_below held bound) [
  | inl found ↦ inl found
  | inr none ↦ elim (test_twice held bound) [
    | inl twice ↦ inl (bound, twice)
    | inr not_twice ↦ inr (λ kind low twice. elim (cases_eq kind bound) [
      | inl same ↦ not_twice (subst (IsHeldTwice held) same twice)
      | inr other ↦ none kind (omega arith) twice
    ])
  ]
]

some_orphans : (held : List ℕ) → length held ≡ 36 → (number : ℕ) × IsLeast held (Padded IsOrphans) number
some_orphans held wide = elim (twice_below held 34) [
  | inl found ↦ (_, orphans_twice held _ refl wide found)
  | inr none ↦ (_, orphans_single held _ refl wide (λ kind twice. none kind twice.kind_is twice))
]

some_special : (held : List ℕ) (melds sets : ℕ) → length held ≡ 36 → length (take 34 held) ≡ 34 → (number : ℕ) × IsLeastWith held (IsSpecial melds) sets number
some_special held zero sets wide size =
    let pairs = pairs_least held (least (take 34 held) 7) wide size refl in
    let orphans = some_orphans held wide in
    (min (min sets (least (take 34 held) 7)) orphans.0, both_least held sets (least (take 34 held) 7) (min sets (least (take 34 held) 7)) orphans.0 _ refl pairs orphans.1 refl)
some_special held (suc melds) sets wide size = (sets, special_melds held (suc melds) sets (omega arith))

-- ---- all

pub some_least : (counts room : List ℕ) (melds : ℕ) → melds ≤ 4 → length counts ≡ 34 → length room ≡ 34 → IsWithinRoom counts room → IsRoom room melds
    → (number : ℕ) × IsLeast counts (IsGoal room melds) number
some_least counts room melds few size room_size within is_room =
    let held_front = front_two (with_two counts) counts refl size in
    let room_front = front_two (with_two room) room refl room_size in
    let wide = new_wide (with_two counts) (with_two room) counts room (wide_size counts size) (wide_size room room_size) refl refl size room_size of_four within in
    let sets = sets_least (with_two counts) (with_two room) (record { counts = counts; room = room }) (4 - melds) wide (same_tiles_of _ _ _ _ held_front.0 room_front.0) (omega arith) in
    let special = some_special (with_two counts) melds sets.0 (wide_size counts size) (ap length held_front.0 ∙ size) in
    (special.0, least_goal counts room melds sets.0 special.0 few is_room size room_size sets.1 special.1)
  where
    of_four : (n : ℕ) → get_or room n 0 ≤ 4
    of_four n = elim (cases_lt n 34) [
      | inl low ↦ (let l = is_room.left n low in omega arith)
      | inr past ↦ (let e = get_or_past room n 0 (omega arith) in omega arith)
    ]

-- ---- at most so many

-- where the sets miss at most so many
pub sets_enough : (counts room : List ℕ) (melds sets most : ℕ) → melds ≤ 4 → IsRoom room melds → length counts ≡ 34 → length room ≡ 34
    → IsLeastOr (with_two counts) (IsJoint (suits_of (with_two counts) (with_two room)) (4 - melds) true) sets → sets ≤ most → MissesAtMost counts room melds most
sets_enough counts room melds sets most few is_room size room_size joint within =
    let held_front = front_two (with_two counts) counts refl size in
    let special = some_special (with_two counts) melds sets (wide_size counts size) (ap length held_front.0 ∙ size) in
    record {
      number = special.0;
      least = least_goal counts room melds sets special.0 few is_room size room_size joint special.1;
      few = (let a = special.1.at_most in omega arith);
    }

-- with melds it is the sets that decide
pub sets_decide : (counts room : List ℕ) (melds sets most : ℕ) → melds ≤ 4 → 0 < melds → IsRoom room melds → length counts ≡ 34 → length room ≡ 34
    → IsLeastOr (with_two counts) (IsJoint (suits_of (with_two counts) (with_two room)) (4 - melds) true) sets → most < sets → MissesMore counts room melds most
sets_decide counts room melds sets most few some is_room size room_size joint over = record {
  number = sets;
  least = least_goal counts room melds sets sets few is_room size room_size joint (special_melds (with_two counts) melds sets some);
  more = over;
}

-- and else the fewest of all
pub all_decide : (counts room held : List ℕ) (melds sets number most : ℕ) → melds ≡ 0 → held ≡ with_two counts → IsRoom room melds → length counts ≡ 34 → length room ≡ 34
    → IsLeastOr (with_two counts) (IsJoint (suits_of (with_two counts) (with_two room)) (4 - melds) true) sets → IsLeastWith held (IsSpecial 0) sets number
    → MatchBool (leb number most) (MissesAtMost counts room melds most) (MissesMore counts room melds most)
all_decide counts room held melds sets number most none held_is is_room size room_size joint special = elim (cases_lt most number) [
  | inl over ↦ subst (λ b. MatchBool b (MissesAtMost counts room melds most) (MissesMore counts room melds most)) (sym (lt-leb number most over)) record { number = number; least = least; more = over }
  | inr within ↦ subst (λ b. MatchBool b (MissesAtMost counts room melds most) (MissesMore counts room melds most))
      (sym (le-leb number most within)) record { number = number; least = least; few = within }
]
  where
    least : IsLeast counts (IsGoal room melds) number
    least = least_goal counts room melds sets number (omega arith) is_room size room_size joint
        (subst (λ m. IsLeastWith (with_two counts) (IsSpecial m) sets number) (sym none) (subst (λ h. IsLeastWith h (IsSpecial 0) sets number) held_is special))
