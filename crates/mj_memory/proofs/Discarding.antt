-- Which tiles may go.
use Rattle.std.proofs.Common.{◌≡◌, ℕ, ◌+◌, ◌-◌, ◌*◌, ◌/◌, ◌<◌, ◌≤◌, ltb, true, List, length, get_or, sym, subst, ap, ◌∙◌, inl, inr, arith}
use Rattle.std.proofs.lemmas.Bool.{cases_lt}
use Rattle.std.proofs.lemmas.List.{length-set, get_or_past}
use Rattle.mj_suits.specs.Rows.{lane, Holds}
use Rattle.mj_suits.specs.Tables.{IsLeast}
use Rattle.mj_shanten.specs.Exchanges.{one_less}
use Rattle.mj_shanten.specs.Room.{IsRoom, IsWithinRoom}
use Rattle.mj_shanten.specs.Shanten.{IsGoal}
use Rattle.mj_shanten.specs.Discards.{IsDiscard, LeavesMore}
use Rattle.mj_shanten.specs.Inner.Special.{IsSpecial, IsLeastWith}
use Rattle.mj_shanten.specs.Suits.{IsJoint, suits_of, with_two}
use Rattle.mj_shanten.specs.Walked.{Tiles, IsLeastOr}
use Rattle.mj_shanten.proofs.Path.{one_less_at}
use Rattle.mj_shanten.proofs.Special.{least_goal}
use Rattle.mj_memory.specs.Joined.{joined}
use Rattle.mj_memory.specs.Ways.{OfSuit, OfBoth, OfPlace, Beside, LeavesBest, AreWays}
use Rattle.mj_memory.proofs.Joins.{both_best}
use Rattle.mj_memory.proofs.Hands.{nine_of, least_of_both, others_less, wide_of}

-- ---- the suits of a hand

pub place_best : (counts room a b : List ℕ) (suit : ℕ) (row : List ℕ) → a ≡ nine_of (with_two counts) suit → b ≡ nine_of (with_two room) suit
    → LeavesBest (OfSuit a b (ltb suit 3)) row → LeavesBest (OfPlace (with_two counts) (with_two room) suit) row
place_best counts room a b suit row a_is b_is is =
    subst (λ (x : List ℕ). LeavesBest (OfSuit x (nine_of (with_two room) suit) (ltb suit 3)) row) a_is
    (subst (λ (x : List ℕ). LeavesBest (OfSuit a x (ltb suit 3)) row) b_is is)

pub ways_are : (counts room characters circles bamboo honours others suited : List ℕ) → length counts ≡ 34 → length room ≡ 34 → ((n : ℕ) → get_or room n 0 ≤ 4) → IsWithinRoom counts room
    → LeavesBest (OfPlace (with_two counts) (with_two room) 0) characters → LeavesBest (OfPlace (with_two counts) (with_two room) 1) circles
    → LeavesBest (OfPlace (with_two counts) (with_two room) 2) bamboo → LeavesBest (OfPlace (with_two counts) (with_two room) 3) honours
    → Holds others (joined (lane circles) (lane bamboo)) → Holds suited (joined (lane characters) (lane others)) → AreWays counts room characters circles bamboo honours suited
ways_are counts room characters circles bamboo honours others suited size room_size of_four within first second third fourth held all = record {
  wide = wide_of counts room size room_size of_four within;
  size = size;
  room_size = room_size;
  within = within;
  first = first;
  second = second;
  third = third;
  fourth = fourth;
  rest = both_best (OfPlace (with_two counts) (with_two room) 0) (OfBoth (OfPlace (with_two counts) (with_two room) 1) (OfPlace (with_two counts) (with_two room) 2)) characters others suited first
      (both_best (OfPlace (with_two counts) (with_two room) 1) (OfPlace (with_two counts) (with_two room) 2) circles bamboo others second third held) all;
}

-- what the suits but one leave

abbrev tiles_of : List ℕ → List ℕ → Tiles
tiles_of counts room = record { counts = counts; room = room }

as_seen : (tiles : Tiles) (counts room row : List ℕ) (suit known : ℕ) → tiles_of counts room ≡ tiles → suit ≡ known → LeavesBest (Beside (with_two counts) (with_two room) known) row
    → LeavesBest (Beside (with_two tiles.counts) (with_two tiles.room) suit) row
as_seen tiles counts room row suit known same is best =
    subst (λ n. LeavesBest (Beside (with_two tiles.counts) (with_two tiles.room) n) row) (sym is)
    (subst (λ (t : Tiles). LeavesBest (Beside (with_two t.counts) (with_two t.room) known) row) same best)

pub beside_first : (tiles : Tiles) (counts room characters circles bamboo honours suited others row : List ℕ) (suit : ℕ) → tiles_of counts room ≡ tiles
    → AreWays counts room characters circles bamboo honours suited → suit ≡ 0 → Holds others (joined (lane bamboo) (lane honours)) → Holds row (joined (lane circles) (lane others))
    → LeavesBest (Beside (with_two tiles.counts) (with_two tiles.room) suit) row
beside_first tiles counts room characters circles bamboo honours suited others row suit same are is held all =
    as_seen tiles counts room row suit 0 same is
    (both_best (OfPlace (with_two counts) (with_two room) 1) (OfBoth (OfPlace (with_two counts) (with_two room) 2) (OfPlace (with_two counts) (with_two room) 3)) circles others row are.second
    (both_best (OfPlace (with_two counts) (with_two room) 2) (OfPlace (with_two counts) (with_two room) 3) bamboo honours others are.third are.fourth held) all)

pub beside_second : (tiles : Tiles) (counts room characters circles bamboo honours suited others row : List ℕ) (suit : ℕ) → tiles_of counts room ≡ tiles
    → AreWays counts room characters circles bamboo honours suited → suit ≡ 1 → Holds others (joined (lane bamboo) (lane honours)) → Holds row (joined (lane characters) (lane others))
    → LeavesBest (Beside (with_two tiles.counts) (with_two tiles.room) suit) row
beside_second tiles counts room characters circles bamboo honours suited others row suit same are is held all =
    as_seen tiles counts room row suit 1 same is
    (both_best (OfPlace (with_two counts) (with_two room) 0) (OfBoth (OfPlace (with_two counts) (with_two room) 2) (OfPlace (with_two counts) (with_two room) 3)) characters others row are.first
    (both_best (OfPlace (with_two counts) (with_two room) 2) (OfPlace (with_two counts) (with_two room) 3) bamboo honours others are.third are.fourth held) all)

pub beside_third : (tiles : Tiles) (counts room characters circles bamboo honours suited others row : List ℕ) (suit : ℕ) → tiles_of counts room ≡ tiles
    → AreWays counts room characters circles bamboo honours suited → suit ≡ 2 → Holds others (joined (lane circles) (lane honours)) → Holds row (joined (lane characters) (lane others))
    → LeavesBest (Beside (with_two tiles.counts) (with_two tiles.room) suit) row
beside_third tiles counts room characters circles bamboo honours suited others row suit same are is held all =
    as_seen tiles counts room row suit 2 same is
    (both_best (OfPlace (with_two counts) (with_two room) 0) (OfBoth (OfPlace (with_two counts) (with_two room) 1) (OfPlace (with_two counts) (with_two room) 3)) characters others row are.first
    (both_best (OfPlace (with_two counts) (with_two room) 1) (OfPlace (with_two counts) (with_two room) 3) circles honours others are.second are.fourth held) all)

pub beside_last : (tiles : Tiles) (counts room characters circles bamboo honours suited : List ℕ) (suit : ℕ) → tiles_of counts room ≡ tiles
    → AreWays counts room characters circles bamboo honours suited → suit ≡ 3 → LeavesBest (Beside (with_two tiles.counts) (with_two tiles.room) suit) suited
beside_last tiles counts room characters circles bamboo honours suited suit same are is = as_seen tiles counts room suited suit 3 same is are.rest

-- ---- how many tiles are missed

pub hand_misses : (counts room characters circles bamboo honours suited : List ℕ) (sets number : ℕ) → AreWays counts room characters circles bamboo honours suited → sets ≤ 4
    → number ≡ 15 - joined (lane honours) (lane suited) sets 1 → IsLeastOr (with_two counts) (IsJoint (suits_of (with_two counts) (with_two room)) sets true) number
hand_misses counts room characters circles bamboo honours suited sets number are few is =
    subst (λ n. IsLeastOr (with_two counts) (IsJoint (suits_of (with_two counts) (with_two room)) sets true) n) (sym is)
    (least_of_both (with_two counts) (with_two room) honours suited 3 sets are.wide (omega arith) few are.fourth are.rest)

pub own_room : (tiles : Tiles) (counts room : List ℕ) (melds : ℕ) → tiles_of counts room ≡ tiles → IsRoom tiles.room melds → IsRoom room melds
own_room tiles counts room melds same is = subst (λ (t : Tiles). IsRoom t.room melds) (sym same) is

pub own_others : (tiles : Tiles) (counts room row : List ℕ) (suit : ℕ) → tiles_of counts room ≡ tiles → LeavesBest (Beside (with_two tiles.counts) (with_two tiles.room) suit) row
    → LeavesBest (Beside (with_two counts) (with_two room) suit) row
own_others tiles counts room row suit same is = subst (λ (t : Tiles). LeavesBest (Beside (with_two t.counts) (with_two t.room) suit) row) (sym same) is

pub special_least : (counts room : List ℕ) (melds sets number : ℕ) → melds ≡ 0 → IsRoom room melds → length counts ≡ 34 → length room ≡ 34
    → IsLeastOr (with_two counts) (IsJoint (suits_of (with_two counts) (with_two room)) (4 - melds) true) sets → IsLeastWith (with_two counts) (IsSpecial 0) sets number
    → IsLeast counts (IsGoal room melds) number
special_least counts room melds sets number none is_room size room_size joint special =
    least_goal counts room melds sets number (omega arith) is_room size room_size joint (subst (λ m. IsLeastWith (with_two counts) (IsSpecial m) sets number) (sym none) special)

-- ---- one tile less

pub less_within : (counts room : List ℕ) (kind : ℕ) → length counts ≡ 34 → kind < 34 → IsWithinRoom counts room → IsWithinRoom (one_less counts kind) room
less_within counts room kind size low within k small = (let a = one_less_at counts kind k (omega arith) in let w = within k small in omega arith)

-- what a hand of one tile less misses of sets and a pair
pub less_misses : (counts room less own others : List ℕ) (kind suit sets number : ℕ) → length counts ≡ 34 → length room ≡ 34 → ((n : ℕ) → get_or room n 0 ≤ 4) → IsWithinRoom counts room → kind < 34
    → suit ≡ kind / 9 → less ≡ one_less counts kind → sets ≤ 4 → LeavesBest (OfPlace (with_two less) (with_two room) suit) own → LeavesBest (Beside (with_two counts) (with_two room) (kind / 9)) others
    → number ≡ 15 - joined (lane own) (lane others) sets 1 → IsLeastOr (with_two less) (IsJoint (suits_of (with_two less) (with_two room)) sets true) number
less_misses counts room less own others kind suit sets number size room_size of_four within low at is few first second number_is =
    let less_size : length less ≡ 34 = ap length is ∙ length-set counts kind (get_or counts kind 0 - 1) ∙ size in
    let fits : IsWithinRoom less room = subst (λ (c : List ℕ). IsWithinRoom c room) (sym is) (less_within counts room kind size low within) in
    let rest : LeavesBest (Beside (with_two less) (with_two room) suit) others =
    subst (λ (c : List ℕ). LeavesBest (Beside (with_two c) (with_two room) suit) others) (sym is)
    (others_less counts (with_two room) others suit kind size low (omega arith) (omega arith)
    (subst (λ n. LeavesBest (Beside (with_two counts) (with_two room) n) others) (sym at) second)) in
    subst (λ n. IsLeastOr (with_two less) (IsJoint (suits_of (with_two less) (with_two room)) sets true) n) (sym number_is)
    (least_of_both (with_two less) (with_two room) own others suit sets (wide_of less room less_size room_size of_four fits) (omega arith) few first rest)

-- ---- kinds one after another

-- each discard of a suit from a kind on leaves more
abbrev pub MoreInSuit : List ℕ → List ℕ → ℕ → ℕ → ℕ → ℕ → ℕ → Type 0
MoreInSuit counts room melds kinds most suit from = (other : ℕ) → from ≤ other → other < 9 * suit + 9 → IsDiscard counts kinds other → LeavesMore counts room melds most other

pub small : (kind number : ℕ) → number ≡ kind → number < 34 → kind < 34
small kind number is low = omega arith

-- the room is at most four
pub room_four : (room : List ℕ) (melds : ℕ) → IsRoom room melds → length room ≡ 34 → (n : ℕ) → get_or room n 0 ≤ 4
room_four room melds is size n = elim (cases_lt n 34) [
  | inl low ↦ (let l = is.left n low in omega arith)
  | inr past ↦ (let e = get_or_past room n 0 (omega arith) in omega arith)
]
