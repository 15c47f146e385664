-- Ways of making sets and a pair of the tiles of one suit or of several: how many sets and pairs each makes, and how many tiles
-- it misses.
use Rattle.std.specs.Prelude.{◌≡◌, ℕ, zero, suc, ◌+◌, ◌*◌, ◌==◌, ◌<◌, ◌≤◌, nat_lt, Bool, List, length, take, drop}
use Rattle.mj_suits.specs.Rows.{lane}
use Rattle.mj_suits.specs.Tables.{Suit}
use Rattle.mj_suits.specs.Targets.{missing, IsTarget}
use Rattle.mj_shanten.specs.Room.{IsWithinRoom}
use Rattle.mj_shanten.specs.Suits.{with_two}
use Rattle.mj_shanten.specs.Walked.{IsWide}

-- a target of the suit
pub record OfSuit (counts room : List ℕ) (runs : Bool) (sets pairs missed : ℕ) : Type 0 where
  pub target : List ℕ
  pub is_target : IsTarget room runs sets (pairs == 1) target
  pub missed_is : missed ≡ missing target counts

-- a way and another beside it
pub record OfBoth (V W : ℕ → ℕ → ℕ → Type 0) (sets pairs missed : ℕ) : Type 0 where
  pub sets_first : ℕ
  pub sets_second : ℕ
  pub pairs_first : ℕ
  pub pairs_second : ℕ
  pub missed_first : ℕ
  pub missed_second : ℕ
  pub first : V sets_first pairs_first missed_first
  pub second : W sets_second pairs_second missed_second
  pub sets_are : sets ≡ sets_first + sets_second
  pub pairs_are : pairs ≡ pairs_first + pairs_second
  pub missed_is : missed ≡ missed_first + missed_second

-- no way of at most four sets and one pair leaves more of fifteen tiles than its lane says, and where that is more than none
-- some way leaves it
pub record LeavesBest (W : ℕ → ℕ → ℕ → Type 0) (row : List ℕ) : Type 0 where
  pub most : (sets pairs missed : ℕ) → sets < 5 → pairs < 2 → W sets pairs missed → 15 ≤ lane row sets pairs + missed
  pub some : (sets pairs : ℕ) → sets < 5 → pairs < 2 → 0 < lane row sets pairs → (missed : ℕ) × (W sets pairs missed × (lane row sets pairs + missed ≡ 15))

-- a suit, and what it leaves
pub record Known : Type 0 where
  pub suit : Suit
  pub lanes : List ℕ

-- a way of a suit of a hand: characters, circles, bamboo and honours are 0 to 3
abbrev pub OfPlace : List ℕ → List ℕ → ℕ → ℕ → ℕ → ℕ → Type 0
OfPlace held room suit sets pairs missed = OfSuit (take 9 (drop (9 * suit) held)) (take 9 (drop (9 * suit) room)) (nat_lt suit 3) sets pairs missed

-- a way of the suits but one
abbrev pub Beside : List ℕ → List ℕ → ℕ → ℕ → ℕ → ℕ → Type 0
Beside held room zero sets pairs missed = OfBoth (OfPlace held room 1) (OfBoth (OfPlace held room 2) (OfPlace held room 3)) sets pairs missed
Beside held room (suc zero) sets pairs missed = OfBoth (OfPlace held room 0) (OfBoth (OfPlace held room 2) (OfPlace held room 3)) sets pairs missed
Beside held room (suc (suc zero)) sets pairs missed = OfBoth (OfPlace held room 0) (OfBoth (OfPlace held room 1) (OfPlace held room 3)) sets pairs missed
Beside held room (suc (suc (suc n))) sets pairs missed = OfBoth (OfPlace held room 0) (OfBoth (OfPlace held room 1) (OfPlace held room 2)) sets pairs missed

-- what each suit of a hand leaves, and what all but the honours leave
pub record AreWays (counts room characters circles bamboo honours suited : List ℕ) : Type 0 where
  pub wide : IsWide (with_two counts) (with_two room)
  pub size : length counts ≡ 34
  pub room_size : length room ≡ 34
  pub within : IsWithinRoom counts room
  pub first : LeavesBest (OfPlace (with_two counts) (with_two room) 0) characters
  pub second : LeavesBest (OfPlace (with_two counts) (with_two room) 1) circles
  pub third : LeavesBest (OfPlace (with_two counts) (with_two room) 2) bamboo
  pub fourth : LeavesBest (OfPlace (with_two counts) (with_two room) 3) honours
  pub rest : LeavesBest (Beside (with_two counts) (with_two room) 3) suited
