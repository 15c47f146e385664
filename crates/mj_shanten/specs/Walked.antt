-- The suits of a hand, walked one after the other.
use Rattle.std.specs.Prelude.{◌≡◌, ◌⊎◌, ℕ, ◌≤◌, true, false, List, length, take, slice_index, EachIndex}
use Rattle.mj_suits.specs.Rows.{Holds, IsFew, lane, start_lane}
use Rattle.mj_suits.specs.Targets.{missing}
use Rattle.mj_suits.specs.Left.{LeavesMost, IsChosen}
use Rattle.mj_suits.specs.SuitWalks.{Walk}
use Rattle.mj_suits.specs.declared.choosing.Choice.{Choice}
use Rattle.mj_shanten.specs.declared.suits.Suit.{Suit}
use Rattle.mj_shanten.specs.Suits.{suit_from, with_two}

-- the tiles of a hand, and the room for them
pub record Tiles : Type 0 where
  pub counts : List ℕ
  pub room : List ℕ

-- the row says what the suit leaves of what is left after it
abbrev pub IsRow : Suit → List ℕ → List ℕ → Type 0
IsRow suit after row = LeavesMost suit.counts suit.room suit.runs after row

-- a hand with two numbers more, which no kind has, and the room for it
pub record IsWide (held room : List ℕ) : Type 0 where
  pub held_size : length held ≡ 36
  pub room_size : length room ≡ 36
  pub within : EachIndex held (λ n. slice_index held n ≤ slice_index room n)
  pub of_four : EachIndex room (λ n. slice_index room n ≤ 4)
  pub held_is : held ≡ with_two (take 34 held)
  pub room_is : room ≡ with_two (take 34 room)

-- each row is that of its suit after those before it
pub record AreWalked (held room start characters circles bamboo honours : List ℕ) : Type 0 where
  pub wide : IsWide held room
  pub start_is : Holds start start_lane
  pub start_few : IsFew start
  pub first : IsRow (suit_from held room 0 true) start characters
  pub second : IsRow (suit_from held room 9 true) characters circles
  pub third : IsRow (suit_from held room 18 true) circles bamboo
  pub fourth : IsRow (suit_from held room 27 false) bamboo honours

-- each row is that of its suit before those after it
pub record AreTargetRows (held room start honours bamboo circles characters : List ℕ) : Type 0 where
  pub wide : IsWide held room
  pub start_is : Holds start start_lane
  pub start_few : IsFew start
  pub fourth : IsRow (suit_from held room 27 false) start honours
  pub third : IsRow (suit_from held room 18 true) honours bamboo
  pub second : IsRow (suit_from held room 9 true) bamboo circles
  pub first : IsRow (suit_from held room 0 true) circles characters

-- the walk is that of the suit before what is left after it
pub record IsWalkOf (suit : Suit) (after : List ℕ) (walk : Walk) : Type 0 where
  pub suit_is : walk.suit ≡ record { counts = suit.counts; room = suit.room; runs = suit.runs }
  pub after_is : walk.after ≡ after
  pub row : IsRow suit after walk.row

-- the choice is the target of the walked suit that leaves the most for the suits after it
abbrev pub IsPart : Walk → ℕ → ℕ → Choice → Type 0
IsPart walk sets pairs choice = IsChosen walk.suit.counts walk.suit.room walk.suit.runs walk.after sets pairs (lane walk.row sets pairs) choice.target choice.sets choice.pairs

-- the fewest that a list with the property misses, all of which miss at most fourteen, or fifteen where there is none
pub record IsLeastOr (held : List ℕ) (P : List ℕ → Type 0) (number : ℕ) : Type 0 where
  pub least : (target : List ℕ) → P target → number ≤ missing target held
  pub few : (target : List ℕ) → P target → missing target held ≤ 14
  pub some : (number ≡ 15) ⊎ ((target : List ℕ) × (P target × (number ≡ missing target held)))
