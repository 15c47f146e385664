-- Where the join of the suits stands, and what it reaches from there.
use Rattle.std.specs.Prelude.{ℕ, ◌≡◌, ◌+◌, Bool, true, false, List, [], ◌∷◌, ◌++◌, length, slice_index, take, drop}
use Rattle.mj_suits.specs.Targets.{IsTarget, IsWithin}
use Rattle.mj_suits.specs.Left.{pairs}
use Rattle.mj_shanten.specs.declared.suits.Suit.{Suit}

-- the numbers of a suit, what is held of them within the room, and the room for at most four
pub record IsSuit (suit : Suit) : Type 0 where
  pub nine : length suit.counts ≡ 9
  pub held : IsWithin suit.counts (slice_index suit.room)
  pub of_four : IsWithin suit.room (λ n. 4)

-- the tiles of one suit's sets and pair, and then those that the other suits make of what is left
pub record Begins (suit : Suit) (Rest : ℕ → Bool → List ℕ → Type 0) (sets : ℕ) (pair : Bool) (tiles : List ℕ) : Type 0 where
  pub here : List ℕ
  pub rest : List ℕ
  pub sets_here : ℕ
  pub sets_left : ℕ
  pub pair_here : Bool
  pub pair_left : Bool
  pub target : IsTarget suit.room suit.runs sets_here pair_here here
  pub more : Rest sets_left pair_left rest
  pub sets_are : sets ≡ sets_here + sets_left
  pub pair_is : pairs pair ≡ pairs pair_here + pairs pair_left
  pub tiles_are : tiles ≡ here ++ rest

-- the tiles of so many sets, and of a pair where one is wanted, over these suits
abbrev pub IsJoint : List Suit → ℕ → Bool → List ℕ → Type 0
IsJoint [] sets pair tiles = (sets ≡ 0) × ((pair ≡ false) × (tiles ≡ []))
IsJoint (suit ∷ others) sets pair tiles = Begins suit (IsJoint others) sets pair tiles

-- the nine numbers from a place on as a suit
abbrev pub suit_from : List ℕ → List ℕ → ℕ → Bool → Suit
suit_from held room from runs = record { counts = take 9 (drop from held); room = take 9 (drop from room); runs = runs }

-- characters, circles and bamboo, and the honours, which have no runs
abbrev pub suits_of : List ℕ → List ℕ → List Suit
suits_of held room = suit_from held room 0 true ∷ suit_from held room 9 true ∷ suit_from held room 18 true ∷ suit_from held room 27 false ∷ []

-- a hand with two numbers more, which no kind has
abbrev pub with_two : List ℕ → List ℕ
with_two counts = counts ++ 0 ∷ 0 ∷ []

pub record Padded (P : List ℕ → Type 0) (numbers : List ℕ) : Type 0 where
  pub counts : List ℕ
  pub is : P counts
  pub numbers_are : numbers ≡ with_two counts
