-- Rows of lanes, and what the walk of a suit from its highest number down makes of them.
use Rattle.std.specs.Prelude.{◌≡◌, ◌&&◌, ◌==◌, ℕ, ◌+◌, ◌-◌, ◌*◌, ◌<◌, ◌≤◌, Bool, true, false, nat_le, max, if◌then◌else◌, List, [], ◌∷◌, drop, slice_index}

-- the lane of a row for so many sets and pairs
abbrev pub lane : List ℕ → ℕ → ℕ → ℕ
lane row sets pairs = slice_index row (8 * pairs + sets)

-- the row has these numbers for up to seven sets and one pair
pub record Holds (row : List ℕ) (numbers : ℕ → ℕ → ℕ) : Type 0 where
  pub at : (sets pairs : ℕ) → sets < 8 → pairs < 2 → lane row sets pairs ≡ numbers sets pairs

-- each lane is at most fifteen
abbrev pub IsFew : List ℕ → Type 0
IsFew row = (sets pairs : ℕ) → sets < 8 → pairs < 2 → lane row sets pairs ≤ 15

-- fifteen with nothing to make, else none
abbrev pub start_lane : ℕ → ℕ → ℕ
start_lane sets pairs = if (sets == 0) && (pairs == 0) then 15 else 0

-- what is left where so many of the sets and pairs are taken, none where there are not so many
abbrev pub taken : ℕ → ℕ → (ℕ → ℕ → ℕ) → ℕ → ℕ → ℕ
taken sets pairs left s p = if nat_le sets s && nat_le pairs p then left (s - sets) (p - pairs) else 0

-- from which lane each lane comes where one set more is made, the sixteenth having none
abbrev pub set_places : List ℕ
set_places = 16 ∷ 0 ∷ 1 ∷ 2 ∷ 3 ∷ 4 ∷ 5 ∷ 6 ∷ 16 ∷ 8 ∷ 9 ∷ 10 ∷ 11 ∷ 12 ∷ 13 ∷ 14 ∷ []

-- what so many tiles of a number cost: those that are not held, and more than any lane has where there is no room for so many
abbrev pub price : ℕ → ℕ → ℕ → ℕ
price held room tiles = max (tiles - held) (16 * tiles - 16 * room)

-- what none to four tiles of a number cost
abbrev pub prices : ℕ → ℕ → List ℕ
prices held room = 0 ∷ price held room 1 ∷ price held room 2 ∷ price held room 3 ∷ price held room 4 ∷ []

-- the most that is left where each of some choices is paid for
abbrev pub most_left : List ℕ → List ℕ → ℕ
most_left [] costs = 0
most_left (left ∷ lefts) [] = 0
most_left (left ∷ lefts) (cost ∷ costs) = max (left - cost) (most_left lefts costs)

-- what is left where so many runs, a triplet or none and a pair or none begin at a number
abbrev pub begun : (ℕ → ℕ → ℕ → ℕ) → ℕ → ℕ → ℕ → ℕ → ℕ → ℕ
begun next runs triplets pairs s p = taken (runs + triplets) pairs (next runs) s p

-- the most that is left at a number by how many tiles begin there, from none to four
abbrev pub begun_by_tiles : Bool → (ℕ → ℕ → ℕ → ℕ) → ℕ → ℕ → List ℕ
begun_by_tiles true next s p =
    begun next 0 0 0 s p
    ∷ begun next 1 0 0 s p
    ∷ max (begun next 2 0 0 s p) (begun next 0 0 1 s p)
    ∷ max (begun next 0 1 0 s p) (begun next 1 0 1 s p)
    ∷ max (begun next 1 1 0 s p) (begun next 2 0 1 s p)
    ∷ []
begun_by_tiles false next s p = begun next 0 0 0 s p ∷ 0 ∷ begun next 0 0 1 s p ∷ begun next 0 1 0 s p ∷ []

-- the most that is left at a number where so many runs began one number and two numbers before
abbrev pub stepped : Bool → ℕ → ℕ → (ℕ → ℕ → ℕ → ℕ → ℕ) → ℕ → ℕ → ℕ → ℕ → ℕ
stepped runs held room next before earlier s p =
    most_left (begun_by_tiles runs (λ begin. next begin before) s p) (drop (before + earlier) (prices held room))

-- the most that is left over all numbers from one on, after which `after` is left
unfoldable pub walked : Bool → (ℕ → ℕ → ℕ) → List ℕ → List ℕ → ℕ → ℕ → ℕ → ℕ → ℕ
walked runs after [] held before earlier s p = if (before == 0) && (earlier == 0) then after s p else 0
walked runs after (most ∷ room) [] before earlier s p = 0
walked runs after (most ∷ room) (have ∷ held) before earlier s p = stepped runs have most (walked runs after room held) before earlier s p
