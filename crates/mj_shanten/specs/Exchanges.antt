-- Exchanges of tiles, and how many lead to a ready hand.
use Rattle.std.specs.Prelude.{ℕ, ◌≡◌, ◌-◌, ◌<◌, ◌≤◌, List, [], ◌∷◌, length, flat_map, replicate, slice_index, slice_set}
use Rattle.std.specs.List.{zip}
use Rattle.mj_tiles.specs.Counts.{all_kinds}
use Rattle.mj_readings.specs.Tests.{one_more}
use Rattle.mj_waits.specs.Waits.{IsWait}
use Rattle.mj_shanten.specs.Room.{IsHand, IsWithinRoom}
use Rattle.mj_shanten.specs.Shanten.{IsShanten}

-- The counts with one tile less of a kind.
abbrev pub one_less : List ℕ → ℕ → List ℕ
one_less counts kind = slice_set counts kind (slice_index counts kind - 1)

-- An exchange takes one tile out and puts one kind in: first the kind that goes out, then the one that comes in.
abbrev pub exchanged : List ℕ → ℕ × ℕ → List ℕ
exchanged counts exchange = one_more (one_less counts exchange.0) exchange.1

-- A tile of the kind that goes out is held, and after the exchange no kind stands more often than its room.
pub record MayExchange (room counts : List ℕ) (exchange : ℕ × ℕ) : Type 0 where
  pub out_kind : exchange.0 < 34
  pub in_kind : exchange.1 < 34
  pub held : 0 < slice_index counts exchange.0
  pub within : IsWithinRoom (exchanged counts exchange) room

-- Each exchange may be made in the hand that those before it leave.
abbrev pub MayExchangeAll : List ℕ → List ℕ → List (ℕ × ℕ) → Type 0
MayExchangeAll room counts [] = Unit {0}
MayExchangeAll room counts (exchange ∷ others) = MayExchange room counts exchange × MayExchangeAll room (exchanged counts exchange) others

-- The hand after one exchange after another.
abbrev pub after_all : List ℕ → List (ℕ × ℕ) → List ℕ
after_all counts [] = counts
after_all counts (exchange ∷ others) = after_all (exchanged counts exchange) others

-- A hand is ready where some kind is a wait.
abbrev pub IsReady : List ℕ → List ℕ → ℕ → Type 0
IsReady counts room melds = (kind : ℕ) × ((kind < 34) × IsWait counts room melds kind)

-- The kinds of which there are more tiles than in another hand, in tile order, each so often.
unfoldable pub kinds_over : List ℕ → List ℕ → List ℕ
kinds_over counts others = flat_map (λ kind. replicate (slice_index counts kind - slice_index others kind) kind) all_kinds

-- The surplus tiles in tile order, each with the missing tile at the same place in tile order.
abbrev pub path_to : List ℕ → List ℕ → List (ℕ × ℕ)
path_to counts target = zip (kinds_over counts target) (kinds_over target counts)

-- The number and the target are those of the counts with some room and number of melds.
pub record IsNearestOf (counts : List ℕ) (number : ℕ) (target : List ℕ) : Type 0 where
  pub room : List ℕ
  pub melds : ℕ
  pub is_hand : IsHand counts room melds
  pub is_shanten : IsShanten counts room melds number target

-- So many exchanges that keep the room lead to a ready hand.
pub record LeadsToReady (counts room : List ℕ) (melds : ℕ) (number : ℕ) (exchanges : List (ℕ × ℕ)) : Type 0 where
  pub many : length exchanges ≡ number
  pub each : MayExchangeAll room counts exchanges
  pub ready : IsReady (after_all counts exchanges) room melds

-- The path to the target is so many exchanges that lead to a ready hand, and no fewer do, over all lists of exchanges in
-- which each hand between keeps the room.
pub record AreLeastExchanges (counts room : List ℕ) (melds number : ℕ) (target : List ℕ) : Type 0 where
  pub some : LeadsToReady counts room melds number (path_to counts target)
  pub least : (many : ℕ) (exchanges : List (ℕ × ℕ)) → LeadsToReady counts room melds many exchanges → number ≤ many
