-- What is chosen from a number of a suit on.
use Rattle.std.specs.Prelude.{◌≡◌, ◌≢◌, ◌⊎◌, ℕ, ◌+◌, ◌-◌, ◌*◌, ◌/◌, ◌%◌, ◌<◌, ◌≤◌, Bool, true, false, Option, None, Some, MatchOption, List, [], ◌∷◌, ◌++◌, length}
use Rattle.std.specs.Ordering.{nat_cmp}
use Rattle.std.specs.Cmp.Lexicographic.{slice_cmp}
use Rattle.std.specs.declared.cmp.Ordering.TheVariants.{Greater}
use Rattle.mj_suits.specs.Rows.{lane, Holds, walked, IsFew}
use Rattle.mj_suits.specs.Inner.Walked.{row_at}
use Rattle.mj_suits.specs.Targets.{missing}
use Rattle.mj_suits.specs.Inner.Ends.{Ends}
use Rattle.mj_suits.specs.declared.choosing.Aim.{Aim}
use Rattle.mj_suits.specs.declared.choosing.Level.{Level}
use Rattle.mj_suits.specs.declared.choosing.Plan.{Plan}
use Rattle.mj_suits.specs.declared.choosing.Begin.{Begin}
use Rattle.mj_suits.specs.declared.choosing.Ways.{Ways}
use Rattle.mj_suits.specs.declared.choosing.Choice.{Choice}

-- the room and what is held, number by number
abbrev pub rooms : List Level → List ℕ
rooms [] = []
rooms (level ∷ levels) = level.room ∷ rooms levels

abbrev pub helds : List Level → List ℕ
helds [] = []
helds (level ∷ levels) = level.held ∷ helds levels

-- runs may have begun one number and two numbers before: up to two at each, and none in a suit without runs
abbrev pub IsState : Bool → ℕ → ℕ → Type 0
IsState true before earlier = (before < 3) × (earlier < 3)
IsState false before earlier = (before ≡ 0) × (earlier ≡ 0)

-- each number has the rows of the walk over those after it, and room for at most four
abbrev pub AreLevels : Aim → List Level → Type 0
AreLevels aim [] = Unit {0}
AreLevels aim (level ∷ levels) =
    (level.room ≤ 4)
    × (((before earlier : ℕ) → IsState aim.runs before earlier → Holds (row_at level.rows before earlier) (walked aim.runs (lane aim.after.lanes) (rooms levels) (helds levels) before earlier))
    × AreLevels aim levels)

-- the numbers of a suit
pub record AreNumbers (aim : Aim) (levels : List Level) (room counts : List ℕ) : Type 0 where
  pub are : AreLevels aim levels
  pub rooms_are : rooms levels ≡ room
  pub helds_are : helds levels ≡ counts

-- these tiles from the plan's number on leave so many, with so many sets and pairs left to make after the suit
pub record Goes_on (aim : Aim) (levels : List Level) (before earlier sets pairs left : ℕ) (tiles : List ℕ) (sets_after pairs_after : ℕ) : Type 0 where
  pub sets_here : ℕ
  pub pairs_here : ℕ
  pub ends : Ends aim.runs (rooms levels) before earlier sets_here pairs_here tiles
  pub sets_are : sets ≡ sets_here + sets_after
  pub pairs_are : pairs ≡ pairs_here + pairs_after
  pub left_is : lane aim.after.lanes sets_after pairs_after ≡ left + missing tiles (helds levels)

-- they leave as many as the plan says
abbrev pub By : Aim → List Level → Plan → List ℕ → ℕ → ℕ → Type 0
By aim levels plan = Goes_on aim levels plan.before plan.earlier plan.sets plan.pairs plan.left

-- how many tiles begin, and how many stand at the plan's number with those of runs that began before
abbrev pub tiles_of : Begin → ℕ
tiles_of begin = begin.runs + 3 * begin.triplets + 2 * begin.pairs

abbrev pub tiles_at : Plan → Begin → ℕ
tiles_at plan begin = plan.before + plan.earlier + tiles_of begin

-- at most two runs, and at most one triplet or pair; no five tiles
pub record IsBegin (begin : Begin) : Type 0 where
  pub runs_few : begin.runs ≤ 2
  pub one : begin.triplets + begin.pairs ≤ 1
  pub four : tiles_of begin ≤ 4

-- the suit has such runs, so many sets and pairs are still to be made, and there is room for the tiles
pub record MayBegin (aim : Aim) (level : Level) (plan : Plan) (begin : Begin) : Type 0 where
  pub only : aim.runs ≡ false → begin.runs ≡ 0
  pub sets : begin.runs + begin.triplets ≤ plan.sets
  pub pairs : begin.pairs ≤ plan.pairs
  pub within : tiles_at plan begin ≤ level.room

-- these may begin, and by the rows after the number as many are left as the plan says
pub record LeavesAsMany (aim : Aim) (level : Level) (plan : Plan) (begin : Begin) : Type 0 where
  pub may : MayBegin aim level plan begin
  pub left_is : lane (row_at level.rows begin.runs plan.before) (plan.sets - (begin.runs + begin.triplets)) (plan.pairs - begin.pairs) ≡ plan.left + (tiles_at plan begin - level.held)

-- these begin at the plan's number, and with the tiles after it as many are left as the plan says
pub record ByBegin (aim : Aim) (level : Level) (others : List Level) (plan : Plan) (begin : Begin) (tiles : List ℕ) (sets_after pairs_after : ℕ) : Type 0 where
  pub rest : List ℕ
  pub tiles_are : tiles ≡ tiles_at plan begin ∷ rest
  pub may : MayBegin aim level plan begin
  pub more : Goes_on aim others begin.runs plan.before (plan.sets - (begin.runs + begin.triplets)) (plan.pairs - begin.pairs)
      (plan.left + (tiles_at plan begin - level.held)) rest sets_after pairs_after

-- so many tiles begin at the plan's number, and as many are left: runs and a triplet or none, or runs and a pair
abbrev pub sets_alone : ℕ → Begin
sets_alone tiles = record { runs = tiles % 3; triplets = tiles / 3; pairs = 0 }

abbrev pub with_pair : ℕ → Begin
with_pair tiles = record { runs = tiles - 2; triplets = 0; pairs = 1 }

abbrev pub ByTiles : Aim → Level → List Level → Plan → ℕ → List ℕ → ℕ → ℕ → Type 0
ByTiles aim level others plan tiles rest sets pairs =
    ByBegin aim level others plan (sets_alone tiles) rest sets pairs
    ⊎ ((2 ≤ tiles) × ByBegin aim level others plan (with_pair tiles) rest sets pairs)

-- with so many tiles that begin fewer than none of fifteen would be left, or more sets and pairs would be made than are still to be
abbrev pub IsTooMany : Level → Plan → ℕ → Type 0
IsTooMany level plan many = (level.held + 15 < plan.left + (plan.before + plan.earlier + many)) ⊎ (3 * plan.sets + 2 * plan.pairs < many)

-- with more tiles than so many there would be too many
pub record IsMost (level : Level) (plan : Plan) (most : ℕ) : Type 0 where
  pub too_many : (many : ℕ) → most < many → many ≤ 4 → IsTooMany level plan many

-- these may begin, and by the rows as many are left
pub record IsWay (aim : Aim) (level : Level) (plan : Plan) (begin : Begin) : Type 0 where
  pub is_begin : IsBegin begin
  pub leaves : LeavesAsMany aim level plan begin

-- one of the ways begins at the plan's number, and the rest leaves as many as the plan says
abbrev pub InWays : Aim → Level → List Level → Plan → Begin → Option Begin → List ℕ → ℕ → ℕ → Type 0
InWays aim level others plan first None tiles sets pairs = ByBegin aim level others plan first tiles sets pairs
InWays aim level others plan first (Some second) tiles sets pairs = ByBegin aim level others plan first tiles sets pairs ⊎ ByBegin aim level others plan second tiles sets pairs

-- nothing with so many tiles at the plan's number leaves as many
abbrev pub NoWay : Aim → Level → List Level → Plan → ℕ → Type 0
NoWay aim level others plan tiles = (rest : List ℕ) (sets pairs : ℕ) → ByTiles aim level others plan tiles rest sets pairs → ⊥

-- these are the ways with so many tiles
pub record AreWays (aim : Aim) (level : Level) (others : List Level) (plan : Plan) (tiles : ℕ) (ways : Ways) : Type 0 where
  pub first : IsWay aim level plan ways.first
  pub second : MatchOption ways.second (Unit {0}) (IsWay aim level plan)
  pub all : (rest : List ℕ) (sets pairs : ℕ) → ByTiles aim level others plan tiles rest sets pairs → InWays aim level others plan ways.first ways.second rest sets pairs
  pub each : (rest : List ℕ) (sets pairs : ℕ) → InWays aim level others plan ways.first ways.second rest sets pairs → ByTiles aim level others plan tiles rest sets pairs

-- these are the ways with so many tiles, and with more there is none
pub record AreMostWays (aim : Aim) (level : Level) (others : List Level) (plan : Plan) (ways : Ways) : Type 0 where
  pub tiles : ℕ
  pub are : AreWays aim level others plan tiles ways
  pub most : (more : ℕ) → tiles + 1 ≤ more → more ≤ 4 → NoWay aim level others plan more

-- the plan at the lowest number
abbrev pub first_plan : ℕ → ℕ → ℕ → Plan
first_plan sets pairs left = record { number = 0; before = 0; earlier = 0; sets = sets; pairs = pairs; left = left }

-- the plan for the numbers after where these begin
abbrev pub next_of : Level → Plan → Begin → Plan
next_of level plan begin = record {
  number = plan.number + 1;
  before = begin.runs;
  earlier = plan.before;
  sets = plan.sets - (begin.runs + begin.triplets);
  pairs = plan.pairs - begin.pairs;
  left = plan.left + (tiles_at plan begin - level.held);
}

-- the numbers that are still to come have the rows of the walk, by which the most that is left is what the plan says, and it is more than none
pub record IsPlan (aim : Aim) (levels : List Level) (plan : Plan) : Type 0 where
  pub levels_are : AreLevels aim levels
  pub few : IsFew aim.after.lanes
  pub state : IsState aim.runs plan.before plan.earlier
  pub number_is : plan.number + length levels ≡ 9
  pub sets_few : plan.sets < 8
  pub pairs_few : plan.pairs < 2
  pub left_is : walked aim.runs (lane aim.after.lanes) (rooms levels) (helds levels) plan.before plan.earlier plan.sets plan.pairs ≡ plan.left
  pub some : 0 < plan.left
  pub left_few : plan.left ≤ 15
  pub before_few : plan.before < 3
  pub earlier_few : plan.earlier < 3

-- the choice goes on from these tiles with tiles of the property, and they are the lexicographically greatest
pub record IsGreatest (P : List ℕ → ℕ → ℕ → Type 0) (front : List ℕ) (choice : Choice) : Type 0 where
  pub rest : List ℕ
  pub target_is : choice.target ≡ front ++ rest
  pub is : P rest choice.sets choice.pairs
  pub greatest : (other : List ℕ) (sets pairs : ℕ) → P other sets pairs → slice_cmp nat_cmp other rest ≢ Greater

-- the choice whose target is lexicographically greater
abbrev pub GreaterOf : Choice → Choice → Choice → Type 0
GreaterOf one other result =
    ((result ≡ one) × (slice_cmp nat_cmp other.target one.target ≢ Greater))
    ⊎ ((result ≡ other) × (slice_cmp nat_cmp one.target other.target ≢ Greater))
