-- What the parts of one step of the walk hold.
use Rattle.std.specs.Prelude.{ℕ, zero, suc, ◌<◌, true, max, List, [], ◌∷◌}
use Rattle.mj_suits.specs.Rows.{Holds, lane, taken, price, walked}
use Rattle.mj_suits.specs.declared.walk.Costs.{Costs}
use Rattle.mj_suits.specs.declared.walk.Begun.{Begun}
use Rattle.mj_suits.specs.declared.walk.ByRuns.{ByRuns}
use Rattle.mj_suits.specs.declared.walk.Rows.{Rows}
use Rattle.mj_suits.specs.declared.row.Row.{Row}

-- the costs of a number of which so many are held, where there is room for so many
pub record AreCosts (held room : ℕ) (costs : Costs) : Type 0 where
  pub one : Holds costs.one.lanes (λ s p. price held room 1)
  pub two : Holds costs.two.lanes (λ s p. price held room 2)
  pub three : Holds costs.three.lanes (λ s p. price held room 3)
  pub four : Holds costs.four.lanes (λ s p. price held room 4)

-- what is left where so many tiles begin, by what is left after no run, one and two runs
pub record AreBegun (none one two : List ℕ) (all : Begun) : Type 0 where
  pub none_is : Holds all.none.lanes (lane none)
  pub one_is : Holds all.one.lanes (taken 1 0 (lane one))
  pub two_is : Holds all.two.lanes (λ s p. max (taken 2 0 (lane two) s p) (taken 0 1 (lane none) s p))
  pub three_is : Holds all.three.lanes (λ s p. max (taken 1 0 (lane none) s p) (taken 1 1 (lane one) s p))
  pub four_is : Holds all.four.lanes (λ s p. max (taken 2 0 (lane one) s p) (taken 2 1 (lane two) s p))

-- what is left where none to four tiles begin, and what none to four tiles cost
abbrev pub begun_lanes : Begun → ℕ → ℕ → List ℕ
begun_lanes all s p = lane all.none.lanes s p ∷ lane all.one.lanes s p ∷ lane all.two.lanes s p ∷ lane all.three.lanes s p ∷ lane all.four.lanes s p ∷ []

abbrev pub cost_lanes : Costs → ℕ → ℕ → List ℕ
cost_lanes costs s p = 0 ∷ lane costs.one.lanes s p ∷ lane costs.two.lanes s p ∷ lane costs.three.lanes s p ∷ lane costs.four.lanes s p ∷ []

-- the row where so many runs began one number before, and those where so many began two numbers before
abbrev pub by_runs : ByRuns → ℕ → Row
by_runs rows zero = rows.none
by_runs rows (suc zero) = rows.one
by_runs rows (suc (suc n)) = rows.two

abbrev pub by_earlier : Rows → ℕ → ByRuns
by_earlier rows zero = rows.none
by_earlier rows (suc zero) = rows.one
by_earlier rows (suc (suc n)) = rows.two

-- the row where so many runs began one number and two numbers before
abbrev pub row_at : Rows → ℕ → ℕ → List ℕ
row_at rows before earlier = (by_runs (by_earlier rows earlier) before).lanes

-- the rows are those of the walk over these numbers, for up to two runs begun at each of the two numbers before
pub record AreRows (after : ℕ → ℕ → ℕ) (room held : List ℕ) (rows : Rows) : Type 0 where
  pub at : (before earlier : ℕ) → before < 3 → earlier < 3 → Holds (row_at rows before earlier) (walked true after room held before earlier)

-- the room of honours of which none stands in a meld: four of each of seven kinds, and none for the two numbers past them
abbrev pub seven_full : List ℕ
seven_full = 4 ∷ 4 ∷ 4 ∷ 4 ∷ 4 ∷ 4 ∷ 4 ∷ 0 ∷ 0 ∷ []
