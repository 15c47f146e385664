use Rattle.std.proofs.Common.{ℕ, ◌≡◌, ◌≤◌, length, drop, List, Bool}
use Rattle.mj_yaku.specs.Rows.{rows_from}
use Rattle.mj_yaku.proofs.table.rows_that_hold.Given as goal

-- the set has the rows that hold from this one on
pub record FromHere (rows : List Bool) (set row : ℕ) : Type 0 where
  pub within : row ≤ length rows
  pub gathered : set ≡ rows_from row (drop row rows)

abbrev pub invariant-loop-row : goal.invariant-loop-row
invariant-loop-row l = FromHere l.rows l.set l.row

abbrev pub decreases-loop-row : goal.decreases-loop-row
decreases-loop-row l = l.row
