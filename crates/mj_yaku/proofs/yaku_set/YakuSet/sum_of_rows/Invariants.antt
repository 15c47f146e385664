use Rattle.std.proofs.Common.{ℕ, ◌≡◌, ◌≤◌, ◌*◌, List, Bool, take}
use Rattle.std.specs.Prelude.{sum_by}
use Rattle.mj_yaku.specs.Han.{han_in}
use Rattle.mj_yaku.proofs.yaku_set.YakuSet.sum_of_rows.Given as goal

-- the han of the rows taken so far
pub record SumSoFar (set : ℕ) (closed : Bool) (rows : List ℕ) (sum at : ℕ) : Type 0 where
  pub worth : sum ≡ sum_by (han_in set closed) (take at rows)
  pub small : sum ≤ 100 * at

abbrev pub invariant-loop-row : goal.invariant-loop-row
invariant-loop-row l = SumSoFar l.self l.closed l.rows l.sum l.row-index
