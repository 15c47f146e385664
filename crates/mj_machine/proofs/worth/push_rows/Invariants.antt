use Rattle.std.proofs.Common.{◌≡◌, ◌++◌}
use Rattle.std.specs.Prelude.{map, filter}
use Rattle.std.specs.List.{range_with_len}
use Rattle.mj_yaku.specs.Han.{han}
use Rattle.mj_yaku.specs.Rows.{has_row}
use Rattle.mj_machine.proofs.worth.push_rows.Given as goal

abbrev pub invariant-loop-row : goal.invariant-loop-row
invariant-loop-row l = l.rows ≡ l.initial.rows ++ map (λ row. (row, han row l.closed)) (filter (has_row l.yaku) (range_with_len 0 l.row))
