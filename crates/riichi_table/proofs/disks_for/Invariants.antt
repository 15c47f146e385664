use Rattle.std.proofs.Common.{◌≡◌, length}
use Rattle.riichi_table.proofs.disks_for.Given as goal

abbrev pub invariant-loop-table : goal.invariant-loop-table
invariant-loop-table l = length l.disks.items ≡ l.table
