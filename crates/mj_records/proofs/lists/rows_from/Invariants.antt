use Rattle.std.proofs.Common.{◌≡◌, ◌-◌, ◌≤◌, All, length}
use Rattle.mj_records.specs.Inner.Lists.{items_from, row_at}
use Rattle.mj_records.proofs.GatherLaws.{ahead}
use Rattle.mj_records.proofs.lists.rows_from.Given as goal

abbrev pub invariant-loop-at : goal.invariant-loop-at
invariant-loop-at l = (items_from row_at (length l.text) l.text ≡ ahead l.rows.items (items_from row_at (length l.text - l.at) l.rest)) × All (λ item. item.0 ≤ 44) l.rows.items
