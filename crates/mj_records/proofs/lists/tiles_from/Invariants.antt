use Rattle.std.proofs.Common.{◌≡◌, ◌-◌, length}
use Rattle.mj_records.specs.Inner.Fields.{tile_at}
use Rattle.mj_records.specs.Inner.Lists.{items_from}
use Rattle.mj_records.proofs.GatherLaws.{ahead}
use Rattle.mj_records.proofs.lists.tiles_from.Given as goal

abbrev pub invariant-loop-at : goal.invariant-loop-at
invariant-loop-at l = items_from tile_at (length l.text) l.text ≡ ahead l.tiles.items (items_from tile_at (length l.text - l.at) l.rest)
