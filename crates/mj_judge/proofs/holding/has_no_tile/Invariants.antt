use Rattle.std.proofs.Common.{◌≡◌, drop}
use Rattle.std.specs.List.{list_any}
use Rattle.mj_rules.specs.Broken.{is_no_tile}
use Rattle.mj_judge.proofs.holding.has_no_tile.Given as goal

abbrev pub invariant-loop-tile : goal.invariant-loop-tile
invariant-loop-tile l = list_any (is_no_tile l.red) (drop l.tile-index l.tiles) ≡ list_any (is_no_tile l.red) l.tiles
