use Rattle.mj_wall.proofs.WallFaces.{whole_by_counts}
use Rattle.mj_wall.proofs.wall.is_whole.Goals as goal

pub returns-then-tiles-eq-TILES : goal.returns-then-tiles-eq-TILES
returns-then-tiles-eq-TILES c = whole_by_counts c.args.red c.args.tiles.now _ _ c.eq.result c.if-tiles-eq-TILES.true c.counts.ensures c.copies.ensures c.eq.ensures
