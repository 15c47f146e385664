use Rattle.std.proofs.Common.{◌∙◌, length-set, arith}
use Rattle.mj_table.proofs.FacesHeld.{more_there}
use Rattle.mj_table.proofs.held.take_up.Goals as goal

pub loop-tile-preserved : goal.loop-tile-preserved
loop-tile-preserved c = (
  length-set c.loop-tile.held c.from-place.result c.saturating_add.result ∙ c.loop-tile.invariant.0,
  more_there c.args.held.now c.loop-tile.held c.args.tiles.now c.loop-tile.tile-index c.tile-item.result c.from-place.result c.saturating_add.result c.loop-tile-test.true c.tile-item.is
      (c.from-place.ensures ∙ c.face.ensures.value) (omega (arith, c.from-place.ensures, c.face.ensures.within, c.loop-tile.invariant.0)) c.saturating_add.ensures c.loop-tile.invariant.1,
)
