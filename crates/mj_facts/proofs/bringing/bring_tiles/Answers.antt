use Rattle.std.proofs.Common.{◌∙◌, length-set, arith}
use Rattle.mj_facts.proofs.Brought.{one_brought}
use Rattle.mj_facts.proofs.bringing.bring_tiles.Goals as goal

pub loop-tile-preserved : goal.loop-tile-preserved
loop-tile-preserved c = (
  length-set c.loop-tile.brought c.from-place.result c.saturating_add.result ∙ c.loop-tile.invariant.0,
  one_brought c.args.brought.now c.loop-tile.brought c.args.tiles.now c.loop-tile.tile-index c.tile-item.result c.from-place.result c.saturating_add.result c.loop-tile-test.true c.tile-item.is
      (c.from-place.ensures ∙ c.number.ensures.value ∙ c.kind.ensures) (omega (
        arith,
        c.from-place.ensures,
        c.number.ensures.within,
        c.loop-tile.invariant.0,
      )) c.saturating_add.ensures c.loop-tile.invariant.1,
)
