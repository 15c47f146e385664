use Rattle.std.proofs.Common.{◌-◌, arith, refl, sym, ◌∙◌}
use Rattle.mj_rules.specs.View.{view_of}
use Rattle.mj_bot.proofs.Lawful.{passes, kinds_none, kinds_with}
use Rattle.mj_bot.proofs.discards.lawful_kinds.Goals as goal

pub loop-place-init : goal.loop-place-init
loop-place-init c = (omega arith, kinds_none _ 37 _ (omega arith) c.none-kinds.ensures)

pub loop-place-preserved-then-is_lawful : goal.loop-place-preserved-then-is_lawful
loop-place-preserved-then-is_lawful c = (
  omega arith,
  kinds_with (passes c.args.table.now.rules c.args.seat (view_of c.args.table.now.deeds c.args.seat)) c.loop-place.place (c.loop-place.place - 1)
      c.ordered-tile.result c.kind.result c.loop-place.kinds c.with-kinds.result
      (omega arith) (omega arith) refl c.ordered-tile.ensures c.kind.ensures (sym c.is_lawful.ensures ∙ c.if-is_lawful.true) c.loop-place.invariant.1 c.with-kinds.ensures,
)
