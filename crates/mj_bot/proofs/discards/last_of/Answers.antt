use Rattle.std.proofs.Common.{◌-◌, ◌==◌, arith, refl, sym, ap, ◌∙◌}
use Rattle.mj_tiles.specs.Faces.{kind_of, tile_order}
use Rattle.mj_rules.specs.View.{view_of}
use Rattle.mj_rules.specs.Default.{lawful_faces, last_face}
use Rattle.mj_bot.proofs.Lawful.{passes, is_of, both_filters, none_past, none_here, last_here, none_at_all}
use Rattle.mj_bot.proofs.discards.last_of.Goals as goal

pub loop-place-init : goal.loop-place-init
loop-place-init c = (omega arith, none_past (passes c.args.table.now.rules c.args.seat (view_of c.args.table.now.deeds c.args.seat)) c.args.kind _ (omega arith) (omega arith))

pub loop-place-preserved : goal.loop-place-preserved
loop-place-preserved c = (
  omega arith,
  none_here (is_of c.args.table.now.rules c.args.seat (view_of c.args.table.now.deeds c.args.seat) c.args.kind) c.loop-place.place (c.loop-place.place - 1) c.ordered-tile.result
      (omega arith) (omega arith) refl c.ordered-tile.ensures (sym c.is_lawful_of.ensures ∙ c.if-is_lawful_of.false) c.loop-place.invariant.1,
)

pub returns-then-is_lawful_of : goal.returns-then-is_lawful_of
unfolding lawful_faces
returns-then-is_lawful_of c =
    last_here (is_of c.args.table.now.rules c.args.seat (view_of c.args.table.now.deeds c.args.seat) c.args.kind) c.loop-place.place (c.loop-place.place - 1) c.ordered-tile.result
    (omega arith) (omega arith) refl c.ordered-tile.ensures (sym c.is_lawful_of.ensures ∙ c.if-is_lawful_of.true) c.loop-place.invariant.1
    ∙ ap last_face (both_filters (passes c.args.table.now.rules c.args.seat (view_of c.args.table.now.deeds c.args.seat)) (λ face. kind_of face == c.args.kind) tile_order)

pub returns : goal.returns
unfolding lawful_faces
returns c =
    none_at_all (is_of c.args.table.now.rules c.args.seat (view_of c.args.table.now.deeds c.args.seat) c.args.kind) c.loop-place.place (omega arith) c.loop-place.invariant.1
    ∙ ap last_face (both_filters (passes c.args.table.now.rules c.args.seat (view_of c.args.table.now.deeds c.args.seat)) (λ face. kind_of face == c.args.kind) tile_order)
