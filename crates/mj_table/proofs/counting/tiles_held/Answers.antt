use Rattle.std.proofs.Common.{get_or, ap, ◌∙◌}
use Rattle.mj_table.proofs.HeldKinds.{copies_step, copies_whole}
use Rattle.mj_table.proofs.counting.tiles_held.Goals as goal

pub loop-place-preserved : goal.loop-place-preserved
loop-place-preserved c =
    copies_step (λ face. get_or c.args.held.now face 0) c.loop-place.tiles c.put_copies.new.self c.loop-place.place c.ordered-tile.result
    c.from-number.result c.loop-place-test.true c.ordered-tile.ensures
    (c.from-number.ensures ∙ ap (λ face. get_or c.args.held.now face 0) (c.from.ensures ∙ c.face.ensures.value)) c.loop-place.invariant c.in_ok-put_copies.ensures

pub returns : goal.returns
returns c = copies_whole (λ face. get_or c.args.held.now face 0) c.loop-place.tiles c.loop-place.place c.loop-place-test.false c.loop-place.auto.place-end c.loop-place.invariant
