use Rattle.std.proofs.Common.{sym, ap, ◌∙◌, get_or, arith}
use Rattle.mj_facts.proofs.FitsKept.{held_more, held_no_more}
use Rattle.mj_facts.proofs.fitting.are_held.Goals as goal

pub returns-then-from-number_among : goal.returns-then-from-number_among
returns-then-from-number_among c got gone holds =
    sym (held_no_more c.args.held.now got gone c.args.tiles.now c.loop-tile.tile-index c.tile-item.result c.from-in-loop-tile.result
    c.number_among.result c.loop-tile-test.true c.tile-item.is (omega (arith, c.face.ensures.value, c.face.ensures.within))
    holds (c.from-in-loop-tile.ensures ∙ ap (λ face. get_or c.args.held.now face 0) (c.from.ensures ∙ c.face.ensures.value)) c.number_among.ensures c.if-from-number_among.true)
    ∙ c.loop-tile.invariant got gone holds

pub loop-tile-preserved : goal.loop-tile-preserved
loop-tile-preserved c got gone holds =
    held_more c.args.held.now got gone c.args.tiles.now c.loop-tile.tile-index c.tile-item.result c.from-in-loop-tile.result c.number_among.result
    c.loop-tile-test.true c.tile-item.is (omega (arith, c.face.ensures.value, c.face.ensures.within))
    holds (c.from-in-loop-tile.ensures ∙ ap (λ face. get_or c.args.held.now face 0) (c.from.ensures ∙ c.face.ensures.value)) c.number_among.ensures c.if-from-number_among.false
    ∙ c.loop-tile.invariant got gone holds
