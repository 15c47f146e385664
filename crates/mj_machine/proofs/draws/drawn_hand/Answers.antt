use Rattle.mj_machine.proofs.Drawn.{drawn}
use Rattle.mj_machine.proofs.draws.drawn_hand.Goals as goal

pub returns : goal.returns
returns c =
    drawn c.args.table.now.deeds c.args.reason c.shown_by-shown.result c.ready_by-ready.result c.in_ok-hands.hands c.draw_deltas-deltas.result c.points.result c.points_with.result
    c.shown_by-shown.ensures c.in_ok-hands.ensures c.ready_by-ready.ensures c.draw_deltas-deltas.ensures.value c.points.ensures c.points_with.ensures
