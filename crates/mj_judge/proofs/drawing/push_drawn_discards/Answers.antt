use Rattle.std.proofs.Common.{refl}
use Rattle.mj_rules.specs.Possible.{discards_of, all_discards}
use Rattle.mj_judge.proofs.Tried.{faces_start, face_more, faces_end}
use Rattle.mj_judge.proofs.drawing.push_drawn_discards.Goals as goal

pub loop-place-init : goal.loop-place-init
loop-place-init c = faces_start c.args.table.now.rules c.args.table.now.deeds c.args.seat (discards_of c.args.seat) _ _ refl

pub loop-place-preserved : goal.loop-place-preserved
loop-place-preserved c =
    face_more c.args.table.now.rules c.args.table.now.deeds c.args.seat (discards_of c.args.seat) c.loop-place.place c.ordered.result _ _ _
    c.loop-place-test.true c.ordered.ensures c.loop-place.invariant
    c.in_ok-push_drawn_discards_of.ensures

pub returns : goal.returns
unfolding all_discards
returns c = faces_end c.args.table.now.rules c.args.table.now.deeds c.args.seat (discards_of c.args.seat) c.loop-place.place _ _ c.loop-place-test.false c.loop-place.invariant
