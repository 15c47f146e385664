use Rattle.mj_deeds.specs.Facts.{indicators}
use Rattle.mj_deeds.specs.Four.{at_seat}
use Rattle.mj_facts.proofs.CourseKept.{few_shown, shown_more, first_kan_more, newest_kan_more, several_more, turns_more, kind_more, riichis_more, won_more, draw_more}
use Rattle.std.proofs.Common.{◌∙◌}
use Rattle.mj_facts.proofs.course_facts.follow_other.Goals as goal

pub returns : goal.returns
returns c before few k = record {
  shown =
      shown_more _ before c.args.deed.now c.shown_by.result c.shown_by.ensures
      (c.add.ensures (indicators before) (few_shown before c.args.deed.now c.shown_by.result c.shown_by.ensures few) k.shown);
  first_kan = c.or-course.ensures ∙ first_kan_more before c.args.deed.now c.seat_of_kan-kan.result c.args.course.now.first_kan c.seat_of_kan-kan.ensures k.first_kan;
  newest_kan = c.or-course-2.ensures ∙ newest_kan_more before c.args.deed.now c.seat_of_kan-kan.result c.args.course.now.newest_kan c.seat_of_kan-kan.ensures k.newest_kan;
  several =
      several_more before c.args.deed.now c.seat_of_kan-kan.result c.args.course.now.first_kan c.args.course.now.several c.is_another.result _ c.seat_of_kan-kan.ensures k.first_kan k.several
      c.is_another.ensures c.either-course.ensures;
  turns = turns_more before c.args.deed.now c.args.course.now.turns _ c.is_turn.result c.is_turn.ensures k.turns c.counted-course.ensures.many;
  kinds = λ place small.
      kind_more before c.args.deed.now c.args.course.now.turns place (at_seat c.args.course.now.kinds place) _ small k.turns (k.kinds place small) (c.put_kind.ensures place small);
  riichis = riichis_more before c.args.deed.now c.args.course.now.riichis _ c.is_deposit.result c.is_deposit.ensures k.riichis c.counted-course-2.ensures.many;
  won = won_more before c.args.deed.now c.args.course.now.won c.is_win.result _ k.won c.is_win.ensures c.either-course-2.ensures;
  draw = λ dealer. draw_more before c.args.deed.now dealer c.args.course.now.draw c.draw_by.result _ (k.draw dealer) (c.draw_by.ensures dealer) c.keep_first.ensures;
}
