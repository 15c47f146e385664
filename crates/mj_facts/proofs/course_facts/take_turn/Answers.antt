use Rattle.mj_facts.proofs.CourseKept.{discard_follows}
use Rattle.mj_facts.proofs.course_facts.take_turn.Goals as goal

pub returns : goal.returns
returns c before from tile drawn is k =
    discard_follows before c.args.deed.now from tile drawn c.args.course.now c.counted-course.result c.put_kind.new.kinds is k c.counted-course.ensures.many c.put_kind.ensures
