use Rattle.mj_facts.proofs.CourseKept.{draw_follows}
use Rattle.mj_facts.proofs.course_facts.follow.Goals as goal

pub returns-in-Draw : goal.returns-in-Draw
returns-in-Draw c before few k = draw_follows before c.args.deed.now c.in-Draw.seat c.in-Draw.tile c.in-Draw.replacement c.args.course.now c.in-Draw.is k

pub returns-in-Discard : goal.returns-in-Discard
returns-in-Discard c before few k = c.take_turn.ensures before c.in-Discard.seat c.in-Discard.tile c.in-Discard.drawn c.in-Discard.is k
