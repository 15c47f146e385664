use Rattle.std.proofs.Common.{refl}
use Rattle.mj_facts.proofs.CourseKept.{no_kinds_at}
use Rattle.mj_facts.proofs.course_facts.no_course.Goals as goal

pub returns : goal.returns
returns c = record {
  shown = c.no_tiles.ensures;
  first_kan = refl;
  newest_kan = refl;
  several = refl;
  turns = refl;
  kinds = no_kinds_at;
  riichis = refl;
  won = refl;
  draw = λ dealer. refl;
}
