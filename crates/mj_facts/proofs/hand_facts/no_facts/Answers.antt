use Rattle.std.proofs.Common.{refl}
use Rattle.mj_lists.proofs.Fronts.{zero_at}
use Rattle.mj_facts.proofs.hand_facts.no_facts.Goals as goal

pub returns : goal.returns
returns c = record { begun = refl; drawn = refl; kans = refl; brought = λ kind small. zero_at 34 kind; course = c.no_course.ensures; seats = c.no_seats.ensures }
