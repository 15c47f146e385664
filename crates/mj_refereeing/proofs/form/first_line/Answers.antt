use Rattle.mj_refereeing.proofs.PassLaws.{first-pass}
use Rattle.mj_refereeing.proofs.form.first_line.Goals as goal

pub returns-in-Some-clause-line : goal.returns-in-Some-clause-line
returns-in-Some-clause-line c = first-pass _ _ _ c.in-Some.ensures.within c.in-Some.ensures.parts
