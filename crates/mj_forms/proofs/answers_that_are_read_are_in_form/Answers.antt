use Rattle.mj_forms.proofs.Forms.{answers_that_are_read_are_in_form}
use Rattle.mj_forms.proofs.answers_that_are_read_are_in_form.Goals as goal

pub returns : goal.returns
returns c = answers_that_are_read_are_in_form
