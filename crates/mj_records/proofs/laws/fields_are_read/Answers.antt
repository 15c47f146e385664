use Rattle.mj_records.proofs.laws.fields_are_read.Goals as goal
use Rattle.mj_records.proofs.FieldLaws.{fields_are_read}

pub returns : goal.returns
returns c = fields_are_read
