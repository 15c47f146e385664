use Rattle.mj_records.proofs.ReadLaws.{read_deeds_tell_the_same}
use Rattle.mj_records.proofs.laws.read_deeds_tell_the_same.Goals as goal

pub returns : goal.returns
returns c = read_deeds_tell_the_same
