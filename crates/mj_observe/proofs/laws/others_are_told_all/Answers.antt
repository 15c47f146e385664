use Rattle.mj_observe.proofs.Growing.{others_are_told_all}
use Rattle.mj_observe.proofs.laws.others_are_told_all.Goals as goal

pub returns : goal.returns
returns c = others_are_told_all
