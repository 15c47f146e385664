use Rattle.mj_secrecy.proofs.Cuts.{beginnings_agree}
use Rattle.mj_secrecy.proofs.beginnings_agree.Goals as goal

pub returns : goal.returns
returns c = beginnings_agree
