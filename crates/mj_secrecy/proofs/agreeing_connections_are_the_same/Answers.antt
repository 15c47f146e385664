use Rattle.mj_secrecy.proofs.OneWorld.{agreeing_connections}
use Rattle.mj_secrecy.proofs.agreeing_connections_are_the_same.Goals as goal

pub returns : goal.returns
returns c = agreeing_connections
