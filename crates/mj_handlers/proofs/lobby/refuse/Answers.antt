use Rattle.mj_handlers.proofs.Receiving.{refuses}
use Rattle.mj_handlers.proofs.lobby.refuse.Goals as goal

pub returns : goal.returns
returns g c = refuses _ _ c.args.refusal.now c.send.result c.send.ensures.reading c.send.ensures.held c.send.ensures.bytes c.send.ensures.faults
