use Rattle.mj_table.proofs.FacesHeld.{started}
use Rattle.mj_table.proofs.held.move_own.Goals as goal

pub returns-in-StartHand : goal.returns-in-StartHand
returns-in-StartHand c =
    started c.args.deed.now _ _ _ _ _ _ c.in-StartHand.hands c.args.seat c.args.held.now c.deal.new.held c.at.result.now c.in-StartHand.is c.at.ensures c.deal.ensures
