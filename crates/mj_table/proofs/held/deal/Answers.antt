use Rattle.mj_table.proofs.FacesHeld.{dealt_alone}
use Rattle.mj_table.proofs.held.deal.Goals as goal

pub returns : goal.returns
returns c = dealt_alone c.take_up.new.held c.args.tiles.now c.take_up.ensures
