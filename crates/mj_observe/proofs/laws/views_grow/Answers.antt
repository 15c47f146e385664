use Rattle.mj_observe.proofs.Growing.{views_grow}
use Rattle.mj_observe.proofs.laws.views_grow.Goals as goal

pub returns : goal.returns
returns c = views_grow
