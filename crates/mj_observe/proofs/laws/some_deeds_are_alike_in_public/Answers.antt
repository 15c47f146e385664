use Rattle.mj_observe.proofs.Alike.{alike_in_public}
use Rattle.mj_observe.proofs.laws.some_deeds_are_alike_in_public.Goals as goal

pub returns : goal.returns
returns c = alike_in_public
