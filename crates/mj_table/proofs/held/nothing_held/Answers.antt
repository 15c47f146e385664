use Rattle.std.proofs.Common.{[], replicate}
use Rattle.mj_table.proofs.FacesHeld.{holds_nothing}
use Rattle.mj_facts.proofs.EachSeat.{each_seat}
use Rattle.mj_facts.specs.Holding.{Holds}
use Rattle.mj_table.proofs.held.nothing_held.Goals as goal

pub returns : goal.returns
returns c = each_seat (λ s held. Holds [] s held) (replicate 37 0) (replicate 37 0) (replicate 37 0) (replicate 37 0) (holds_nothing 0) (holds_nothing 1) (holds_nothing 2) (holds_nothing 3)
