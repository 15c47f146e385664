use Rattle.mj_facts.proofs.SeatTurns.{only_passed}
use Rattle.mj_facts.proofs.seat_facts.SeatFacts.let_pass.Goals as goal

pub returns : goal.returns
returns c before deed who o k = only_passed before deed who c.args.self.now c.go_on.new.self o k c.go_on.ensures
