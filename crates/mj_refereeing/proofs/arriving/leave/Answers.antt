use Rattle.mj_refereeing.proofs.PlayLaws.{goes-on}
use Rattle.mj_refereeing.proofs.arriving.leave.Goals as goal

pub returns-in-Gone-clause-does : goal.returns-in-Gone-clause-does
returns-in-Gone-clause-does c = goes-on _ _ _ _ _ _ _ _ (rw c.umpire.ensures at c.in-Some.ensures) c.requires c.in-Gone.ensures.leaves c.in_ok-tell_last.ensures
