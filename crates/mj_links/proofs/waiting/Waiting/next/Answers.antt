use Rattle.mj_links.specs.FreshLinks.{IsFreshLink}
use Rattle.mj_links.proofs.HostLaws.{comes_off}
use Rattle.mj_links.proofs.waiting.Waiting.next.Goals as goal

pub invariant_of-self : goal.invariant_of-self
invariant_of-self c = record { fresh = (comes_off IsFreshLink c.next.result _ _ c.next.ensures.items c.args.self.now.fresh).1 }

pub returns : goal.returns
returns c = (comes_off IsFreshLink c.next.result _ _ c.next.ensures.items c.args.self.now.fresh).0
