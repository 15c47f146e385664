use Rattle.std.proofs.Common.{All}
use Rattle.mj_links.specs.FreshLinks.{IsFreshLink}
use Rattle.test_guests.proofs.guests.host_of.Given as goal

abbrev pub invariant-loop-guest : goal.invariant-loop-guest
invariant-loop-guest l = All IsFreshLink l.links.items
