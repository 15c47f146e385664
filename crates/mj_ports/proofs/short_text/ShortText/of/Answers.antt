use Rattle.std.proofs.Common.{refl}
use Rattle.mj_ports.proofs.Padding.{padded_front}
use Rattle.mj_ports.proofs.short_text.ShortText.of.Goals as goal

pub invariant_of-result : goal.invariant_of-result
invariant_of-result g c = rw c.put.ensures (padded_front _ _ refl c.requires)
