use Rattle.std.proofs.Common.{◌≡◌, drop}
use Rattle.std.specs.Prelude.{flat_map}
use Rattle.mj_deeds.specs.Facts.{adds_by, with_added}
use Rattle.mj_deeds.proofs.meld.with_added.Given as goal

abbrev pub invariant-loop-deed : goal.invariant-loop-deed
invariant-loop-deed l = with_added l.meld (flat_map (adds_by l.seat) (drop l.deed-index l.deeds)) ≡ with_added l.meld (flat_map (adds_by l.seat) l.deeds)
