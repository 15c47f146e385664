use Rattle.std.proofs.Common.{◌≡◌, take, map}
use Rattle.std.specs.Prelude.{flat_map}
use Rattle.mj_deeds.specs.Facts.{makes_by, adds_by, with_added}
use Rattle.mj_deeds.proofs.meld.melds.Given as goal

abbrev pub invariant-loop-deed : goal.invariant-loop-deed
invariant-loop-deed l =
    l.melds.items ≡ map (λ meld. with_added meld (flat_map (adds_by l.seat) l.deeds)) (flat_map (makes_by l.seat) (take l.deed-index l.deeds))
