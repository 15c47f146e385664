-- The melds gone through.
use Rattle.std.proofs.Common.{◌≡◌, ◌≤◌, ◌*◌, take}
use Rattle.mj_page.specs.Hands.{melded}
use Rattle.mj_page.proofs.melds.melded.Given as goal

abbrev pub invariant-loop-meld : goal.invariant-loop-meld
invariant-loop-meld l = (l.number ≡ melded (take l.meld-index l.melds) l.kind) × (l.number ≤ 4 * l.meld-index)
