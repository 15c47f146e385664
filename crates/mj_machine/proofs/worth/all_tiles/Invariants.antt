use Rattle.std.proofs.Common.{◌≡◌, take}
use Rattle.mj_machine.specs.Inner.Steps.{all_tiles}
use Rattle.mj_machine.proofs.worth.all_tiles.Given as goal

abbrev pub invariant-loop-meld : goal.invariant-loop-meld
invariant-loop-meld l = l.tiles ≡ all_tiles l.shown.own.now l.shown.tile (take l.meld-index l.shown.melds.now)
