use Rattle.std.proofs.Common.{refl, arith}
use Rattle.mj_shanten.proofs.Doubles.{doubles_start, doubles_more, doubles_end}
use Rattle.mj_shanten.proofs.Special.{orphans_far}
use Rattle.mj_shanten.proofs.orphans.take_orphans.Goals as goal

pub returns-then-is_nearer : goal.returns-then-is_nearer
returns-then-is_nearer c = orphans_far _ _ _ (c.if-is_nearer.ensures refl) c.missing_tiles.ensures

pub loop-double-init : goal.loop-double-init
loop-double-init c = doubles_start _ _ _ refl

pub loop-double-preserved : goal.loop-double-preserved
loop-double-preserved c = doubles_more _ _ _ _ _ _ _ refl refl c.loop-double.invariant c.take_double.ensures

pub returns : goal.returns
returns c = doubles_end _ _ _ _ (omega arith) c.loop-double.invariant
