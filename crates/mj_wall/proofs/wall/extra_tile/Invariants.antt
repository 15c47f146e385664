use Rattle.std.proofs.Common.{◌≡◌, take, drop, []}
use Rattle.mj_wall.specs.Places.{first_extra}
use Rattle.mj_wall.proofs.Extras.{AreWithin, AreLeft}
use Rattle.mj_wall.proofs.wall.extra_tile.Given as goal

abbrev pub invariant-loop-i : goal.invariant-loop-i
invariant-loop-i l = record {
  same : first_extra l.red (take l.i l.tiles) (drop l.i l.tiles) ≡ first_extra l.red [] l.tiles;
  within : AreWithin l.red (take l.i l.tiles);
  left : AreLeft l.red l.left (take l.i l.tiles);
}
