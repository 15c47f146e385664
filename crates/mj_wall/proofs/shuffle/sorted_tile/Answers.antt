use Rattle.std.proofs.Common.{refl}
use Rattle.mj_wall.proofs.Shuffles.{red_at, plain_at}
use Rattle.mj_wall.proofs.shuffle.sorted_tile.Goals as goal

pub returns-then-is_red_place : goal.returns-then-is_red_place
returns-then-is_red_place c = red_at c.args.red c.is_red_place.result c.args.place _ c.at.result c.requires c.is_red_place.ensures c.if-is_red_place.true refl c.at.ensures

pub returns : goal.returns
returns c = plain_at c.args.red c.is_red_place.result c.args.place _ _ c.requires c.is_red_place.ensures c.if-is_red_place.false refl c.at-2.ensures
