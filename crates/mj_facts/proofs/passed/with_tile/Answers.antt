use Rattle.std.proofs.Common.{rules, ◌<◌}
use Rattle.mj_facts.proofs.KindsAmong.{tile_more}
use Rattle.mj_facts.proofs.passed.with_tile.Goals as goal

pub returns-in-Some : goal.returns-in-Some
returns-in-Some c tiles was =
    let small : c.kind.result < 34 = search rules in
    tile_more c.args.kinds tiles c.args.tile c.in-Some.tile c.kind.result c.with.result c.in-Some.is c.kind.ensures small c.with.ensures was
