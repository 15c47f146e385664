use Rattle.std.proofs.Common.{rules, ◌<◌}
use Rattle.mj_deeds.specs.Facts.{tiles_gained, tiles_lost}
use Rattle.mj_deeds.specs.Hand.{hand}
use Rattle.mj_judge.proofs.Discards.{left_same, left_less}
use Rattle.mj_judge.proofs.counting.counts_without.Goals as goal

pub returns-then-held_count-eq0 : goal.returns-then-held_count-eq0
returns-then-held_count-eq0 c =
    left_same (tiles_gained (hand c.args.table.now.deeds) c.args.seat) (tiles_lost (hand c.args.table.now.deeds) c.args.seat) c.holds-held.result c.args.tile c.held_count.result
    c.holds-held.ensures.value c.held_count.ensures c.if-held_count-eq0.true

pub returns : goal.returns
returns c =
    let small : c.args.tile < 37 = search rules in
    left_less (tiles_gained (hand c.args.table.now.deeds) c.args.seat) (tiles_lost (hand c.args.table.now.deeds) c.args.seat) c.holds-held.result
    c.without.result c.args.tile c.held_count.result c.kind.result
    c.holds-held.ensures.value c.held_count.ensures c.if-held_count-eq0.false small c.kind.ensures c.without.ensures
