use Rattle.std.proofs.Common.{arith}
use Rattle.mj_deeds.specs.Facts.{tiles_gained, tiles_lost}
use Rattle.mj_facts.proofs.FitsKept.{all_held}
use Rattle.mj_facts.proofs.fitting.has_held.Goals as goal

pub returns : goal.returns
returns c hand holds =
    all_held hand c.args.deed.now c.holds_own-first.result c.holds_own-second.result c.holds_own-third.result c.holds_own-fourth.result c.are_four.result
    (c.holds_own-first.ensures (tiles_gained hand 0) (tiles_lost hand 0) (holds 0 (omega arith))) (c.holds_own-second.ensures (tiles_gained hand 1) (tiles_lost hand 1) (holds 1 (omega arith)))
    (c.holds_own-third.ensures (tiles_gained hand 2) (tiles_lost hand 2) (holds 2 (omega arith))) (c.holds_own-fourth.ensures (tiles_gained hand 3)
    (tiles_lost hand 3) (holds 3 (omega arith))) c.are_four.ensures
