use Rattle.std.proofs.Common.{arith}
use Rattle.mj_readings.proofs.OneMore.{standard_yes, standard_no, special_asked}
use Rattle.mj_readings.proofs.completing_kinds.completes_with.Goals as goal

pub returns-then-is_standard_with : goal.returns-then-is_standard_with
returns-then-is_standard_with c =
    standard_yes c.args.counts.now c.args.known.now.melds c.args.kind c.is_standard_with.result (omega arith) c.is_standard_with.ensures c.if-is_standard_with.true

pub returns-then-not-known : goal.returns-then-not-known
returns-then-not-known c =
    standard_no c.args.counts.now c.args.known.now.melds c.args.kind c.is_standard_with.result (c.requires.special c.if-not-known.true) (omega arith)
    c.is_standard_with.ensures c.if-is_standard_with.false

pub returns : goal.returns
returns c =
    special_asked c.args.counts.now c.args.known.now.melds c.args.kind c.is_standard_with.result c.is_special_with.result (omega arith)
    c.is_standard_with.ensures c.if-is_standard_with.false c.is_special_with.ensures
