use Rattle.std.proofs.Common.{ap, arith, length}
use Rattle.mj_selfplay.proofs.Walls.{at_hand_then, enough_then, enough_yet}
use Rattle.mj_selfplay.proofs.supply.enough_walls.Goals as goal

pub returns-then-hands-as_slice-clause-enough : goal.returns-then-hands-as_slice-clause-enough
returns-then-hands-as_slice-clause-enough c =
    enough_yet c.args.seed c.args.walls c.args.hands c.requires (omega (arith, c.if-hands-as_slice.true, ap length c.as_slice.ensures))

pub returns-clause-at_hand : goal.returns-clause-at_hand
returns-clause-at_hand c =
    at_hand_then c.args.seed c.in_ok-more.more c.args.hands c.number_for.result c.number_for.ensures c.in_ok-more.ensures.value c.in_ok-more.ensures.many c.in_ok-more.ensures.whole

pub returns-clause-enough : goal.returns-clause-enough
returns-clause-enough c =
    enough_then c.args.seed c.in_ok-more.more c.args.hands c.number_for.result c.number_for.ensures c.in_ok-more.ensures.value c.in_ok-more.ensures.many c.in_ok-more.ensures.whole
