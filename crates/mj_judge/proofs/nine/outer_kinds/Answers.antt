use Rattle.std.proofs.Common.{arith}
use Rattle.mj_deeds.specs.Facts.{concealed_tiles}
use Rattle.mj_deeds.specs.Hand.{hand}
use Rattle.mj_rules.specs.View.{view_of}
use Rattle.mj_judge.proofs.Outer.{outer_yes, outer_no, outer_all}
use Rattle.mj_judge.proofs.nine.outer_kinds.Goals as goal
use Rattle.mj_judge.proofs.nine.outer_kinds.Goals.{then-holds_outer, else-holds_outer}

pub loop-number-preserved : goal.loop-number-preserved
loop-number-preserved c = elim c.if-holds_outer.branch [
  | then-holds_outer w ↦ record {
    value = outer_yes (concealed_tiles (hand c.args.table.now.deeds) c.args.seat) c.holds-counts.result c.loop-number.number c.at.result c.loop-number.held c.if-holds_outer.held c.holds_outer.result
        c.loop-number-test.true c.at.ensures c.holds-counts.ensures.value c.holds_outer.ensures c.loop-number.invariant.value w.if-holds_outer.true w.held-is;
    within = omega (arith, c.loop-number.invariant.within, w.held-is);
  }
  | else-holds_outer w ↦ record {
    value = outer_no (concealed_tiles (hand c.args.table.now.deeds) c.args.seat) c.holds-counts.result c.loop-number.number c.at.result c.loop-number.held c.if-holds_outer.held c.holds_outer.result
        c.loop-number-test.true c.at.ensures c.holds-counts.ensures.value c.holds_outer.ensures c.loop-number.invariant.value w.if-holds_outer.false w.held-is;
    within = omega (arith, c.loop-number.invariant.within, w.held-is);
  }
]

pub returns-clause-value : goal.returns-clause-value
unfolding view_of
returns-clause-value c = outer_all (concealed_tiles (hand c.args.table.now.deeds) c.args.seat) c.loop-number.number c.loop-number.held c.loop-number-test.false c.loop-number.invariant.value
