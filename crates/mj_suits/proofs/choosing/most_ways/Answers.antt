use Rattle.std.proofs.Common.{arith}
use Rattle.mj_suits.specs.Inner.Choosing.{NoWay}
use Rattle.mj_suits.proofs.Choices.{no_more, some_tiles}
use Rattle.mj_suits.proofs.choosing.most_ways.Goals as goal

pub returns-in-Some-ways_within : goal.returns-in-Some-ways_within
returns-in-Some-ways_within c = record {
  tiles = 3;
  are = c.in-Some-ways_within.ensures;
  most = (no_more (NoWay c.args.aim.now c.args.level.now c.args.others.now c.args.plan.now) 3 c.in_default.ensures (λ more least few. absurd (omega arith)));
}

pub returns-in-Some-ways_within-2 : goal.returns-in-Some-ways_within-2
returns-in-Some-ways_within-2 c = record {
  tiles = 2;
  are = c.in-Some-ways_within-2.ensures;
  most = (no_more (NoWay c.args.aim.now c.args.level.now c.args.others.now c.args.plan.now) 2 c.in_default-ways_within.ensures
      (no_more (NoWay c.args.aim.now c.args.level.now c.args.others.now c.args.plan.now) 3 c.in_default.ensures (λ more least few. absurd (omega arith))));
}

pub returns-in-Some-ways_within-3 : goal.returns-in-Some-ways_within-3
returns-in-Some-ways_within-3 c = record {
  tiles = 1;
  are = c.in-Some-ways_within-3.ensures;
  most = (no_more (NoWay c.args.aim.now c.args.level.now c.args.others.now c.args.plan.now) 1 c.in_default-ways_within-2.ensures
      (no_more (NoWay c.args.aim.now c.args.level.now c.args.others.now c.args.plan.now) 2 c.in_default-ways_within.ensures
      (no_more (NoWay c.args.aim.now c.args.level.now c.args.others.now c.args.plan.now) 3 c.in_default.ensures (λ more least few. absurd (omega arith)))));
}

pub returns-in-Some-ways_within-4 : goal.returns-in-Some-ways_within-4
returns-in-Some-ways_within-4 c = record {
  tiles = 0;
  are = c.in-Some-ways_within-4.ensures;
  most = (no_more (NoWay c.args.aim.now c.args.level.now c.args.others.now c.args.plan.now) 0 c.in_default-ways_within-3.ensures
      (no_more (NoWay c.args.aim.now c.args.level.now c.args.others.now c.args.plan.now) 1 c.in_default-ways_within-2.ensures
      (no_more (NoWay c.args.aim.now c.args.level.now c.args.others.now c.args.plan.now) 2 c.in_default-ways_within.ensures
      (no_more (NoWay c.args.aim.now c.args.level.now c.args.others.now c.args.plan.now) 3 c.in_default.ensures (λ more least few. absurd (omega arith))))));
}

pub unreachable-requires : goal.unreachable-requires
unreachable-requires c = some_tiles _ _ _ _ c.requires c.in_default-ways_within-4.ensures
    (no_more (NoWay c.args.aim.now c.args.level.now c.args.others.now c.args.plan.now) 0 c.in_default-ways_within-3.ensures
    (no_more (NoWay c.args.aim.now c.args.level.now c.args.others.now c.args.plan.now) 1 c.in_default-ways_within-2.ensures
    (no_more (NoWay c.args.aim.now c.args.level.now c.args.others.now c.args.plan.now) 2 c.in_default-ways_within.ensures
    (no_more (NoWay c.args.aim.now c.args.level.now c.args.others.now c.args.plan.now) 3 c.in_default.ensures (λ more least few. absurd (omega arith))))))
