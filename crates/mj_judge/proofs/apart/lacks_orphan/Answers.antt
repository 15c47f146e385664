use Rattle.std.proofs.Common.{refl, arith}
use Rattle.mj_tiles.specs.Terminals.{is_terminal_or_honour}
use Rattle.mj_judge.proofs.apart.lacks_orphan.Goals as goal

pub returns-then-lacks : goal.returns-then-lacks
unfolding is_terminal_or_honour
returns-then-lacks c = λ so. record {
  other = 27;
  within = omega arith;
  outer = refl;
  differs = c.lacks.ensures.differs c.if-lacks.true;
  none = c.lacks.ensures.none c.if-lacks.true;
}

pub returns : goal.returns
unfolding is_terminal_or_honour
returns c = λ so. record {
  other = 28;
  within = omega arith;
  outer = refl;
  differs = c.lacks-2.ensures.differs so;
  none = c.lacks-2.ensures.none so;
}
