use Rattle.mj_ticker.proofs.ticker.tick_all.Goals as goal

pub returns-then-go_round : goal.returns-then-go_round
returns-then-go_round g c = record {
  ticks = λ by first start h. c.go_round.ensures.ticks by first start _ _ c.now-now.ensures (c.loop.invariant.4 by first start h);
  ended = c.go_round.ensures.ended c.if-go_round.true;
}

pub loop-preserved : goal.loop-preserved
loop-preserved g c = (
  tt,
  tt,
  c.go_round.ensures.many,
  c.go_round.ensures.idle,
  λ by first start h. c.go_round.ensures.ticks by first start _ _ c.now-now.ensures (c.loop.invariant.4 by first start h),
)
