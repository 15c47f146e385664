use Rattle.mj_handlers.proofs.hand.handle.Goals as goal

pub returns-in-Some-handle_once-clause-hand : goal.returns-in-Some-handle_once-clause-hand
returns-in-Some-handle_once-clause-hand g c = λ first is. c.in-Some-handle_once.ensures.hand first (c.loop.invariant.4 first is)

pub loop-preserved : goal.loop-preserved
loop-preserved g c = (
  tt,
  tt,
  c.handle_once.ensures.many,
  c.handle_once.ensures.idle,
  λ first is. c.in_default.ensures.hand first (c.loop.invariant.4 first is),
)
