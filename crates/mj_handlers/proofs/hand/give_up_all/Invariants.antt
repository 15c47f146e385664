use Rattle.mj_handlers.specs.Hands.{AllBelow, IsLegalAt}
use Rattle.mj_handlers.specs.Inner.Steps.{AllQuiet}
use Rattle.mj_handlers.proofs.hand.give_up_all.Given as goal

abbrev pub invariant-loop-t : goal.invariant-loop-t
invariant-loop-t g l = record {
  quiet : AllQuiet g.T.Noted.setting l.turns l.fn.passes l.passes;
  legal : AllBelow l.turns (IsLegalAt g.T.Seated g.T.Noted.setting) l.t l.passes;
}
