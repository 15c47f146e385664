use Rattle.std.proofs.Common.{◌≡◌, true, false}
use Rattle.mj_handlers.specs.Hands.{AllBelow, IsLegalAt, AreOver, SomeGoesOn}
use Rattle.mj_handlers.specs.Inner.Steps.{AllQuiet}
use Rattle.mj_handlers.proofs.hand.lose_all.Given as goal

abbrev pub invariant-loop-t : goal.invariant-loop-t
invariant-loop-t g l = record {
  quiet : AllQuiet g.T.Noted.setting l.turns l.fn.passes l.passes;
  legal : AllBelow l.turns (IsLegalAt g.T.Seated g.T.Noted.setting) l.t l.passes;
  over : l.over ≡ true → AreOver g.T.Seated g.T.Noted.setting l.turns l.t l.passes;
  on : l.over ≡ false → SomeGoesOn g.T.Seated g.T.Noted.setting l.turns l.t l.passes;
}
