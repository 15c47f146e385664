use Rattle.std.proofs.Common.{◌≡◌}
use Rattle.mj_handlers.specs.declared.visit.Finding.TheVariants as finding
use Rattle.mj_handlers.specs.Hands.{AllBelow, IsLegalAt, AreOver}
use Rattle.mj_handlers.specs.Inner.Steps.{AllQuiet}
use Rattle.mj_handlers.proofs.hand.ask_all.Given as goal

abbrev pub invariant-loop-t : goal.invariant-loop-t
invariant-loop-t g l = record {
  quiet : AllQuiet g.T.Noted.setting l.turns l.fn.passes l.passes;
  legal : AllBelow l.turns (IsLegalAt g.T.Seated g.T.Noted.setting) l.t l.passes;
  over : l.all ≡ finding.Over → AreOver g.T.Seated g.T.Noted.setting l.turns l.t l.passes;
}
