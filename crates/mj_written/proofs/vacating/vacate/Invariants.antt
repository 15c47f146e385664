use Rattle.std.proofs.Common.{◌≡◌}
use Rattle.mj_written.specs.Vacating.{vacated}
use Rattle.mj_written.proofs.vacating.vacate.Given as goal

abbrev pub invariant-loop-seat : goal.invariant-loop-seat
invariant-loop-seat g l = record {
  setting : g.G.Entering.setting l.game ≡ g.G.Entering.setting l.initial.game;
  entries : g.G.Entering.history l.game ≡ vacated (g.G.Entering.after (g.G.Entering.setting l.initial.game)) (g.G.Entering.history l.initial.game) l.seat;
}
