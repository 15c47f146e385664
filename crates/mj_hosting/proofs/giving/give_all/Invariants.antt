use Rattle.std.proofs.Common.{◌≡◌, vec_len}
use Rattle.mj_handlers.specs.Handlers.{rows}
use Rattle.mj_hosting.specs.Steps.{links_in}
use Rattle.mj_hosting.specs.Inner.Giving.{Giving}
use Rattle.mj_hosting.proofs.giving.give_all.Given as goal

abbrev pub invariant-loop-own : goal.invariant-loop-own
invariant-loop-own g l = record {
  given : Giving (g.H.Host.returned l.initial.host) (g.H.Host.returned l.host) (links_in (rows l.fn.sessions.items)) (links_in (rows l.sessions.items));
  ports : g.H.Host.ports l.host ≡ g.H.Host.ports l.initial.host;
  openings : g.H.Host.open_faults l.host ≡ g.H.Host.open_faults l.initial.host;
  made : (f : _) → g.H.Host.made_by l.initial.host f → g.H.Host.made_by l.host f;
}

abbrev pub decreases-loop-own : goal.decreases-loop-own
decreases-loop-own g l = vec_len l.sessions
