use Rattle.std.proofs.Common.{◌≡◌, vec_len}
use Rattle.mj_hosting.specs.Steps.{links_at}
use Rattle.mj_hosting.specs.Inner.Giving.{Giving}
use Rattle.mj_hosting.proofs.giving.give.Given as goal

abbrev pub invariant-loop-session : goal.invariant-loop-session
invariant-loop-session g l = record {
  given : Giving (g.H.Host.returned l.initial.host) (g.H.Host.returned l.host) (links_at l.fn.sessions.items) (links_at l.sessions.items);
  ports : g.H.Host.ports l.host ≡ g.H.Host.ports l.initial.host;
  openings : g.H.Host.open_faults l.host ≡ g.H.Host.open_faults l.initial.host;
  made : (f : _) → g.H.Host.made_by l.initial.host f → g.H.Host.made_by l.host f;
}

abbrev pub decreases-loop-session : goal.decreases-loop-session
decreases-loop-session g l = vec_len l.sessions
