use Rattle.std.proofs.Common.{◌∙◌, rules}
use Rattle.mj_hosting.proofs.GiveLaws.{giving_link}
use Rattle.mj_hosting.proofs.giving.give.Goals as goal

pub loop-session-preserved : goal.loop-session-preserved
loop-session-preserved g c = record {
  given = giving_link _ _ _ _ c.loop-session.sessions.items c.pop.new.self.items c.in-Some.session (search rules) c.loop-session.invariant.given c.in-Kept.ensures.links;
  ports = c.in-Kept.ensures.ports ∙ c.loop-session.invariant.ports;
  openings = c.in-Kept.ensures.openings ∙ c.loop-session.invariant.openings;
  made = λ f m. c.in-Kept.ensures.made f (c.loop-session.invariant.made f m);
}
