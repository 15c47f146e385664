use Rattle.std.proofs.Common.{◌∙◌, rules}
use Rattle.mj_hosting.proofs.GiveLaws.{giving_table}
use Rattle.mj_hosting.proofs.giving.give_all.Goals as goal

pub loop-own-preserved : goal.loop-own-preserved
loop-own-preserved g c = record {
  given = giving_table _ _ _ _ c.loop-own.sessions.items c.pop.new.self.items c.in-Some.own (search rules) c.loop-own.invariant.given c.in-Kept.ensures.back;
  ports = c.in-Kept.ensures.ports ∙ c.loop-own.invariant.ports;
  openings = c.in-Kept.ensures.openings ∙ c.loop-own.invariant.openings;
  made = λ f m. c.in-Kept.ensures.made f (c.loop-own.invariant.made f m);
}
