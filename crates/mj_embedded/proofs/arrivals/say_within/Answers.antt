use Rattle.std.proofs.Common.{refl, sym}
use Rattle.mj_embedded.specs.Calls.{NotDue, Given}
use Rattle.mj_embedded.proofs.arrivals.say_within.Goals as goal

pub returns-then-not-may_say : goal.returns-then-not-may_say
returns-then-not-may_say c = NotDue refl c.in-Some.author (sym c.in-Some.ensures) (sym c.if-not-may_say.ensures.asked) refl refl

pub returns : goal.returns
returns c = Given c.in-Some.author c.said-heard.result (sym c.in-Some.ensures) c.said-heard.ensures c.tell.ensures
