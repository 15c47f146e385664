use Rattle.std.proofs.Common.{sym, ◌∙◌, subst}
use Rattle.mj_journal.specs.Outcomes.{Enters}
use Rattle.mj_journal.specs.Playing.{sat}
use Rattle.mj_journal.proofs.Enterings.{sit_enters}
use Rattle.mj_written.proofs.Authoring.{below_after, sat_by}
use Rattle.mj_written.proofs.authored.AuthoredEntering.sit.Goals as goal

pub invariant_of-self : goal.invariant_of-self
invariant_of-self g c =
    let s = g.G.Entering.setting c.self.inside.game in
    let es = g.G.Entering.history c.self.inside.game in
    let fs = g.G.Entering.history c.sit-answer.new.self in
    let sits = g.G.Entering.sits s es c.args.line.now in
    let joins = g.G.Entering.joins c.args.line.now in
    let right = sat sits c.args.author joins in
    let enters = subst (λ o. Enters o right es fs) (sym c.sit_outcome.ensures) (sit_enters es fs c.sit-answer.result sits c.args.author joins c.sit-answer.ensures.entries) in
    c.stays_below-self-inside.ensures ∙ below_after c.sit_outcome.result right c.self.inside.below c.args.author c.self.inside.authors es fs enters (sat_by _ sits c.args.author joins) c.self.invariant
