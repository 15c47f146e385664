use Rattle.std.proofs.Common.{sym, ◌∙◌, subst}
use Rattle.mj_journal.specs.Outcomes.{Enters}
use Rattle.mj_journal.specs.Playing.{said}
use Rattle.mj_journal.proofs.Enterings.{said_right}
use Rattle.mj_written.proofs.Authoring.{below_after, said_by}
use Rattle.mj_written.proofs.authored.AuthoredEntering.said.Goals as goal

pub invariant_of-self : goal.invariant_of-self
invariant_of-self g c =
    let s = g.G.Entering.setting c.self.inside.game in
    let es = g.G.Entering.history c.self.inside.game in
    let fs = g.G.Entering.history c.said-heard.new.self in
    let answer = g.G.Entering.reads c.args.line.now in
    let hears = g.G.Entering.hears s es c.args.author c.args.seat answer in
    let right = said hears c.args.author c.args.seat answer in
    let enters = subst (λ o. Enters o right es fs) (sym c.said_outcome.ensures) (said_right es fs c.said-heard.result hears c.args.author c.args.seat answer c.said-heard.ensures.entries) in
    c.stays_below-self-inside.ensures ∙ below_after c.said_outcome.result right c.self.inside.below c.args.author c.self.inside.authors es fs enters
    (said_by hears c.args.author c.args.seat answer) c.self.invariant
