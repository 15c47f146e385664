use Rattle.std.proofs.Common.{Some, true, refl, sym, ◌∙◌, subst}
use Rattle.mj_ports.specs.declared.entry.Entry.TheVariants.{Gone}
use Rattle.mj_journal.specs.Outcomes.{Enters}
use Rattle.mj_journal.proofs.Enterings.{gone_enters}
use Rattle.mj_written.proofs.Authoring.{below_after}
use Rattle.mj_written.proofs.authored.AuthoredEntering.gone.Goals as goal

pub invariant_of-self : goal.invariant_of-self
invariant_of-self g c =
    let s = g.G.Entering.setting c.self.inside.game in
    let es = g.G.Entering.history c.self.inside.game in
    let fs = g.G.Entering.history c.gone-left.new.self in
    let right = Some (Gone c.args.author c.args.seat) in
    let enters = subst (λ o. Enters o right es fs) (sym c.gone_outcome.ensures) (gone_enters es fs c.gone-left.result c.args.author c.args.seat true refl c.gone-left.ensures.entries) in
    c.stays_below-self-inside.ensures ∙ below_after c.gone_outcome.result right c.self.inside.below c.args.author c.self.inside.authors es fs enters (refl) c.self.invariant
