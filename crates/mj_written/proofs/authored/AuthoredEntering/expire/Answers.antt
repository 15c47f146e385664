use Rattle.std.proofs.Common.{sym, ◌∙◌, subst}
use Rattle.mj_journal.specs.Outcomes.{Enters}
use Rattle.mj_journal.specs.Playing.{expired}
use Rattle.mj_journal.proofs.Enterings.{expiry_enters}
use Rattle.mj_written.proofs.Authoring.{below_after, expired_by}
use Rattle.mj_written.proofs.authored.AuthoredEntering.expire.Goals as goal

pub invariant_of-self : goal.invariant_of-self
invariant_of-self g c =
    let s = g.G.Entering.setting c.self.inside.game in
    let es = g.G.Entering.history c.self.inside.game in
    let fs = g.G.Entering.history c.expire-expiry.new.self in
    let expires = g.G.Entering.expires s es c.args.window c.args.t1 c.args.t2 in
    let right = expired expires c.args.author c.args.window c.args.t1 c.args.t2 in
    let enters = subst (λ o. Enters o right es fs) (sym c.expiry_outcome.ensures)
    (expiry_enters es fs c.expire-expiry.result expires c.args.author c.args.window c.args.t1 c.args.t2 c.expire-expiry.ensures.entries) in
    c.stays_below-self-inside.ensures ∙ below_after c.expiry_outcome.result right c.self.inside.below c.args.author c.self.inside.authors es fs enters
    (expired_by _ expires c.args.author c.args.window c.args.t1 c.args.t2) c.self.invariant
