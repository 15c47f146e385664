use Rattle.std.proofs.Common.{sym, ap, ◌∙◌, subst, subst₂}
use Rattle.turn_lock.specs.Turns.{IsSeenIn}
use Rattle.mj_connection.proofs.Others.{others_entered}
use Rattle.mj_session.proofs.Entering.{enters_seen}
use Rattle.mj_session.proofs.hold.take.Goals as goal

pub returns-clause-setting : goal.returns-clause-setting
returns-clause-setting g c =
    let table = g.met.T.SharedGame g.world.𝓛 g.world.𝓜 g.world.𝓡 ((λ s x. x), (λ x. x), (λ x. x), λ x. x) in
    sym (table.same_setting c.value.result.now) ∙ (ap g.T.Noted.setting c.value.ensures.shows ∙ c.take-held.ensures.setting)

pub returns-clause-legal : goal.returns-clause-legal
returns-clause-legal g c =
    let table = g.met.T.SharedGame g.world.𝓛 g.world.𝓜 g.world.𝓡 ((λ s x. x), (λ x. x), (λ x. x), λ x. x) in
    subst (λ s. g.T.Seated.is_legal s (g.T.Seated.history c.value.result.now)) (sym (table.same_setting c.value.result.now)
    ∙ (ap g.T.Noted.setting c.value.ensures.shows ∙ c.take-held.ensures.setting)) c.entries-entries.ensures.legal

pub returns-clause-nothing : goal.returns-clause-nothing
returns-clause-nothing g c =
    let table = g.met.T.SharedGame g.world.𝓛 g.world.𝓜 g.world.𝓡 ((λ s x. x), (λ x. x), (λ x. x), λ x. x) in
    enters_seen (g.T.Seated.history c.value.result.now) c.args.pass.now
    (subst₂ (λ a l. IsSeenIn a l c.args.pass.now) table.same_author (ap g.T.Noted.notes (sym c.value.ensures.shows) ∙ table.same_notes c.value.result.now) c.take-held.ensures.seen)

pub returns-clause-others : goal.returns-clause-others
returns-clause-others g c =
    let table = g.met.T.SharedGame g.world.𝓛 g.world.𝓜 g.world.𝓡 ((λ s x. x), (λ x. x), (λ x. x), λ x. x) in
    let laws = g.met.T.Seated g.world.𝓛 g.world.𝓜 g.world.𝓡 ((λ s x. x), (λ x. x), (λ x. x), λ x. x) in
    let s = g.T.Noted.setting c.args.turn.now.opening in
    let legal = subst (λ s. g.T.Seated.is_legal s (g.T.Seated.history c.value.result.now)) (sym (table.same_setting c.value.result.now)
    ∙ (ap g.T.Noted.setting c.value.ensures.shows ∙ c.take-held.ensures.setting)) c.entries-entries.ensures.legal in
    let nothing = enters_seen (g.T.Seated.history c.value.result.now) c.args.pass.now
    (subst₂ (λ a l. IsSeenIn a l c.args.pass.now) table.same_author (ap g.T.Noted.notes (sym c.value.ensures.shows) ∙ table.same_notes c.value.result.now) c.take-held.ensures.seen) in
    others_entered (g.T.Seated.after s) (g.T.Seated.is_legal s) (laws.legal_before s) (laws.stays s) (laws.others s) c.args.pass.now.number
    c.args.pass.now.seen (g.T.Seated.history c.value.result.now) legal nothing
