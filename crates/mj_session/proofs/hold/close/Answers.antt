use Rattle.std.proofs.Common.{◌<◌, sym, ◌∙◌, subst, subst₂}
use Rattle.std.specs.Prelude.{All}
use Rattle.turn_lock.specs.Turns.{IsSeenIn}
use Rattle.mj_session.proofs.hold.close.Goals as goal

pub returns-clause-setting : goal.returns-clause-setting
returns-clause-setting g c =
    let table = g.met.T.SharedGame g.world.𝓛 g.world.𝓜 g.world.𝓡 ((λ s x. x), (λ x. x), (λ x. x), λ x. x) in
    sym (table.same_setting c.close-table.result) ∙ c.close-table.ensures.setting

pub returns-clause-legal : goal.returns-clause-legal
returns-clause-legal g c =
    let table = g.met.T.SharedGame g.world.𝓛 g.world.𝓜 g.world.𝓡 ((λ s x. x), (λ x. x), (λ x. x), λ x. x) in
    subst (λ s. g.T.Seated.is_legal s (g.T.Seated.history c.close-table.result)) (sym (table.same_setting c.close-table.result) ∙ c.close-table.ensures.setting) c.entries-entries.ensures.legal

pub returns-clause-seen : goal.returns-clause-seen
returns-clause-seen g c =
    let table = g.met.T.SharedGame g.world.𝓛 g.world.𝓜 g.world.𝓡 ((λ s x. x), (λ x. x), (λ x. x), λ x. x) in
    subst₂ (λ a l. All (IsSeenIn a l) c.args.passes.items) table.same_author (table.same_notes c.close-table.result) c.close-table.ensures.seen

pub returns-clause-below : goal.returns-clause-below
returns-clause-below g c =
    let table = g.met.T.SharedGame g.world.𝓛 g.world.𝓜 g.world.𝓡 ((λ s x. x), (λ x. x), (λ x. x), λ x. x) in
    subst₂ (λ a l. All (λ n. a n < c.args.turn.passes) l) table.same_author (table.same_notes c.close-table.result) c.close-table.ensures.below
