use Rattle.std.proofs.Common.{◌≡◌, ℕ, List, ◌++◌, ap, sym, ◌∙◌}
use Rattle.mj_core.specs.Calls.{pending_at}
use Rattle.mj_refereeing.proofs.Telling.{script-parts}
use Rattle.mj_refereeing.proofs.watched.Watched.script.Goals as goal

pub returns-clause-bytes : goal.returns-clause-bytes
returns-clause-bytes c =
    let copied : c.in_ok-bytes.bytes.items ≡ c.args.self.now.told.items = c.in_ok-bytes.ensures.items_if_clones_equal (λ x y e. e) ∙ c.deref.ensures.value in
    c.in_ok-pending.ensures.ok.is ∙ ap (λ (xs : List ℕ). xs ++ pending_at c.args.self.now.core.game c.args.self.now.core.seat) (copied ∙ c.args.self.now.same c.if-not-self.false)
    ∙ sym (script-parts c.args.self.now.core.seat c.args.self.now.core.game)
