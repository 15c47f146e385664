use Rattle.std.proofs.Common.{◌∙◌, sym, subst, refl, ◌<◌, ℕ}
use Rattle.mj_facts.proofs.Brought.{one_fits, none_fit}
use Rattle.mj_facts.proofs.bringing.keeps_kinds.Goals as goal

pub returns-in-Some : goal.returns-in-Some
returns-in-Some c few =
    one_fits c.args.before.now c.args.deed.now c.tile_brought.result c.in-Some.tile c.from.result _ few (c.tile_brought.ensures (sym c.is_hand_start.ensures ∙ c.if-is_hand_start.false)) c.in-Some.is
    (c.from.ensures ∙ c.number.ensures.value ∙ c.kind.ensures) (subst (λ (n : ℕ). n < 34) (sym c.from.ensures) c.number.ensures.within) refl

pub returns-in-None : goal.returns-in-None
returns-in-None c few =
    none_fit c.args.before.now c.args.deed.now c.tile_brought.result few (c.tile_brought.ensures (sym c.is_hand_start.ensures ∙ c.if-is_hand_start.false)) c.in-None.is
