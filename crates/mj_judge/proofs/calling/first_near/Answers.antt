use Rattle.std.proofs.Common.{◌<◌, ◌-◌, subst, ap, ◌∙◌}
use Rattle.mj_judge.proofs.Near.{far_before}
use Rattle.mj_judge.proofs.calling.first_near.Goals as goal

pub returns-clause-far : goal.returns-clause-far
returns-clause-far c = λ place before.
    far_before c.args.tile c.saturating_sub.result place (c.saturating_sub.ensures ∙ ap (λ n. n - 2) (c.from.ensures ∙ c.number.ensures.value ∙ c.kind.ensures))
    (subst (λ n. n < 34) (c.number.ensures.value ∙ c.kind.ensures) c.number.ensures.within) before
