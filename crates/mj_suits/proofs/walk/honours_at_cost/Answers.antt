use Rattle.mj_suits.proofs.Nine.{honours_step}
use Rattle.std.proofs.Common.{◌∙◌, ◌-◌, ap, max}
use Rattle.mj_suits.specs.Rows.{lane}
use Rattle.mj_suits.proofs.walk.honours_at_cost.Goals as goal

pub returns : goal.returns
returns c after rooms counts held room are holds =
    honours_step c.args.next.lanes c.less-triplet.result.lanes c.less-pair.result.lanes _ after _ _ rooms counts c.args.costs.now are holds
    (λ s p few one. c.less-triplet.ensures.at s p few one ∙ ap (λ k. k - lane c.args.costs.now.three.lanes s p) (c.more_set.ensures.at s p few one))
    (λ s p few one. c.less-pair.ensures.at s p few one ∙ ap (λ k. k - lane c.args.costs.now.two.lanes s p) (c.more_pair.ensures.at s p few one))
    (λ s p few one. c.greater-2.ensures.at s p few one ∙ ap (max (lane c.args.next.lanes s p)) (c.greater.ensures.at s p few one))
