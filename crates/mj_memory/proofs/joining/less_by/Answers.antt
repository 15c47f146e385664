use Rattle.std.proofs.Common.{◌-◌, ◌∙◌, ap}
use Rattle.mj_suits.specs.Rows.{lane}
use Rattle.mj_memory.proofs.joining.less_by.Goals as goal

pub returns : goal.returns
returns c = record { at = λ s p few one. c.less.ensures.at s p few one ∙ ap (λ n. lane c.args.row.lanes s p - n) (c.all.ensures.at s p few one) }
