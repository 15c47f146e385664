use Rattle.std.proofs.Common.{List, ℕ, ◌<◌, get_or, ap, ◌∙◌, subst}
use Rattle.mj_tiles.specs.Counts.{kind_counts}
use Rattle.mj_tiles.proofs.CountSteps.{get_or-kind_counts}
use Rattle.mj_deeds.specs.Facts.{concealed_tiles}
use Rattle.mj_deeds.specs.Hand.{hand}
use Rattle.mj_safe.proofs.lines.number_held.Goals as goal

pub returns : goal.returns
returns c =
    ap (λ (xs : List ℕ). get_or xs c.from.result 0) (c.numbers.ensures.value ∙ c.holds-held.ensures.value)
    ∙ ap (λ n. get_or (kind_counts (concealed_tiles (hand c.args.table.now.deeds) c.args.seat)) n 0) (c.from.ensures ∙ c.number.ensures.value)
    ∙ get_or-kind_counts (concealed_tiles (hand c.args.table.now.deeds) c.args.seat) c.args.kind (subst (λ n. n < 34) c.number.ensures.value c.number.ensures.within)
