use Rattle.std.proofs.Common.{ap, ◌∙◌}
use Rattle.mj_score.specs.Inner.BestAmong.{best_among}
use Rattle.mj_score.proofs.BestScore.{worth_law}
use Rattle.mj_score.proofs.winning.worth.Goals as goal

pub returns-clause-law : goal.returns-clause-law
returns-clause-law c =
    worth_law c.args.counts.now c.args.melds.now c.args.win c.args.case.now c.args.extra c.in_ok-found.found.items c.best_of.result c.in_ok-found.ensures.all
    (c.best_of.ensures ∙ ap (best_among c.args.melds.now c.args.case.now c.args.extra) c.as_slice.ensures.value)
