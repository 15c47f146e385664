use Rattle.std.proofs.Common.{◌≤◌, sym, subst}
use Rattle.mj_score.specs.declared.score.Score.{Score}
use Rattle.mj_rules.proofs.Purses.{worth_few}
use Rattle.mj_machine.proofs.worth.worth_of_win.Goals as goal

pub returns-clause-base : goal.returns-clause-base
returns-clause-base c = subst (λ (s : Score). s.base ≤ 8000) (sym c.in_ok-score.ensures) (worth_few _ _ _ _ _)
