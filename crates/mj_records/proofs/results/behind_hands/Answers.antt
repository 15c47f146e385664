use Rattle.std.proofs.Common.{sym}
use Rattle.mj_records.proofs.StepLaws.{drawn_steps}
use Rattle.mj_records.proofs.results.behind_hands.Goals as goal

pub returns : goal.returns
returns c = λ reason hands.
    sym (drawn_steps reason hands _ _ _ _ _ _ _ _ _ _ _ _ _ c.in_ok-first.ensures c.in_ok-second.ensures c.in_ok-third.ensures c.in_ok-fourth.ensures c.in_ok-deltas.ensures c.in_ok-points.ensures)
