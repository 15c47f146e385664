use Rattle.std.proofs.Common.{ℕ, List, ap, ◌∙◌}
use Rattle.std.specs.Prelude.{slice_get}
use Rattle.mj_deeds.specs.declared.four.Four.{Four}
use Rattle.mj_deeds.specs.Four.{at_seat}
use Rattle.mj_core.proofs.KeptLines.{lines_of_seat}
use Rattle.mj_core.proofs.streamed.Streamed.line.Goals as goal

pub returns : goal.returns
returns c =
    rw (← c.self.view_is)
    (c.line.ensures
    ∙ ap (λ (lines : Four (List (List ℕ))). slice_get (at_seat lines c.args.seat) c.args.k) c.self.invariant.lines
    ∙ ap (λ (lines : List (List ℕ)). slice_get lines c.args.k) (lines_of_seat c.self.inside.table.value.rules c.self.inside.table.value.deeds c.args.seat c.requires))
