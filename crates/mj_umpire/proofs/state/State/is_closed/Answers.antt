use Rattle.std.proofs.Common.{◌&&◌, Bool, ap, sym, ◌∙◌}
use Rattle.std.specs.Prelude.{is_some}
use Rattle.std.proofs.Math.Bool.{and-false}
use Rattle.mj_umpire.specs.Calls.{open_window}
use Rattle.mj_umpire.proofs.Pieces.{waits-for-last}
use Rattle.mj_umpire.proofs.state.State.is_closed.Goals as goal

pub returns-then-waits_for_last : goal.returns-then-waits_for_last
returns-then-waits_for_last g c =
    sym (ap (λ (b : Bool). is_some (open_window c.args.self.now.deeds) && b)
    (waits-for-last c.args.self.now.slots c.args.desk.now (sym c.waits_for_last.ensures ∙ c.if-waits_for_last.true))
    ∙ and-false (is_some (open_window c.args.self.now.deeds)))
