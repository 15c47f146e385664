use Rattle.mj_window.proofs.Passes.{passes_decide_nothing}
use Rattle.mj_window.proofs.decision.rons_or_call.Goals as goal

pub returns-then-are_passes : goal.returns-then-are_passes
returns-then-are_passes c = passes_decide_nothing c.args.answers.now c.args.seat (c.are_passes.ensures c.if-are_passes.true)
