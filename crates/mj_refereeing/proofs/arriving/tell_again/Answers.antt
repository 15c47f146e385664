use Rattle.mj_refereeing.proofs.Returning.{told-line}
use Rattle.mj_refereeing.proofs.arriving.tell_again.Goals as goal

pub loop-k-preserved : goal.loop-k-preserved
loop-k-preserved c = told-line c.loop-k.k c.due-due.result c.args.core.now.seat c.args.core.now.game _ _ _ c.loop-k.invariant c.in_ok-push_line.ensures.ok
