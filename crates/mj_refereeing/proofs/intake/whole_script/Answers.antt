use Rattle.mj_refereeing.proofs.AskLaws.{script_is}
use Rattle.mj_refereeing.proofs.intake.whole_script.Goals as goal

pub returns : goal.returns
returns c = script_is c.args.core.now.seat c.args.core.now.game c.args.told.items _ c.requires c.in_ok-pending.ensures.ok
