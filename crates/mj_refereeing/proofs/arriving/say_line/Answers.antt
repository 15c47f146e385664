use Rattle.std.proofs.lemmas.Result.{IfOk-weaker}
use Rattle.mj_core.proofs.Games.{heard-form}
use Rattle.mj_refereeing.proofs.arriving.say_line.Goals as goal

pub say-requires-clause-form : goal.say-requires-clause-form
say-requires-clause-form c = heard-form c.args.line.now c.in-Ok.answer c.in-Ok.ensures

pub returns-in-Ok-clause-does : goal.returns-in-Ok-clause-does
returns-in-Ok-clause-does c = IfOk-weaker c.say.result _ _ (λ step does. does c.args.line.now c.in-Ok.ensures) c.say.ensures.does
