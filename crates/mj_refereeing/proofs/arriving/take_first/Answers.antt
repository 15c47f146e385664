use Rattle.std.proofs.lemmas.Result.{IfOk-weaker}
use Rattle.mj_core.proofs.Games.{heard-form}
use Rattle.mj_refereeing.specs.Inner.Forms.{pass_text}
use Rattle.mj_refereeing.proofs.PassLaws.{does-pass}
use Rattle.mj_refereeing.proofs.arriving.take_first.Goals as goal

pub say-requires-clause-form : goal.say-requires-clause-form
say-requires-clause-form c = heard-form pass_text c.args.pass.now c.requires.pass

pub returns-in-Pass-clause-does : goal.returns-in-Pass-clause-does
returns-in-Pass-clause-does c = IfOk-weaker c.say.result _ _
    (λ step does. does-pass step _ _ _ c.args.first _ _ _ _ _ c.in-Pass.is c.requires.seat c.from.ensures c.requires.pass does) c.say.ensures.does
