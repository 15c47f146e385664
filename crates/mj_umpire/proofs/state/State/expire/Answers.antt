use Rattle.std.proofs.lemmas.Result.{on_ok_weaker}
use Rattle.mj_umpire.proofs.Turns.{expired}
use Rattle.mj_umpire.proofs.state.State.expire.Goals as goal

pub returns-clause-ok : goal.returns-clause-ok
returns-clause-ok g c = on_ok_weaker c.advance.result (expired c.args.setting.now _ _ c.requires) c.advance.ensures.ok
