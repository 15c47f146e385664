use Rattle.mj_core.proofs.ByEntries.{gone-here, gone-setting, gone-enters}
use Rattle.mj_core.proofs.seated.CoreSeated.gone.Goals as goal

pub gone-requires : goal.gone-requires
gone-requires c = gone-here c.args.self.now c.args.author c.args.seat c.requires.present

pub returns-clause-setting : goal.returns-clause-setting
returns-clause-setting c = gone-setting c.gone.result _ _ _ _ c.gone.ensures

pub returns-clause-entries : goal.returns-clause-entries
returns-clause-entries c = gone-enters c.gone.result _ _ _ _ c.gone.ensures
