use Rattle.mj_core.proofs.ByEntries.{sit-setting, sit-enters}
use Rattle.mj_core.proofs.seated.CoreSeated.sit.Goals as goal

pub returns-clause-setting : goal.returns-clause-setting
returns-clause-setting c = sit-setting c.sit.result _ _ _ _ c.sit.ensures

pub returns-clause-entries : goal.returns-clause-entries
returns-clause-entries c = sit-enters c.sit.result _ _ _ c.args.line.now c.sit.ensures
