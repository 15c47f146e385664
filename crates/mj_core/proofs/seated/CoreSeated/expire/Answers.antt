use Rattle.mj_core.proofs.ByEntries.{expire-setting, expire-enters}
use Rattle.mj_core.proofs.seated.CoreSeated.expire.Goals as goal

pub returns-clause-setting : goal.returns-clause-setting
returns-clause-setting c = expire-setting c.expire.result _ _ _ _ _ _ c.expire.ensures

pub returns-clause-entries : goal.returns-clause-entries
returns-clause-entries c = expire-enters c.expire.result _ _ _ _ _ _ c.expire.ensures
