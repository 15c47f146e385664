use Rattle.mj_records.proofs.SettingLaws.{behind-is}
use Rattle.mj_records.proofs.usual.after.Goals as goal

pub returns : goal.returns
returns c = behind-is _ _ _ c.in_ok-rest.ensures
