use Rattle.mj_records.proofs.SettingLaws.{header_says}
use Rattle.mj_records.proofs.setting.header_of.Goals as goal

pub returns : goal.returns
returns c = header_says _ _ _ c.in_ok-text.ensures c.read_rules.ensures.rules
