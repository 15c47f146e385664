use Rattle.mj_core.proofs.ByEntries.{said-can, said-setting, said-enters}
use Rattle.mj_core.proofs.seated.CoreSeated.said.Goals as goal

pub said-requires : goal.said-requires
said-requires c = said-can c.args.self.now c.args.author c.args.seat c.requires.present c.requires.due

pub returns-clause-setting : goal.returns-clause-setting
returns-clause-setting c = said-setting c.said.result _ _ _ _ _ c.said.ensures

pub returns-clause-entries : goal.returns-clause-entries
returns-clause-entries c = said-enters c.said.result _ _ _ _ _ c.said.ensures
