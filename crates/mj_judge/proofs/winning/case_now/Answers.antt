use Rattle.std.proofs.Common.{◌∙◌}
use Rattle.mj_judge.proofs.Wins.{case_now}
use Rattle.mj_judge.proofs.winning.case_now.Goals as goal

pub returns : goal.returns
returns c = c.case_of.ensures ∙ case_now c.args.table.now.deeds c.args.seat c.requires.wins
