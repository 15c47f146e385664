use Rattle.std.proofs.Common.{◌+◌, ◌-◌, length, refl}
use Rattle.mj_replay.proofs.CheckLaws.{whole_first, act_begins, act_line}
use Rattle.mj_replay.proofs.checking.next_line.Goals as goal

pub returns-in-Some-clause-cases : goal.returns-in-Some-clause-cases
returns-in-Some-clause-cases c = act_begins _ _ c.in-Some.act (length c.args.text.now - length c.in-Some.rest.now) c.in-Some.ensures refl

pub returns-in-Some-clause-act : goal.returns-in-Some-clause-act
returns-in-Some-clause-act c = act_line _ _ c.in-Some.act (length c.args.text.now - length c.in-Some.rest.now) c.in-Some.ensures refl

pub returns-clause-cases : goal.returns-clause-cases
returns-clause-cases c = whole_first _ _ _ (length c.in_ok-front.front.now + 1) c.in_ok-front.ensures refl
