-- The verdict that an umpire gives on an answer, and what a seat is answered by it.
use Rattle.mj_ports.specs.declared.answers.Heard.{Heard}
use Rattle.mj_ports.specs.declared.answers.Heard.TheVariants as heard
use Rattle.mj_deeds.specs.declared.rule.Rule.{Rule}
use Rattle.mj_history.specs.After.{Verdict, Taken, Late, Refused, Closing}
use Rattle.mj_umpire.specs.declared.verdict.Verdict.{Verdict as Judged}
use Rattle.mj_umpire.specs.declared.verdict.Verdict.TheVariants as judged

-- The verdict that an umpire gives.
abbrev pub verdict_given : Judged → Verdict
verdict_given judged.Taken = Taken
verdict_given judged.Late = Late
verdict_given (judged.Refused rule) = Refused rule
verdict_given (judged.Closing rule) = Closing rule

-- What a seat is answered by its verdict.
abbrev pub heard_by : Judged → Heard Rule
heard_by judged.Taken = heard.Taken
heard_by judged.Late = heard.Late
heard_by (judged.Refused rule) = heard.Refused rule
heard_by (judged.Closing rule) = heard.Closing rule
