use Rattle.std.proofs.lemmas.Result.{IfOk-weaker}
use Rattle.mj_replay.proofs.FollowLaws.{is_line, no_deed}
use Rattle.mj_replay.proofs.following.is_line.Goals as goal

pub returns-in-Some : goal.returns-in-Some
returns-in-Some c = IfOk-weaker c.is_line_of.result _ _ (λ same s. is_line _ _ same (rw c.in-Some.is at c.in_ok-deed.ensures) s) c.is_line_of.ensures

pub returns-in-None : goal.returns-in-None
returns-in-None c = no_deed _ (rw c.in-None.is at c.in_ok-deed.ensures)
