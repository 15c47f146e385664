use Rattle.mj_forms.specs.Lines.{replay_line}
use Rattle.mj_bytes.proofs.AddLaws.{adds_more}
use Rattle.mj_umpire.proofs.control.push_replay.Goals as goal

pub returns : goal.returns
unfolding replay_line
returns c = adds_more _ _ _ _ _ (adds_more _ _ _ _ _ c.in_ok-push_all.ensures.ok (rw c.from.ensures at c.in_ok-push_number.ensures.ok)) c.in_ok-push_all-2.ensures.ok
