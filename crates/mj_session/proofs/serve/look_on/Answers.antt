use Rattle.std.proofs.Common.{◌∙◌}
use Rattle.mj_session.proofs.Talking.{due_look, due_free}
use Rattle.mj_session.proofs.serve.look_on.Goals as goal

pub returns-in-Free : goal.returns-in-Free
returns-in-Free g c =
    let number = c.in_turn.ensures.idle.1 in
    let left = c.leave_if_ended.ensures in
    let going = rw number at left.going in
    let goes = rw number at left.goes in
    record {
      idle = (left.idle.0, left.idle.1 ∙ number);
      going = going;
      goes = λ start x o. goes start x (due_free _ _ _ start x _ _ _ o _ _ _ c.in_turn.ensures.takes c.in_turn.ensures.leaves _ c.in-Free.is);
    }

pub returns-in_default : goal.returns-in_default
returns-in_default g c =
    let number = c.in_turn.ensures.idle.1 in
    let going = rw number at c.send.ensures.going in
    let goes = rw number at c.send.ensures.goes in
    record {
      idle = (c.send.ensures.idle.0, c.send.ensures.idle.1 ∙ number);
      going = going;
      goes = λ start x o. goes start x (due_look _ _ _ start x _ _ _ _ _ _ o c.in_turn.ensures.takes c.in_turn.ensures.leaves);
    }
