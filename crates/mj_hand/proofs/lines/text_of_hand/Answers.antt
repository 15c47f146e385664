use Rattle.mj_hand.proofs.TextSteps.{lines_written}
use Rattle.mj_hand.proofs.lines.text_of_hand.Goals as goal

pub returns : goal.returns
returns c = record {
  number = c.shanten-nearest.result.number;
  target = c.shanten-nearest.result.target;
  waits = c.waits-kinds.result;
  is = c.shanten-nearest.ensures.nearest;
  waits_are = c.waits-kinds.ensures.law;
  text_is =
      lines_written _ _ _ _ _ _ _ c.new-text.ensures.items
      c.in_ok-push_shanten.ensures c.in_ok-push_target.ensures c.in_ok-push_waits.ensures;
}
