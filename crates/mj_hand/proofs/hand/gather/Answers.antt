use Rattle.std.specs.String.{string_bytes}
use Rattle.mj_hand.proofs.HandSteps.{first_text, gathers_turn}
use Rattle.mj_hand.proofs.hand.gather.Goals as goal

pub loop-word-preserved : goal.loop-word-preserved
loop-word-preserved c =
    let turn =
    gathers_turn _ _ _ c.as_bytes.result.now c.loop-word.gathered c.take_word.new.gathered c.in_ok-take_word.field-0 c.loop-word.word-index
    (first_text string_bytes c.args.words.now c.loop-word.word-index c.word-item.result c.as_bytes.result.now c.loop-word-test.true c.word-item.is c.as_bytes.ensures.value)
    c.loop-word.invariant.gathers c.loop-word.invariant.few c.in_ok-take_word.ensures c.if-not-branch.false in
    record { gathers = turn.gathers; few = turn.few }
