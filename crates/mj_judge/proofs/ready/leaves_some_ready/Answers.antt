use Rattle.std.proofs.Common.{length, sym, ◌∙◌, true≢false}
use Rattle.std.proofs.lemmas.Bool.{eqb-true}
use Rattle.mj_judge.proofs.FarHands.{far_unready}
use Rattle.mj_judge.proofs.ready.leaves_some_ready.Goals as goal

pub returns-then-is_far : goal.returns-then-is_far
returns-then-is_far c = record {
  no = λ none kind low. far_unready c.args.counts.now c.args.room.now (length c.args.melds.now) kind (c.is_far.ensures c.if-is_far.true) low;
  yes = λ some. absurd (true≢false (sym some));
}

pub returns-then-is_scattered : goal.returns-then-is_scattered
returns-then-is_scattered c = record {
  no = λ none kind low. far_unready c.args.counts.now c.args.room.now (length c.args.melds.now) kind
      (λ given exchanged inside is other within. c.is_scattered.ensures c.if-is_scattered.true given exchanged inside is other within (length c.args.melds.now)) low;
  yes = λ some. absurd (true≢false (sym some));
}

pub returns-then-is_two_away : goal.returns-then-is_two_away
returns-then-is_two_away c = record {
  no = λ none. c.is_two_away.ensures.far c.if-is_two_away.true;
  yes = λ some. absurd (true≢false (sym some));
}

pub returns-then-has_fourteen : goal.returns-then-has_fourteen
returns-then-has_fourteen c = record {
  no = λ none. absurd (true≢false none);
  yes = λ some. c.is_two_away.ensures.near c.if-is_two_away.false (eqb-true _ _ (sym c.has_fourteen.ensures ∙ c.if-has_fourteen.true));
}
