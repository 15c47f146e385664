use Rattle.std.proofs.Common.{sym, ◌∙◌, arith, true≢false}
use Rattle.mj_judge.proofs.ready.some_kind_does.Goals as goal

pub returns-then-leaves_ready : goal.returns-then-leaves_ready
returns-then-leaves_ready c = record {
  no = λ none. absurd (true≢false none);
  yes = λ some. (c.at-kind.result, (omega (arith, c.loop-number-test.true, c.at-kind.ensures), sym c.leaves_ready.ensures ∙ c.if-leaves_ready.true));
}

pub returns : goal.returns
returns c = record {
  no = λ none kind low. c.loop-number.invariant kind (omega (arith, low, c.loop-number-test.false));
  yes = λ some. absurd (true≢false (sym some));
}
