use Rattle.std.proofs.Common.{rules}
use Rattle.mj_runs.proofs.Amounts.{one_more}
use Rattle.mj_runs.proofs.result.push_amounts.Goals as goal

pub loop-amount-preserved : goal.loop-amount-preserved
loop-amount-preserved c =
    one_more c.args.amounts.now _ c.loop-amount.amount-index _ _ _ c.loop-amount-test.true (search rules) c.loop-amount.invariant c.in_ok-push_amount.ensures
