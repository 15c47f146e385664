use Rattle.std.proofs.Common.{arith, ap, nat_eq, ◌+◌, ◌*◌}
use Rattle.mj_readings.proofs.SumLaws.{sums_say_no, total_says_no}
use Rattle.mj_readings.proofs.sums.may_be_sets.Goals as goal

pub returns-then-over-gt0 : goal.returns-then-over-gt0
returns-then-over-gt0 c = λ e. sums_say_no c.args.numbers.now c.args.sets c.of-over.result.singles c.requires.size c.of-over.ensures.all (omega (arith, c.if-over-gt0.true))

pub returns : goal.returns
returns c = λ off.
    total_says_no c.args.numbers.now c.args.sets c.of-over.result.tiles (nat_eq c.of-over.result.tiles (3 * c.from.result + 2)) c.requires.size
    c.of-over.ensures.tiles (ap (λ n. nat_eq c.of-over.result.tiles (3 * n + 2)) c.from.ensures) off
