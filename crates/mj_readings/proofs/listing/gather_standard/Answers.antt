use Rattle.std.proofs.Common.{arith}
use Rattle.std.proofs.lemmas.Result.{on_ok_weaker}
use Rattle.mj_readings.proofs.ReadingLaws.{adds-no-standard, adds-standard}
use Rattle.mj_readings.proofs.listing.gather_standard.Goals as goal

pub returns-then-melds-gt4-clause-value : goal.returns-then-melds-gt4-clause-value
returns-then-melds-gt4-clause-value c = adds-no-standard _ c.args.counts.now c.args.melds.now c.args.win c.if-melds-gt4.true

pub returns-clause-value : goal.returns-clause-value
returns-clause-value c =
    on_ok_weaker c.gather.result
    (adds-standard c.args.found.now.items c.gather.new.found.items c.args.counts.now c.numbers-numbers.result.now c.args.melds.now c.none.result c.args.win _ c.first_spot-spot.result
    c.numbers-numbers.ensures.value c.none.ensures c.if-melds-gt4.false (omega arith) c.first_spot-spot.ensures) c.gather.ensures
