use Rattle.mj_readings.proofs.ReadingLaws.{standard-none, standard-few, standard-ok, standard-past}
use Rattle.mj_readings.proofs.listing.standard_at.Goals as goal

pub returns-then-melds-gt4-clause-listed : goal.returns-then-melds-gt4-clause-listed
returns-then-melds-gt4-clause-listed c = standard-none c.args.counts.now c.args.melds.now c.args.win c.args.index c.if-melds-gt4.true

pub as_reading-requires : goal.as_reading-requires
as_reading-requires c =
    standard-few c.args.counts.now c.numbers-numbers.result.now c.args.melds.now c.none.result c.args.win c.args.index c.in-Ok.winning_way
    c.numbers-numbers.ensures.value c.numbers-numbers.ensures.size c.none.ensures c.if-melds-gt4.false c.in-Ok.ensures

pub returns-in-Ok-clause-listed : goal.returns-in-Ok-clause-listed
returns-in-Ok-clause-listed c =
    standard-ok c.args.counts.now c.numbers-numbers.result.now c.args.melds.now c.none.result c.args.win c.args.index c.in-Ok.winning_way c.as_reading.result
    c.numbers-numbers.ensures.value c.none.ensures c.if-melds-gt4.false c.in-Ok.ensures c.as_reading.ensures

pub returns-in-Err-clause-listed : goal.returns-in-Err-clause-listed
returns-in-Err-clause-listed c =
    standard-past c.args.counts.now c.numbers-numbers.result.now c.args.melds.now c.none.result c.args.win c.args.index c.in-Err.rest
    c.numbers-numbers.ensures.value c.none.ensures c.if-melds-gt4.false c.in-Err.ensures
