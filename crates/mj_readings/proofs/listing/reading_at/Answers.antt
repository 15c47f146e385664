use Rattle.mj_readings.proofs.FewReadings.{few_readings}
use Rattle.mj_readings.proofs.ReadingLaws.{list_law, pick-standard, pick-special, pick-none}
use Rattle.mj_readings.proofs.listing.reading_at.Goals as goal

pub returns-in-Ok : goal.returns-in-Ok
returns-in-Ok c = record {
  at = pick-standard c.args.counts.now c.args.melds.now c.args.win c.args.index c.in-Ok.reading c.in-Ok.ensures.listed;
  law = list_law c.args.counts.now c.args.melds.now c.args.win c.standard_at.ensures.counted;
  few = few_readings c.args.counts.now c.args.melds.now c.args.win c.standard_at.ensures.counted.size;
}

pub returns-in-Err : goal.returns-in-Err
returns-in-Err c = record {
  at = pick-special c.args.counts.now c.args.melds.now c.args.win c.args.index c.in-Err.rest c.is_empty.result c.special_at.result
      c.in-Err.ensures.listed c.is_empty.ensures c.if-is_empty.true c.special_at.ensures;
  law = list_law c.args.counts.now c.args.melds.now c.args.win c.standard_at.ensures.counted;
  few = few_readings c.args.counts.now c.args.melds.now c.args.win c.standard_at.ensures.counted.size;
}

pub returns-in-Err-2 : goal.returns-in-Err-2
returns-in-Err-2 c = record {
  at = pick-none c.args.counts.now c.args.melds.now c.args.win c.args.index c.in-Err-2.field-0 c.is_empty.result
      c.in-Err-2.ensures.listed c.is_empty.ensures c.if-is_empty.false;
  law = list_law c.args.counts.now c.args.melds.now c.args.win c.standard_at.ensures.counted;
  few = few_readings c.args.counts.now c.args.melds.now c.args.win c.standard_at.ensures.counted.size;
}
