use Rattle.mj_tiles.specs.Counts.{IsCounts}
use Rattle.mj_readings.proofs.Laws.{complete_one_more}
use Rattle.mj_readings.proofs.complete.is_complete_with.Goals as goal

pub returns : goal.returns
returns c =
    let counts : IsCounts c.args.counts.now = record { size = c.numbers.ensures.size; within = c.numbers.ensures.within } in
    let both = complete_one_more c.args.counts.now c.numbers.result.now c.args.kind c.number.result c.args.melds c.completes_hand.result
    counts c.numbers.ensures.value c.number.ensures.value c.requires c.completes_hand.ensures in
    record { value = both.0; law = both.1 }
