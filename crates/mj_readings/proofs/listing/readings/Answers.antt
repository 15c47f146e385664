use Rattle.std.proofs.Common.{sym, subst, List}
use Rattle.mj_readings.specs.declared.reading.Reading.{Reading}
use Rattle.mj_readings.specs.Readings.{AreReadings}
use Rattle.mj_readings.proofs.ReadingLaws.{adds-all, list_law}
use Rattle.mj_readings.proofs.listing.readings.Goals as goal

pub returns-clause-all : goal.returns-clause-all
returns-clause-all c =
    subst (λ (items : List Reading). AreReadings c.args.counts.now c.args.melds.now c.args.win items)
    (sym (adds-all c.args.counts.now c.args.melds.now c.args.win c.new-found.result.items c.gather_standard.new.found.items c.gather_special.new.found.items
    c.new-found.ensures.items c.in_ok-gather_standard.ensures.value c.in_ok-gather_special.ensures))
    (list_law c.args.counts.now c.args.melds.now c.args.win c.gather_standard.ensures.counted)

pub returns-clause-listed : goal.returns-clause-listed
returns-clause-listed c =
    adds-all c.args.counts.now c.args.melds.now c.args.win c.new-found.result.items c.gather_standard.new.found.items c.gather_special.new.found.items
    c.new-found.ensures.items c.in_ok-gather_standard.ensures.value c.in_ok-gather_special.ensures
