use Rattle.std.proofs.Common.{arith, ◌∙◌, sym, true, false}
use Rattle.std.specs.List.{list_any}
use Rattle.std.proofs.lemmas.Option.{slice_get_within}
use Rattle.mj_readings.specs.AllReadings.{readings_of}
use Rattle.mj_yaku.specs.SomeYaku.{gives_yaku}
use Rattle.mj_yaku.proofs.SomeReading.{passed_over, found_at, none_left, any_reading}
use Rattle.mj_yaku.proofs.some_yaku.has_yaku.Goals as goal

pub returns-then-is_worth_something-clause-value : goal.returns-then-is_worth_something-clause-value
returns-then-is_worth_something-clause-value c =
    found_at (gives_yaku c.args.melds.now c.args.case.now) (readings_of c.args.counts.now c.args.melds.now c.args.win) c.loop-reading.index c.in-Some.reading
    (list_any (gives_yaku c.args.melds.now c.args.case.now) (readings_of c.args.counts.now c.args.melds.now c.args.win))
    c.loop-reading.invariant.left (sym c.reading_at.ensures.at ∙ c.in-Some.is) (sym c.is_worth_something.ensures ∙ c.if-is_worth_something.true)

pub returns-then-is_worth_something-clause-law : goal.returns-then-is_worth_something-clause-law
returns-then-is_worth_something-clause-law c =
    any_reading c.args.counts.now c.args.melds.now c.args.win c.args.case.now (readings_of c.args.counts.now c.args.melds.now c.args.win) true c.reading_at.ensures.law
    (found_at (gives_yaku c.args.melds.now c.args.case.now) (readings_of c.args.counts.now c.args.melds.now c.args.win) c.loop-reading.index c.in-Some.reading
    (list_any (gives_yaku c.args.melds.now c.args.case.now) (readings_of c.args.counts.now c.args.melds.now c.args.win))
    c.loop-reading.invariant.left (sym c.reading_at.ensures.at ∙ c.in-Some.is) (sym c.is_worth_something.ensures ∙ c.if-is_worth_something.true))

pub overflow_add-index : goal.overflow_add-index
overflow_add-index c =
    omega (
      arith,
      c.reading_at.ensures.few,
      slice_get_within (readings_of c.args.counts.now c.args.melds.now c.args.win) c.loop-reading.index c.in-Some.reading (sym c.reading_at.ensures.at ∙ c.in-Some.is),
    )

pub loop-reading-smaller : goal.loop-reading-smaller
loop-reading-smaller c =
    omega (arith, slice_get_within (readings_of c.args.counts.now c.args.melds.now c.args.win) c.loop-reading.index c.in-Some.reading (sym c.reading_at.ensures.at ∙ c.in-Some.is))

pub loop-reading-preserved : goal.loop-reading-preserved
loop-reading-preserved c = record {
  left = passed_over (gives_yaku c.args.melds.now c.args.case.now) (readings_of c.args.counts.now c.args.melds.now c.args.win) c.loop-reading.index c.in-Some.reading
      (list_any (gives_yaku c.args.melds.now c.args.case.now) (readings_of c.args.counts.now c.args.melds.now c.args.win))
      c.loop-reading.invariant.left (sym c.reading_at.ensures.at ∙ c.in-Some.is) (sym c.is_worth_something.ensures ∙ c.if-is_worth_something.false);
}

pub returns-clause-value : goal.returns-clause-value
returns-clause-value c =
    none_left (gives_yaku c.args.melds.now c.args.case.now) (readings_of c.args.counts.now c.args.melds.now c.args.win) c.loop-reading.index
    (list_any (gives_yaku c.args.melds.now c.args.case.now) (readings_of c.args.counts.now c.args.melds.now c.args.win))
    c.loop-reading.invariant.left (sym c.reading_at.ensures.at ∙ c.in_default.is)

pub returns-clause-law : goal.returns-clause-law
returns-clause-law c =
    any_reading c.args.counts.now c.args.melds.now c.args.win c.args.case.now (readings_of c.args.counts.now c.args.melds.now c.args.win) false c.reading_at.ensures.law
    (none_left (gives_yaku c.args.melds.now c.args.case.now) (readings_of c.args.counts.now c.args.melds.now c.args.win) c.loop-reading.index
    (list_any (gives_yaku c.args.melds.now c.args.case.now) (readings_of c.args.counts.now c.args.melds.now c.args.win))
    c.loop-reading.invariant.left (sym c.reading_at.ensures.at ∙ c.in_default.is))
