use Rattle.std.proofs.Common.{arith, ◌∙◌, sym}
use Rattle.std.proofs.lemmas.Option.{slice_get_within}
use Rattle.mj_readings.specs.AllReadings.{readings_of}
use Rattle.mj_calls.specs.RiichiKans.{has_own_triplet}
use Rattle.mj_calls.proofs.RiichiKanSteps.{passed_over, failed_at, all_passed}
use Rattle.mj_calls.proofs.riichi_kans.is_read_as_triplet.Goals as goal

pub returns-then-not-has_own_triplet : goal.returns-then-not-has_own_triplet
returns-then-not-has_own_triplet c =
    failed_at (has_own_triplet c.args.kind) (readings_of c.args.counts.now c.args.melds.now c.args.winning) c.loop-reading.index c.in-Some.reading _
    c.loop-reading.invariant.left (sym c.reading_at.ensures.at ∙ c.in-Some.is) (sym c.has_own_triplet.ensures ∙ c.if-not-has_own_triplet.true)

pub overflow_add-index : goal.overflow_add-index
overflow_add-index c =
    omega (
      arith,
      c.reading_at.ensures.few,
      slice_get_within (readings_of c.args.counts.now c.args.melds.now c.args.winning) c.loop-reading.index c.in-Some.reading (sym c.reading_at.ensures.at ∙ c.in-Some.is),
    )

pub loop-reading-smaller : goal.loop-reading-smaller
loop-reading-smaller c =
    omega (arith, slice_get_within (readings_of c.args.counts.now c.args.melds.now c.args.winning) c.loop-reading.index c.in-Some.reading (sym c.reading_at.ensures.at ∙ c.in-Some.is))

pub loop-reading-preserved : goal.loop-reading-preserved
loop-reading-preserved c = record {
  left = passed_over (has_own_triplet c.args.kind) (readings_of c.args.counts.now c.args.melds.now c.args.winning) c.loop-reading.index c.in-Some.reading _
      c.loop-reading.invariant.left (sym c.reading_at.ensures.at ∙ c.in-Some.is) (sym c.has_own_triplet.ensures ∙ c.if-not-has_own_triplet.false);
}

pub returns : goal.returns
returns c =
    all_passed (has_own_triplet c.args.kind) (readings_of c.args.counts.now c.args.melds.now c.args.winning) c.loop-reading.index _
    c.loop-reading.invariant.left (sym c.reading_at.ensures.at ∙ c.in_default.is)
