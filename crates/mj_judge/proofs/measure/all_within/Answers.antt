use Rattle.std.proofs.Common.{arith, map, sym, ◌∙◌}
use Rattle.mj_tiles.proofs.EachKind.{all_kinds-pass, all_kinds-fail}
use Rattle.mj_readings.specs.Sets.{set_of_meld}
use Rattle.mj_judge.specs.Measured.{is_kind_within}
use Rattle.mj_judge.proofs.measure.all_within.Goals as goal

pub returns-then-not-is_kind_within : goal.returns-then-not-is_kind_within
returns-then-not-is_kind_within c =
    sym (all_kinds-fail (is_kind_within c.args.counts.now c.args.room.now (map set_of_meld c.args.melds.now)) c.at.result
    (omega (arith, c.loop-number-test.true, c.at.ensures)) (sym c.is_kind_within.ensures ∙ c.if-not-is_kind_within.true))

pub returns : goal.returns
returns c =
    sym (all_kinds-pass (is_kind_within c.args.counts.now c.args.room.now (map set_of_meld c.args.melds.now)) (λ k low. c.loop-number.invariant k (omega (arith, low, c.loop-number-test.false))))
