use Rattle.std.proofs.Common.{◌&&◌, map, sym, ap, ◌∙◌}
use Rattle.std.specs.List.{list_all}
use Rattle.mj_tiles.specs.Counts.{all_kinds}
use Rattle.mj_readings.specs.Sets.{set_of_meld}
use Rattle.mj_judge.specs.Measured.{is_kind_within, is_measured}
use Rattle.mj_judge.proofs.Measured.{all_sets}
use Rattle.mj_judge.proofs.measure.is_measured.Goals as goal

pub returns-then-not-are_sets : goal.returns-then-not-are_sets
unfolding is_measured
returns-then-not-are_sets c =
    sym (ap (λ b. b && list_all (is_kind_within c.args.counts.now c.args.room.now (map set_of_meld c.args.melds.now)) all_kinds)
    (all_sets c.args.melds.now ∙ sym c.are_sets.ensures ∙ c.if-not-are_sets.true))

pub returns : goal.returns
unfolding is_measured
returns c =
    c.all_within.ensures
    ∙ sym (ap (λ b. b && list_all (is_kind_within c.args.counts.now c.args.room.now (map set_of_meld c.args.melds.now)) all_kinds)
    (all_sets c.args.melds.now ∙ sym c.are_sets.ensures ∙ c.if-not-are_sets.false))
