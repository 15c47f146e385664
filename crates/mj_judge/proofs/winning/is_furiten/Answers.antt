use Rattle.std.proofs.Common.{ap, length, ◌∙◌}
use Rattle.mj_rules.specs.View.{view_of}
use Rattle.mj_judge.proofs.Missed.{facts_are, not_missing}
use Rattle.mj_judge.proofs.winning.is_furiten.Goals as goal

pub returns-then-not-misses_some : goal.returns-then-not-misses_some
unfolding view_of
returns-then-not-misses_some c =
    not_missing (view_of c.args.table.now.deeds c.args.seat) c.own-own.result c.passed-passed.result c.passed_in_riichi-passed_in_riichi.result c.args.held.now (length c.args.melds.now)
    c.own-own.ensures c.passed-passed.ensures c.passed_in_riichi-passed_in_riichi.ensures c.requires.held (ap length c.requires.melds)
    (c.misses_some.ensures.law c.if-not-misses_some.true)

pub returns : goal.returns
unfolding view_of
returns c =
    c.furiten.ensures
    ∙ facts_are (view_of c.args.table.now.deeds c.args.seat) c.waits.result c.own-own.result c.passed-passed.result
    c.passed_in_riichi-passed_in_riichi.result c.args.held.now c.room-room.result (length c.args.melds.now)
    c.waits.ensures.value c.own-own.ensures c.passed-passed.ensures c.passed_in_riichi-passed_in_riichi.ensures c.requires.held c.room-room.ensures (ap length c.requires.melds)
