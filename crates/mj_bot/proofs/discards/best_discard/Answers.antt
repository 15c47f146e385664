use Rattle.std.proofs.Common.{◌≤◌, map, length, sym, ap, subst, ◌∙◌}
use Rattle.mj_readings.specs.Sets.{set_of_meld}
use Rattle.mj_rules.specs.View.{view_of}
use Rattle.mj_bot.proofs.Lawful.{none_lawful, unmeasured}
use Rattle.mj_bot.proofs.Locked.{locked_best}
use Rattle.mj_bot.proofs.discards.best_discard.Goals as goal

pub returns-then-not-has_turn-clause-tile : goal.returns-then-not-has_turn-clause-tile
returns-then-not-has_turn-clause-tile c = none_lawful c.args.table.now.rules c.args.seat (view_of c.args.table.now.deeds c.args.seat) (sym c.has_turn.ensures ∙ c.if-not-has_turn.true)

pub returns-then-not-is_measured-clause-tile : goal.returns-then-not-is_measured-clause-tile
unfolding view_of
returns-then-not-is_measured-clause-tile c =
    unmeasured c.args.table.now.rules c.args.seat (view_of c.args.table.now.deeds c.args.seat) c.holds-counts.result c.room-room.result
    (map set_of_meld c.as_slice-melds.result.now) c.is_measured.result c.last_lawful.result c.lawful_kinds-kinds.result
    c.holds-counts.ensures.value c.room-room.ensures (ap (map set_of_meld) (c.as_slice-melds.ensures.value ∙ c.melds-melds.ensures))
    c.is_measured.ensures c.if-not-is_measured.true c.lawful_kinds-kinds.ensures c.last_lawful.ensures

pub measured_discard-requires-clause-counts : goal.measured_discard-requires-clause-counts
unfolding view_of
measured_discard-requires-clause-counts c = c.holds-counts.ensures.value

pub measured_discard-requires-clause-left : goal.measured_discard-requires-clause-left
unfolding view_of
measured_discard-requires-clause-left c = c.room-room.ensures

pub measured_discard-requires-clause-melds : goal.measured_discard-requires-clause-melds
unfolding view_of
measured_discard-requires-clause-melds c = c.as_slice-melds.ensures.value ∙ c.melds-melds.ensures

pub returns-in-Some-clause-tile : goal.returns-in-Some-clause-tile
unfolding view_of
returns-in-Some-clause-tile c =
    locked_best c.args.table.now.rules c.args.seat c.in-Some.tile (view_of c.args.table.now.deeds c.args.seat)
    (subst (λ n. n ≤ 4) (ap length (c.as_slice-melds.ensures.value ∙ c.melds-melds.ensures)) c.as_slice-melds.ensures.within) (c.locked_discard.ensures c.in-Some.tile c.in-Some.is)
