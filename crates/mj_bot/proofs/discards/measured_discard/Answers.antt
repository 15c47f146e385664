use Rattle.std.proofs.Common.{map, length, refl, sym, ap, subst, ◌∙◌}
use Rattle.std.proofs.lemmas.Bool.{ltb-true}
use Rattle.mj_tiles.proofs.CountSteps.{length-kind_counts}
use Rattle.mj_readings.specs.Sets.{set_of_meld}
use Rattle.mj_shanten.specs.Room.{IsRoom}
use Rattle.mj_shanten.specs.Walked.{Tiles}
use Rattle.mj_shanten.proofs.Goal.{counts_from}
use Rattle.mj_rules.specs.View.{view_of, concealed}
use Rattle.mj_judge.specs.Measured.{is_measured}
use Rattle.mj_judge.proofs.Measured.{room_of, within_of}
use Rattle.mj_bot.proofs.Unready.{never_ready}
use Rattle.mj_bot.proofs.Incomplete.{turn_short}
use Rattle.mj_bot.proofs.discards.measured_discard.Goals as goal

pub new-suits-requires : goal.new-suits-requires
new-suits-requires c = within_of c.args.counts.now c.args.left.now c.args.melds.now _ refl c.requires.measured

pub missing-missing-requires-clause-room : goal.missing-missing-requires-clause-room
missing-missing-requires-clause-room c =
    subst (λ (t : Tiles). IsRoom t.room (length c.args.melds.now)) (sym c.new-suits.ensures)
    (room_of c.args.counts.now c.args.left.now c.args.melds.now (length c.args.melds.now) _ refl c.requires.measured refl)

pub nearest_discard-requires-clause-hand : goal.nearest_discard-requires-clause-hand
nearest_discard-requires-clause-hand c = record {
  counts_are = ap (λ (t : Tiles). t.counts) c.new-suits.ensures ∙ c.requires.counts;
  left_is = ap (λ (t : Tiles). t.room) c.new-suits.ensures ∙ c.requires.left;
  melds_are = ap length c.requires.melds;
  few = c.requires.few;
  size = c.missing-missing.ensures.size;
  is_room = subst (λ (t : Tiles). IsRoom t.room (length c.args.melds.now)) (sym c.new-suits.ensures)
      (room_of c.args.counts.now c.args.left.now c.args.melds.now (length c.args.melds.now) _ refl c.requires.measured refl);
  least = c.missing-missing.ensures.least;
  measured = sym (λ i. is_measured (c.requires.counts i) (c.requires.left i) (map set_of_meld (c.requires.melds i))) ∙ c.requires.measured;
}

pub returns-clause-unready : goal.returns-clause-unready
returns-clause-unready c = λ so.
    never_ready (view_of c.args.table.now.deeds c.args.seat) c.args.counts.now c.args.left.now c.new-suits.result.counts c.new-suits.result.room (length c.args.melds.now) c.missing-missing.result
    c.requires.counts c.requires.left (ap length c.requires.melds) (ap (λ (t : Tiles). t.counts) c.new-suits.ensures) (ap (λ (t : Tiles). t.room) c.new-suits.ensures)
    (ap length c.requires.counts ∙ length-kind_counts (concealed (view_of c.args.table.now.deeds c.args.seat)))
    (room_of c.args.counts.now c.args.left.now c.args.melds.now (length c.args.melds.now) _ refl c.requires.measured refl)
    (within_of c.args.counts.now c.args.left.now c.args.melds.now _ refl c.requires.measured)
    c.missing-missing.ensures.least (ltb-true 1 c.missing-missing.result so)

pub returns-clause-incomplete : goal.returns-clause-incomplete
returns-clause-incomplete c = λ so.
    turn_short c.args.seat (view_of c.args.table.now.deeds c.args.seat) c.args.counts.now c.args.left.now c.new-suits.result.counts c.new-suits.result.room
    (length c.args.melds.now) c.missing-missing.result
    c.requires.turn c.requires.counts (ap length c.requires.melds) (ap (λ (t : Tiles). t.counts) c.new-suits.ensures) (ap (λ (t : Tiles). t.room) c.new-suits.ensures)
    (counts_from c.args.left.now c.args.counts.now (length c.args.melds.now)
    (room_of c.args.counts.now c.args.left.now c.args.melds.now (length c.args.melds.now) _ refl c.requires.measured refl)
    (ap length c.requires.counts ∙ length-kind_counts (concealed (view_of c.args.table.now.deeds c.args.seat)))
    (within_of c.args.counts.now c.args.left.now c.args.melds.now _ refl c.requires.measured))
    (within_of c.args.counts.now c.args.left.now c.args.melds.now _ refl c.requires.measured)
    c.missing-missing.ensures.least (ltb-true 0 c.missing-missing.result so)
