use Rattle.std.proofs.Common.{◌≡◌, length, refl, sym, ap, subst, ◌∙◌, arith}
use Rattle.std.proofs.lemmas.Bool.{ltb-true, ltb-false}
use Rattle.mj_suits.specs.Tables.{IsLeast}
use Rattle.mj_shanten.specs.Room.{IsRoom}
use Rattle.mj_shanten.specs.Shanten.{IsGoal}
use Rattle.mj_shanten.specs.Walked.{Tiles}
use Rattle.mj_judge.proofs.Measured.{room_of, within_of}
use Rattle.mj_judge.proofs.TwoAway.{two_away, one_away}
use Rattle.mj_judge.proofs.ready.is_two_away.Goals as goal

pub new-requires : goal.new-requires
new-requires c = within_of c.args.counts.now c.args.room.now c.args.melds.now _ refl c.requires.measured

pub missing-requires-clause-room : goal.missing-requires-clause-room
missing-requires-clause-room c =
    subst (λ (t : Tiles). IsRoom t.room (length c.args.melds.now)) (sym c.new.ensures)
    (room_of c.args.counts.now c.args.room.now c.args.melds.now (length c.args.melds.now) _ refl c.requires.measured refl)

pub returns : goal.returns
returns c =
    let size : length c.args.counts.now ≡ 34 = ap (λ (t : Tiles). length t.counts) (sym c.new.ensures) ∙ c.missing.ensures.size in
    let is_room = room_of c.args.counts.now c.args.room.now c.args.melds.now (length c.args.melds.now) _ refl c.requires.measured refl in
    let within = within_of c.args.counts.now c.args.room.now c.args.melds.now _ refl c.requires.measured in
    let least : IsLeast c.args.counts.now (IsGoal c.args.room.now (length c.args.melds.now)) c.missing.result =
    subst (λ (t : Tiles). IsLeast t.counts (IsGoal t.room (length c.args.melds.now)) c.missing.result) c.new.ensures c.missing.ensures.least in
    record {
      far = λ so. two_away c.args.counts.now c.args.room.now (length c.args.melds.now) c.missing.result size is_room within least (ltb-true 1 c.missing.result so);
      near = λ so fourteen. one_away c.args.counts.now c.args.room.now (length c.args.melds.now) c.missing.result size is_room within least
          (ltb-false 1 c.missing.result so) fourteen (omega (arith, c.requires.few));
    }
