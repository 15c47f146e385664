use Rattle.std.proofs.Common.{◌∙◌, arith}
use Rattle.mj_shanten.proofs.Whole.{front_two, new_wide, same_tiles_of}
use Rattle.mj_shanten.proofs.nearest_sets.WideHand.new.Goals as goal

pub of-requires : goal.of-requires
of-requires c = new_wide _ _ _ _ (omega arith)
    (omega arith) c.with_room_for_two.ensures.value c.with_room_for_two-2.ensures.value c.with_room_for_two.ensures.size c.with_room_for_two-2.ensures.size c.with_room_for_two-2.ensures.few c.requires

pub returns : goal.returns
returns c = c.of.ensures ∙ same_tiles_of _ _ _ _ (front_two _ _ c.with_room_for_two.ensures.value c.with_room_for_two.ensures.size).0
    (front_two _ _ c.with_room_for_two-2.ensures.value c.with_room_for_two-2.ensures.size).0
