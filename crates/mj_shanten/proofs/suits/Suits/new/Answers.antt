use Rattle.std.proofs.Common.{◌∙◌, arith}
use Rattle.mj_shanten.proofs.Whole.{front_two, new_wide, same_tiles_of}
use Rattle.mj_shanten.proofs.suits.Suits.new.Goals as goal

pub from_characters-requires-clause-wide : goal.from_characters-requires-clause-wide
from_characters-requires-clause-wide c =
    new_wide _ _ _ _ (omega arith)
    (omega arith) c.with_room_for_two-held.ensures.value c.with_room_for_two-room.ensures.value c.with_room_for_two-held.ensures.size c.with_room_for_two-room.ensures.size
    c.with_room_for_two-room.ensures.few c.requires

pub returns : goal.returns
returns c = c.from_characters.ensures
    ∙ same_tiles_of _ _ _ _ (front_two _ _ c.with_room_for_two-held.ensures.value c.with_room_for_two-held.ensures.size).0
    (front_two _ _ c.with_room_for_two-room.ensures.value c.with_room_for_two-room.ensures.size).0
