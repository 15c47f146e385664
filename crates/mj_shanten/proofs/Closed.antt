-- Hands without melds.
use Rattle.std.proofs.Common.{ℕ, ◌≡◌, List, [], get_or, sum, replicate, refl, ap, arith, ◌∙◌}
use Rattle.std.proofs.lemmas.List.{get_or-replicate}
use Rattle.mj_tiles.specs.Counts.{NoFifth}
use Rattle.mj_shanten.specs.Room.{IsRoom, IsHand, IsWithinRoom}

pub closed_room : (room : List ℕ) → room ≡ replicate 34 4 → IsRoom room 0
closed_room room is = record {
  sets = [];
  so_many = refl;
  formed = refl;
  left = λ kind low. (let a : get_or room kind 0 ≡ 4 = ap (λ r. get_or r kind 0) is ∙ get_or-replicate 34 kind 4 0 low in omega arith);
}

-- no kind stands more than four times
pub closed_within : (counts room : List ℕ) → NoFifth counts → room ≡ replicate 34 4 → IsWithinRoom counts room
closed_within counts room few is kind low = (let a : get_or room kind 0 ≡ 4 = ap (λ r. get_or r kind 0) is ∙ get_or-replicate 34 kind 4 0 low in let b = few kind in omega arith)

-- thirteen tiles, none of them more than four times
pub closed_hand : (counts room : List ℕ) (total : ℕ) → total ≡ sum counts → total ≡ 13 → NoFifth counts → room ≡ replicate 34 4 → IsHand counts room 0
closed_hand counts room total all thirteen few is = record {
  thirteen = omega arith;
  within = closed_within counts room few is;
  room_is = closed_room room is;
}
