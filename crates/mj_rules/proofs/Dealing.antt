-- What is dealt to a seat.
use Rattle.std.proofs.Common.{◌≡◌, ℕ, ◌+◌, ◌-◌, ◌*◌, ◌%◌, ◌<◌, Bool, true, List, length, drop, arith, ◌∙◌}
use Rattle.std.proofs.lemmas.List.{length-drop, length-take-le}
use Rattle.std.proofs.lemmas.List.Elements.{All-take, All-drop}
use Rattle.mj_wall.specs.Places.{is_wall, dealt_tiles}
use Rattle.mj_wall.proofs.WallFaces.{wall_has_136, wall_faces}
use Rattle.mj_rules.specs.Outcome.{hand_dealt}
use Rattle.mj_wall.proofs.TileOrder.{length-in_tile_order}

-- Thirteen tiles lie at each of the four places of the dealing.
dealt_has_thirteen : (wall : List ℕ) (k : ℕ) → length wall ≡ 136 → k < 4 → length (dealt_tiles wall k) ≡ 13
dealt_has_thirteen wall k whole h =
    let left = length-drop (13 * k) wall in
    length-take-le 13 (drop (13 * k) wall) (omega arith)

-- Each seat is dealt thirteen tiles.
pub hand_has_thirteen : (red : Bool) (wall : List ℕ) (dealer seat : ℕ) → is_wall red wall ≡ true → length (hand_dealt wall dealer seat) ≡ 13
hand_has_thirteen red wall dealer seat h =
    let k = (seat + 4 - dealer) % 4 in
    let below : (seat + 4 - dealer) % 4 < 4 = omega arith in
    let faces = All-take (λ t. t < 37) 13 (drop (13 * k) wall) (All-drop (λ t. t < 37) (13 * k) wall (wall_faces red wall h)) in
    length-in_tile_order (dealt_tiles wall k) faces ∙ dealt_has_thirteen wall k (wall_has_136 red wall h) below
