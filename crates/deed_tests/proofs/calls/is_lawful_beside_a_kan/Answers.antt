use Rattle.std.proofs.Common.{◌≡◌, ◌∷◌, [], ◌∙◌, ap, refl, replicate, set, sym}
use Rattle.mj_tiles.specs.Counts.{all_kinds, room_beside}
use Rattle.deed_tests.proofs.calls.is_lawful_beside_a_kan.Goals as goal

-- Beside four 1p there is room for none of that kind.
room_beside_a_kan : set (replicate 34 4) 9 0 ≡ room_beside (9 ∷ 9 ∷ 9 ∷ 9 ∷ [])
unfolding room_beside all_kinds
room_beside_a_kan = refl

pub riichi_kan-requires-clause-room : goal.riichi_kan-requires-clause-room
riichi_kan-requires-clause-room c =
    c.in_ok-room.ensures.1 ∙ room_beside_a_kan ∙ ap (λ tile. room_beside (tile ∷ tile ∷ tile ∷ tile ∷ [])) (sym c.at-tile.ensures)
