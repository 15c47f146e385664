use Rattle.std.proofs.Common.{◌≡◌, [], ◌∙◌, refl, replicate}
use Rattle.mj_tiles.specs.Counts.{all_kinds, room_beside}
use Rattle.deed_tests.proofs.calls.is_lawful_alone.Goals as goal

-- Beside nothing there is room for four of each kind.
room_beside_nothing : replicate 34 4 ≡ room_beside []
unfolding room_beside all_kinds
room_beside_nothing = refl

pub riichi_kan-requires-clause-room : goal.riichi_kan-requires-clause-room
riichi_kan-requires-clause-room c = c.in_ok-room.ensures.1 ∙ room_beside_nothing
