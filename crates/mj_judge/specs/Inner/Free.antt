-- What swap calling leaves of the tiles of a seat, by the set of banned kinds.
use Rattle.std.specs.Prelude.{ℕ, ◌-◌, ◌||◌, Bool, nat_le, List}
use Rattle.mj_tiles.specs.Faces.{number_in, kind_of}
use Rattle.mj_tiles.specs.Kinds.{has_kind}

-- The seat holds no more tiles of a face than are used, or they are of a banned kind.
abbrev pub is_used_up : List ℕ → List ℕ → List ℕ → ℕ → ℕ → Bool
is_used_up tiles_gained tiles_lost used bans face = nat_le (number_in tiles_gained face - number_in tiles_lost face) (number_in used face) || has_kind bans (kind_of face)
