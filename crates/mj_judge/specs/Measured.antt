-- The hands that shanten is said of.
use Rattle.std.specs.Prelude.{ℕ, ◌+◌, ◌==◌, ◌&&◌, Bool, nat_le, List, flat_map, count_by, slice_index}
use Rattle.std.specs.List.{list_all}
use Rattle.mj_tiles.specs.Counts.{all_kinds}
use Rattle.mj_readings.specs.declared.reading.Set.{Set}
use Rattle.mj_readings.specs.Sets.{tiles_of_set}
use Rattle.mj_shanten.specs.Room.{is_meld}

-- Shanten is said of a hand whose melds are sets, which with the room that they leave are four of each kind, and of whose
-- tiles no kind stands more often than its room.
abbrev pub is_kind_within : List ℕ → List ℕ → List Set → ℕ → Bool
is_kind_within counts room sets kind =
    slice_index room kind + count_by (λ tile. tile == kind) (flat_map tiles_of_set sets) == 4 && nat_le (slice_index counts kind) (slice_index room kind)

unfoldable pub is_measured : List ℕ → List ℕ → List Set → Bool
is_measured counts room sets = list_all is_meld sets && list_all (is_kind_within counts room sets) all_kinds
