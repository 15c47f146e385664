-- The rules of complete hands as tests that compute.
use Rattle.std.specs.Prelude.{ℕ, slice_index, slice_set, ◌+◌, ◌-◌, ◌==◌, Bool, false, nat_le, ◌&&◌, ◌||◌, List, Option, is_some, find, map, bytes_eq}
use Rattle.mj_tiles.specs.Counts.{all_kinds}
use Rattle.mj_tiles.specs.Terminals.{is_terminal_or_honour}
use Rattle.mj_readings.specs.Complete.{orphan_number, is_seven_pairs}
use Rattle.mj_readings.specs.Inner.Ways.{has_way}

-- Whether the counts are thirteen orphans with this kind twice.
unfoldable pub has_orphans : List ℕ → ℕ → Bool
has_orphans counts double = is_terminal_or_honour double && bytes_eq counts (map (orphan_number double) all_kinds)

-- The kind that stands twice in thirteen orphans, where the counts are those.
unfoldable pub orphan_double : List ℕ → Option ℕ
orphan_double counts = find (has_orphans counts) all_kinds

-- The counts with one tile more of a kind.
abbrev pub one_more : List ℕ → ℕ → List ℕ
one_more counts kind = slice_set counts kind (slice_index counts kind + 1)

-- Whether a hand is complete.
unfoldable pub complete : List ℕ → ℕ → Bool
complete counts melds =
    nat_le melds 4 && has_way counts 0 0 0 (4 - melds) false
    || melds == 0 && (is_seven_pairs counts || is_some (orphan_double counts))
