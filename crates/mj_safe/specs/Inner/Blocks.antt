-- What blocks a kind, by how many tiles of each kind are seen.
use Rattle.std.specs.Prelude.{ℕ, ◌==◌, ◌&&◌, ◌||◌, Bool, not, List, slice_index}
use Rattle.std.specs.List.{list_all, list_any}
use Rattle.mj_tiles.specs.Counts.{all_kinds}
use Rattle.mj_tiles.specs.Terminals.{is_terminal_or_honour}
use Rattle.mj_safety.specs.Safe.{is_run_of, run_from}

-- All four tiles of another kind are seen.
abbrev pub four_beside : List ℕ → ℕ → ℕ → Bool
four_beside seen kind other = not (other == kind) && slice_index seen other == 4

-- The run that begins at a kind has not the other, or wants one beside it that is all seen.
abbrev pub is_run_blocked : List ℕ → ℕ → ℕ → Bool
is_run_blocked seen kind low = not (is_run_of kind low) || list_any (four_beside seen kind) (run_from low)

abbrev pub runs_blocked : List ℕ → ℕ → Bool
runs_blocked seen kind = list_all (is_run_blocked seen kind) all_kinds

-- A terminal or honour other than the kind is all seen.
abbrev pub is_orphan_beside : List ℕ → ℕ → ℕ → Bool
is_orphan_beside seen kind other = is_terminal_or_honour other && four_beside seen kind other

-- The kind is no orphan, or there is a meld, or another orphan is all seen.
abbrev pub orphans_blocked : List ℕ → Bool → ℕ → Bool
orphans_blocked seen melded kind = not (is_terminal_or_honour kind) || melded || list_any (is_orphan_beside seen kind) all_kinds
