use Rattle.std.proofs.Common.{◌≡◌, ◌≤◌, ◌+◌, ℕ, length, take, get_or}
use Rattle.mj_tiles.specs.Counts.{number_of}
use Rattle.mj_facts.proofs.bringing.bring_tiles.Given as goal

abbrev pub invariant-loop-tile : goal.invariant-loop-tile
invariant-loop-tile l =
    (length l.brought ≡ 34)
    × ((kind : ℕ) → get_or l.fn.brought kind 0 + number_of (take l.tile-index l.tiles) kind ≤ 255 → get_or l.brought kind 0 ≡ get_or l.fn.brought kind 0 + number_of (take l.tile-index l.tiles) kind)
