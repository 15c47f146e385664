-- Which kinds are listed.
use Rattle.std.specs.Prelude.{ℕ, ◌&&◌, Bool, nat_lt, List, is_some}
use Rattle.mj_tiles.specs.Counts.{number_of}
use Rattle.mj_deeds.specs.declared.deed.Deed.{Deed}
use Rattle.mj_deeds.specs.Facts.{concealed_tiles}
use Rattle.mj_deeds.specs.Hand.{hand}
use Rattle.mj_safety.specs.Safe.{safe_reason}

-- A seat holds the kind, and it is safe against another.
abbrev pub is_held_and_safe : List Deed → ℕ → ℕ → ℕ → Bool
is_held_and_safe deeds seat against kind =
    nat_lt 0 (number_of (concealed_tiles (hand deeds) seat) kind) && is_some (safe_reason deeds seat against kind)
