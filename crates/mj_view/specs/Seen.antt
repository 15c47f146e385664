-- Whose tiles a viewer sees.
use Rattle.std.specs.Prelude.{ℕ, ◌==◌, Bool, true, false, Option, Some, None}
use Rattle.mj_deeds.specs.declared.deed.Viewer.{Viewer}
use Rattle.mj_deeds.specs.declared.deed.Viewer.TheVariants.{Seat, Record}

-- Whether a viewer sees what a seat holds: the record sees all, a seat its own.
abbrev pub sees : Viewer → ℕ → Bool
sees (Seat seat) owner = owner == seat
sees Record owner = true

-- The tile of a draw, where it is seen.
abbrev pub own_tile : Bool → ℕ → Option ℕ
own_tile true tile = Some tile
own_tile false tile = None
