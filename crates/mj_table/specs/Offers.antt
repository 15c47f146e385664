-- The tile that is offered to be won on.
use Rattle.std.specs.Prelude.{ℕ, List, Option, Some, None, option_and_then}
use Rattle.mj_deeds.specs.declared.deed.Deed.{Deed}
use Rattle.mj_deeds.specs.declared.deed.Deed.TheVariants.{Discard, AddedKan}
use Rattle.mj_deeds.specs.Facts.{newest}

-- A deed offers the tile that is discarded by it, or added to a triplet.
abbrev pub offered_by : Deed → Option ℕ
offered_by (Discard who tile drawn) = Some tile
offered_by (AddedKan who tile a b c) = Some tile
offered_by other = None

-- The tile that the newest deed offers.
abbrev pub offered_tile : List Deed → Option ℕ
offered_tile deeds = option_and_then offered_by (newest deeds)
