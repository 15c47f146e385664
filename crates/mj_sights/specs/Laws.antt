-- The law of the tiles that lie open.
use Rattle.std.specs.Prelude.{◌≡◌, ℕ, ◌+◌, Bool, true, List, [], flat_map}
use Rattle.mj_tiles.specs.Counts.{number_of}
use Rattle.mj_deeds.specs.declared.deed.Deed.{Deed}
use Rattle.mj_deeds.specs.Facts.{concealed_tiles}
use Rattle.mj_deeds.specs.Fits.{all_fit, brought_by}
use Rattle.mj_deeds.specs.Hand.{hand}
use Rattle.mj_sights.specs.Seen.{open_tiles}

-- How many tiles of a kind the four seats hold in a hand.
abbrev pub held_by_all : List Deed → ℕ → ℕ
held_by_all deeds kind =
    number_of (concealed_tiles deeds 0) kind + number_of (concealed_tiles deeds 1) kind
    + number_of (concealed_tiles deeds 2) kind + number_of (concealed_tiles deeds 3) kind

-- In deeds each of which fits, each tile that was brought into the hand is held by one of the four seats or lies open, and is so
-- once: what a seat sees of a kind is what was brought in of it less what the three others hold.
abbrev pub TilesAreHeldOrOpen : Type 0
TilesAreHeldOrOpen =
    (red : Bool) (deeds : List Deed) (kind : ℕ) → all_fit red [] deeds ≡ true →
    held_by_all (hand deeds) kind + number_of (open_tiles (hand deeds)) kind ≡ number_of (flat_map brought_by (hand deeds)) kind
