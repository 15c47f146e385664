-- Which kinds a seat discarded itself, and which it let pass since then and since its reach.
use Rattle.std.specs.Prelude.{ℕ, ◌-◌, ◌==◌, nat_lt, if◌then◌else◌, List, [], ◌∷◌, ◌++◌, length, take, flat_map, Option, Some, None}
use Rattle.std.specs.List.{list_any}
use Rattle.mj_tiles.specs.Counts.{number_of}
use Rattle.mj_tiles.specs.Kinds.{kinds_that}
use Rattle.mj_deeds.specs.declared.deed.Deed.{Deed}
use Rattle.mj_deeds.specs.declared.deed.Deed.TheVariants.{Discard, AddedKan}
use Rattle.mj_deeds.specs.Facts.{newest, is_discard_by, river_tiles}
use Rattle.mj_deeds.specs.Riichi.{is_reach_by, behind_first}

-- The set of the kinds that stand among tiles.
unfoldable pub kinds_among : List ℕ → ℕ
kinds_among tiles = kinds_that (λ kind. nat_lt 0 (number_of tiles kind))

-- The kinds of a seat's discards, called ones included.
abbrev pub own_kinds : List Deed → ℕ → ℕ
own_kinds deeds seat = kinds_among (river_tiles deeds seat)

-- The tile of a deed that a seat might win on: one that another seat discards, or adds to a triplet.
abbrev pub offers_to : ℕ → Deed → List ℕ
offers_to seat (Discard who tile drawn) = if who == seat then [] else tile ∷ []
offers_to seat (AddedKan who tile a b c) = if who == seat then [] else tile ∷ []
offers_to seat other = []

-- The tiles that were offered to a seat since its own last discard: those after which no discard of its own stands.
abbrev pub offered_tiles : List Deed → ℕ → List ℕ
offered_tiles [] seat = []
offered_tiles (deed ∷ later) seat = (if list_any (is_discard_by seat) later then [] else offers_to seat deed) ++ offered_tiles later seat

-- Of the deeds before the newest one the tiles that a seat let pass; none where the newest one is its own discard.
abbrev pub passed_before : List Deed → ℕ → Option Deed → List ℕ
passed_before before seat None = []
passed_before before seat (Some deed) = if is_discard_by seat deed then [] else offered_tiles before seat

-- The tiles that a seat let pass since its own last discard: those that were offered to it before the newest deed.
abbrev pub passed_tiles : List Deed → ℕ → List ℕ
passed_tiles deeds seat = passed_before (take (length deeds - 1) deeds) seat (newest deeds)

-- The kinds that a seat let pass since its own last discard, or since the start of the hand where it has none.
abbrev pub passed_kinds : List Deed → ℕ → ℕ
passed_kinds deeds seat = kinds_among (passed_tiles deeds seat)

-- The tiles that a seat let pass since its reach: those that were offered to it after the reach and before the newest deed.
abbrev pub passed_since_reach : List Deed → ℕ → List ℕ
passed_since_reach deeds seat = flat_map (offers_to seat) (behind_first (is_reach_by seat) (take (length deeds - 1) deeds))

-- The kinds that a seat let pass since its reach; none of a seat that has not reached.
abbrev pub passed_in_riichi : List Deed → ℕ → ℕ
passed_in_riichi deeds seat = kinds_among (passed_since_reach deeds seat)
