-- What is kept of the deeds of one hand.
use Rattle.std.specs.Prelude.{◌≡◌, ◌≤◌, ◌<◌, ◌==◌, ℕ, not, if◌then◌else◌, List, [], ◌∷◌, ◌++◌, length, flat_map, slice_index}
use Rattle.mj_tiles.specs.Counts.{number_of}
use Rattle.mj_deeds.specs.declared.deed.Deed.{Deed}
use Rattle.mj_deeds.specs.Facts.{live_draws, kans, indicators, adds_by, seat_melds}
use Rattle.mj_deeds.specs.Fits.{brought_by}
use Rattle.mj_deeds.specs.Hand.{is_hand_start}
use Rattle.mj_facts.specs.declared.hand_facts.HandFacts.{HandFacts}
use Rattle.mj_facts.specs.Courses.{Follows}
use Rattle.mj_facts.specs.Seats.{AllKeep}

-- So many tiles of each kind were brought into one hand.
abbrev pub Brings : List Deed → List ℕ → Type 0
Brings deeds brought = (kind : ℕ) → kind < 34 → slice_index brought kind ≡ number_of (flat_map brought_by deeds) kind

-- What is kept says these facts of the deeds of one hand: whether it has begun, how many live tiles were drawn, how many
-- kans were made, how many tiles of each kind were brought in, its course, and the facts of each seat.
pub record Knows (deeds : List Deed) (facts : HandFacts) : Type 0 where
  pub begun : facts.begun ≡ not (length deeds == 0)
  pub drawn : facts.drawn ≡ live_draws deeds
  pub kans : facts.kans ≡ kans deeds
  pub brought : Brings deeds facts.brought
  pub course : Follows deeds facts.course
  pub seats : AllKeep deeds facts.seats

-- No more stands in one hand than is kept of it: 70 live draws, four kans, five indicators, four melds and five added tiles of
-- a seat, four tiles of a kind.
pub record Few (deeds : List Deed) : Type 0 where
  pub drawn : live_draws deeds ≤ 70
  pub kans : kans deeds ≤ 4
  pub shown : length (indicators deeds) ≤ 5
  pub melds : (seat : ℕ) → length (seat_melds deeds seat) ≤ 4
  pub added : (seat : ℕ) → length (flat_map (adds_by seat) deeds) ≤ 5
  pub brought : (kind : ℕ) → kind < 34 → number_of (flat_map brought_by deeds) kind ≤ 4

-- The newest hand with a deed more: a start begins one, and another deed belongs to the one that has begun.
abbrev pub hand_with : List Deed → Deed → List Deed
hand_with in_hand deed = if is_hand_start deed then deed ∷ [] else (if length in_hand == 0 then [] else in_hand ++ deed ∷ [])
