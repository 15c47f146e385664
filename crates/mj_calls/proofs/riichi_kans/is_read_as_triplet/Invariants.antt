use Rattle.std.proofs.Common.{ℕ, ◌≡◌, ◌-◌, List, length, drop}
use Rattle.std.specs.List.{list_all}
use Rattle.mj_tiles.specs.declared.meld.Meld.{Meld}
use Rattle.mj_readings.specs.AllReadings.{readings_of}
use Rattle.mj_calls.specs.RiichiKans.{has_own_triplet}
use Rattle.mj_calls.proofs.riichi_kans.is_read_as_triplet.Given as goal

-- Every reading before this one has the triplet, so that those from here on have it exactly where all have it.
pub record AllBefore (counts : List ℕ) (melds : List Meld) (winning kind index : ℕ) : Type 0 where
  pub left : list_all (has_own_triplet kind) (drop index (readings_of counts melds winning)) ≡ list_all (has_own_triplet kind) (readings_of counts melds winning)

abbrev pub invariant-loop-reading : goal.invariant-loop-reading
invariant-loop-reading l = AllBefore l.counts l.melds l.winning l.kind l.index

abbrev pub decreases-loop-reading : goal.decreases-loop-reading
decreases-loop-reading l = length (readings_of l.counts l.melds l.winning) - l.index
