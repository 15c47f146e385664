use Rattle.std.proofs.Common.{ℕ, ◌≡◌, ◌-◌, List, length, drop}
use Rattle.std.specs.List.{list_any}
use Rattle.mj_tiles.specs.declared.meld.Meld.{Meld}
use Rattle.mj_readings.specs.declared.reading.Case.{Case}
use Rattle.mj_readings.specs.AllReadings.{readings_of}
use Rattle.mj_yaku.specs.SomeYaku.{gives_yaku}
use Rattle.mj_yaku.proofs.some_yaku.has_yaku.Given as goal

-- no reading before this one has a yaku, so that one from here on has one exactly where one of all has
pub record NoneBefore (counts : List ℕ) (melds : List Meld) (winning : ℕ) (case : Case) (index : ℕ) : Type 0 where
  pub left : list_any (gives_yaku melds case) (drop index (readings_of counts melds winning)) ≡ list_any (gives_yaku melds case) (readings_of counts melds winning)

abbrev pub invariant-loop-reading : goal.invariant-loop-reading
invariant-loop-reading l = NoneBefore l.counts l.melds l.win l.case l.index

abbrev pub decreases-loop-reading : goal.decreases-loop-reading
decreases-loop-reading l = length (readings_of l.counts l.melds l.win) - l.index
