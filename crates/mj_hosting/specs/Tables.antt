-- What the command `tables` does: games of 200 shuffled walls each are played side by side over one host by whoever connects, and
-- their records are written.
use Rattle.std.specs.Prelude.{ℕ, List, Option}
use Rattle.mj_words.specs.Asked.{ServedWith}
use Rattle.mj_hosting.specs.declared.plays.ServeEnd.{ServeEnd}
use Rattle.mj_hosting.specs.Plans.{many_tables}
use Rattle.mj_hosting.specs.Plays.{Outside, PlaysBy}

module _ {L F : Type 0} (read left written : L → Option (List ℕ)) (read_faults write_faults : L → ℕ) (made : F → Type 0) (number : F → ℕ) where
  -- What the command does, by its end.
  abbrev pub PlaysAll : ServeEnd → ℕ → ServedWith → Outside L → Outside L → Type 0
  PlaysAll end rooms s old new = PlaysBy read left written read_faults write_faults made number end (many_tables rooms s) old new
