-- What writing to a sink does to the bytes that stand there, and to its count of faults.
use Rattle.std.specs.Prelude.{ℕ, ◌<◌, ◌≤◌, List, length, take, Option}
use Rattle.std.specs.Io.KnownBytes.{Appends, Keeps}
use Rattle.mj_links.specs.declared.sink.Put.{Put}
use Rattle.mj_links.specs.declared.sink.Put.TheVariants.{Took, Failed}
use Rattle.mj_links.specs.declared.whole.WriteAll.{WriteAll}
use Rattle.mj_links.specs.declared.whole.WriteAll.TheVariants.{Whole}
use Rattle.mj_links.specs.declared.whole.WriteAll.TheVariants.{Failed as CutOff}

-- one byte or more of the piece is written after what stands there, and a failure writes nothing
abbrev pub Writes : Put → Option (List ℕ) → Option (List ℕ) → List ℕ → Type 0
Writes (Took n) old new piece = (1 ≤ n) × (n ≤ length piece) × Appends old new (take n piece)
Writes Failed old new piece = Keeps old new

-- the count of write faults never falls, and rises with each failure
abbrev pub CountsWriteFault : Put → ℕ → ℕ → Type 0
CountsWriteFault (Took n) old new = old ≤ new
CountsWriteFault Failed old new = old < new

-- so many of the piece's bytes from its front, and not all of them, are written
pub record WritesPrefix (old new : Option (List ℕ)) (piece : List ℕ) : Type 0 where
  pub count : ℕ
  pub short : count < length piece
  pub written : Appends old new (take count piece)

-- the whole piece is written, or a prefix of it where a write failed
abbrev pub WritesAll : WriteAll → Option (List ℕ) → Option (List ℕ) → List ℕ → Type 0
WritesAll Whole old new piece = Appends old new piece
WritesAll CutOff old new piece = WritesPrefix old new piece

-- the count of write faults never falls, and rises where a write failed
abbrev pub CountsFaultOfWriting : WriteAll → ℕ → ℕ → Type 0
CountsFaultOfWriting Whole old new = old ≤ new
CountsFaultOfWriting CutOff old new = old < new
