-- What reading from a source does to the bytes that are left there, and to its count of faults.
use Rattle.std.specs.Prelude.{◌≡◌, ℕ, ◌+◌, ◌<◌, ◌≤◌, List, [], ◌++◌, length, take, Option}
use Rattle.std.specs.Io.KnownBytes.{Consumes, Keeps, IsAtEnd}
use Rattle.mj_links.specs.declared.source.Got.{Got}
use Rattle.mj_links.specs.declared.source.Got.TheVariants.{Bytes, End, Failed}
use Rattle.mj_links.specs.declared.whole.ReadAll.{ReadAll}
use Rattle.mj_links.specs.declared.whole.ReadAll.TheVariants.{Whole, Fault, TooLong, NoMemory}

-- one byte or more comes from what is left, the end only where nothing is left, and a failure moves nothing
abbrev pub Reads : Got → Option (List ℕ) → Option (List ℕ) → List ℕ → Type 0
Reads (Bytes n) old new into = (1 ≤ n) × (n ≤ length into) × Consumes old new (take n into)
Reads End old new into = IsAtEnd new × Keeps old new
Reads Failed old new into = Keeps old new

-- the bytes that a read gave: those at the front of the buffer, and none at the end and at a failure
abbrev pub got_bytes : Got → List ℕ → List ℕ
got_bytes (Bytes n) into = take n into
got_bytes End into = []
got_bytes Failed into = []

-- the count of read faults never falls, and rises with each failure
abbrev pub CountsReadFault : Got → ℕ → ℕ → Type 0
CountsReadFault (Bytes n) old new = old ≤ new
CountsReadFault End old new = old ≤ new
CountsReadFault Failed old new = old < new

-- the bytes that were read stand after the text, and are gone from what was left
pub record TakesOver (old_left new_left : Option (List ℕ)) (old new : List ℕ) : Type 0 where
  pub bytes : List ℕ
  pub added : new ≡ old ++ bytes
  pub taken : Consumes old_left new_left bytes

-- a whole reading takes over all that is left, at most `limit` bytes; too long means that more came
abbrev pub ReadsAll : ReadAll → ℕ → Option (List ℕ) → Option (List ℕ) → List ℕ → List ℕ → Type 0
ReadsAll Whole limit old_left new_left old new = TakesOver old_left new_left old new × IsAtEnd new_left × (length new ≤ length old + limit)
ReadsAll Fault limit old_left new_left old new = TakesOver old_left new_left old new × (length new ≤ length old + limit)
ReadsAll TooLong limit old_left new_left old new = TakesOver old_left new_left old new × (length old + limit < length new)
ReadsAll NoMemory limit old_left new_left old new = Unit {0}

-- the count of read faults never falls, and rises where a reading ends in a fault
abbrev pub CountsFaultOfReading : ReadAll → ℕ → ℕ → Type 0
CountsFaultOfReading Whole old new = old ≤ new
CountsFaultOfReading Fault old new = old < new
CountsFaultOfReading TooLong old new = old ≤ new
CountsFaultOfReading NoMemory old new = old ≤ new
