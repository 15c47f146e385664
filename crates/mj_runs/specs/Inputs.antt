-- What is read of a source by the commands that read it to its end.
use Rattle.std.specs.Prelude.{ℕ, ◌≤◌, ◌<◌, List, length, Option}
use Rattle.std.specs.Io.KnownBytes.{Consumes, Keeps, IsAtEnd}

-- The most bytes that an input may have.
abbrev pub longest : ℕ
longest = 67108864

-- An input was read: it is all that was left of the source, and not too long.
pub record IsRead (old_left new_left : Option (List ℕ)) (input : List ℕ) : Type 0 where
  pub taken : Consumes old_left new_left input
  pub all : IsAtEnd new_left
  pub fits : length input ≤ longest

-- A read failed after no more bytes than an input may have, and nothing is written.
pub record IsCutOff (old_left new_left old_written new_written : Option (List ℕ)) : Type 0 where
  pub bytes : List ℕ
  pub taken : Consumes old_left new_left bytes
  pub fits : length bytes ≤ longest
  pub unwritten : Keeps old_written new_written

-- More was read than an input may have, and nothing is written.
pub record IsTooLong (old_left new_left old_written new_written : Option (List ℕ)) : Type 0 where
  pub bytes : List ℕ
  pub taken : Consumes old_left new_left bytes
  pub more : longest < length bytes
  pub unwritten : Keeps old_written new_written
