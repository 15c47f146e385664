-- What a call on one half of a link leaves alone, and how a line comes off a wire.
use Rattle.std.specs.Prelude.{◌≡◌, ℕ, ◌≤◌, ◌<◌, List, [], ◌∷◌, ◌++◌, length, Bool, false, ◌==◌, Option}
use Rattle.std.specs.Io.KnownBytes.{Consumes, Appends, IsAtEnd}
use Rattle.std.specs.List.{list_any}
use Rattle.mj_links.specs.declared.source.Got.{Got}
use Rattle.mj_links.specs.declared.source.Got.TheVariants.{Bytes, End, Failed as ReadFailed}
use Rattle.mj_links.specs.Sources.{got_bytes}
use Rattle.mj_links.specs.declared.wire.LineRead.{LineRead}
use Rattle.mj_links.specs.declared.wire.LineRead.TheVariants.{Line, Ended, Fault, TooLong, NoMemory}
use Rattle.mj_links.specs.declared.wire.Sent.{Sent}
use Rattle.mj_links.specs.declared.wire.Sent.TheVariants.{Whole, Failed}
use Rattle.mj_links.specs.Sinks.{WritesPrefix}

-- what is written and the count of write faults stay the same
pub record WritingStays (old_written new_written : Option (List ℕ)) (old_faults new_faults : ℕ) : Type 0 where
  pub written : new_written ≡ old_written
  pub faults : new_faults ≡ old_faults

-- what was read, what is left and the count of read faults stay the same
pub record ReadingStays (old_read new_read old_left new_left : Option (List ℕ)) (old_faults new_faults : ℕ) : Type 0 where
  pub read : new_read ≡ old_read
  pub left : new_left ≡ old_left
  pub faults : new_faults ≡ old_faults

-- the bytes of a read on a link stand after what was read
abbrev pub ReadsOn : Got → List ℕ → Option (List ℕ) → Option (List ℕ) → Type 0
ReadsOn got into old_read new_read = Appends old_read new_read (got_bytes got into)

-- a read gives the end or a fault
abbrev pub GivesNone : Got → Type 0
GivesNone (Bytes n) = ⊥
GivesNone End = Unit {0}
GivesNone ReadFailed = Unit {0}

-- whether a text has a newline
abbrev pub has_newline : List ℕ → Bool
has_newline text = list_any (λ b. b == 10) text

-- some bytes came from the link, those that were held come before them, and of all these a prefix is gone and the rest is held
pub record Passes (old_left new_left old_read new_read : Option (List ℕ)) (old_held new_held front : List ℕ) : Type 0 where
  pub bytes : List ℕ
  pub taken : Consumes old_left new_left bytes
  pub read : Appends old_read new_read bytes
  pub held : old_held ++ bytes ≡ front ++ new_held

-- the bytes before the next newline are the line; with it they are gone
pub record GivesLine (old_left new_left old_read new_read : Option (List ℕ)) (old_held new_held line : List ℕ) : Type 0 where
  pub passes : Passes old_left new_left old_read new_read old_held new_held (line ++ 10 ∷ [])
  pub first : has_newline line ≡ false
  pub short : length line < 4096

-- the input ended before the next newline, and the unfinished line is gone
pub record EndsFirst (old_left new_left old_read new_read : Option (List ℕ)) (old_held new_held : List ℕ) : Type 0 where
  pub rest : List ℕ
  pub passes : Passes old_left new_left old_read new_read old_held new_held rest
  pub unfinished : has_newline rest ≡ false
  pub short : length rest < 4096
  pub none : new_held ≡ []
  pub ended : IsAtEnd new_left

-- nothing is gone, and the caller's line is as it was
pub record KeepsAll (old_left new_left old_read new_read : Option (List ℕ)) (old_held new_held old_line new_line : List ℕ) : Type 0 where
  pub passes : Passes old_left new_left old_read new_read old_held new_held []
  pub line : new_line ≡ old_line

-- what each answer of a reading says of the bytes: too long where 4,096 bytes without a newline are held, and a fault only where
-- fewer are, without a newline too
abbrev pub ReadsLine : LineRead → Option (List ℕ) → Option (List ℕ) → Option (List ℕ) → Option (List ℕ) → List ℕ → List ℕ → List ℕ → List ℕ → Type 0
ReadsLine Line ol nl or nr oh nh old new = GivesLine ol nl or nr oh nh new
ReadsLine Ended ol nl or nr oh nh old new = EndsFirst ol nl or nr oh nh × (new ≡ old)
ReadsLine Fault ol nl or nr oh nh old new = KeepsAll ol nl or nr oh nh old new × (has_newline nh ≡ false) × (length nh < 4096)
ReadsLine TooLong ol nl or nr oh nh old new = KeepsAll ol nl or nr oh nh old new × (length nh ≡ 4096) × (has_newline nh ≡ false)
ReadsLine NoMemory ol nl or nr oh nh old new = KeepsAll ol nl or nr oh nh old new

-- a reading finds the end or a fault
abbrev pub FindsEnd : LineRead → Type 0
FindsEnd Line = ⊥
FindsEnd Ended = Unit {0}
FindsEnd Fault = Unit {0}
FindsEnd TooLong = ⊥
FindsEnd NoMemory = ⊥

-- the count of read faults never falls, and rises with each fault
abbrev pub CountsFaultOfLine : LineRead → ℕ → ℕ → Type 0
CountsFaultOfLine Line old new = old ≤ new
CountsFaultOfLine Ended old new = old ≤ new
CountsFaultOfLine Fault old new = old < new
CountsFaultOfLine TooLong old new = old ≤ new
CountsFaultOfLine NoMemory old new = old ≤ new

-- the whole piece is written, or a prefix of it where a write failed
abbrev pub Sends : Sent → Option (List ℕ) → Option (List ℕ) → List ℕ → Type 0
Sends Whole old new piece = Appends old new piece
Sends Failed old new piece = WritesPrefix old new piece

-- the count of write faults never falls, and rises where a write failed
abbrev pub CountsFaultOfSending : Sent → ℕ → ℕ → Type 0
CountsFaultOfSending Whole old new = old ≤ new
CountsFaultOfSending Failed old new = old < new
