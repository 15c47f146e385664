-- What a command does that is run on bytes in memory.
use Rattle.std.specs.Prelude.{ℕ, ◌≡◌, ◌||◌, ◌&&◌, not, Bool, if◌then◌else◌, List, [], Option, Some, None, codes, option_and_then}
use Rattle.std.specs.List.{list_all}
use Rattle.std.specs.Str.{is_utf8}
use Rattle.mj_runs.specs.declared.status.Status.{Status}
use Rattle.mj_runs.specs.declared.status.Status.TheVariants as statuses
use Rattle.mj_front.specs.Statuses.{code_of, status_words}
use Rattle.mj_front.specs.Run.{Runs, begins_with, is_waiting, asked_by}
use Rattle.mj_embedded.specs.Calls.{Writes}
use Rattle.mj_embedded.specs.Opens.{lines_of}

-- The command waits for others or keeps a file, and isn't run here.
abbrev pub is_apart : List (List ℕ) → Bool
is_apart words = is_waiting words || begins_with (codes "keep") words

-- Words that are texts, of a command that is run here.
abbrev pub heard : List (List ℕ) → Option (List (List ℕ))
heard words = if list_all is_utf8 words && not (is_apart words) then Some words else None

-- The words of lines, each of which ends.
abbrev pub words_of : List ℕ → Option (List (List ℕ))
words_of text = option_and_then heard (lines_of text)

-- A text is written where it fits, and its length is said.
pub record WritesOut (text old new : List ℕ) (many : ℕ) : Type 0 where
  pub fits : ℕ
  pub writes : Writes text fits old new many

-- A command ran: it read the input, and what it wrote is written to the room.
pub record RunsHeard (words : List (List ℕ)) (input : List ℕ) (status : Status) (old_room room : List ℕ) (many : ℕ) : Type 0 where
  pub left : Option (List ℕ)
  pub written : List ℕ
  pub runs : Runs (asked_by words) status (Some input) left (Some []) (Some written)
  pub writes : WritesOut written old_room room many

-- A run of these words, where they are words of a command that is run here. Other words are refused, and want of memory may come first; then nothing is written.
pub data RunsWords (words : Option (List (List ℕ))) (input : List ℕ) (status : Status) (old_room room : List ℕ) (many : ℕ) : Type 0 where
  Unheard : words ≡ None → status ≡ statuses.Words → room ≡ old_room → many ≡ 0 → RunsWords words input status old_room room many
  WantsMemory : status ≡ statuses.NoMemory → room ≡ old_room → many ≡ 0 → RunsWords words input status old_room room many
  Ran : (heard : List (List ℕ)) → words ≡ Some heard → RunsHeard heard input status old_room room many → RunsWords words input status old_room room many

-- What the program says of a status on standard error is told, unless memory is wanting.
pub data TellsStatus (status : Status) (old_room room : List ℕ) (many : ℕ) : Type 0 where
  Told : WritesOut (status_words status) old_room room many → TellsStatus status old_room room many
  Untold : room ≡ old_room → many ≡ 0 → TellsStatus status old_room room many

-- A run, its status told by the exit code and in words.
pub record RunsHere (words input old_room room : List ℕ) (many : ℕ) (old_told told : List ℕ) (told_many : ℕ) (code : ℕ) : Type 0 where
  pub status : Status
  pub code_is : code ≡ code_of status
  pub does : RunsWords (words_of words) input status old_room room many
  pub tells : TellsStatus status old_told told told_many
