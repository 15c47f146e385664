-- The status that the end of each command gives, and what a status is answered with: the exit code of the program, and the
-- text on standard error.
use Rattle.std.specs.Prelude.{ℕ, List, [], ◌++◌, codes}
use Rattle.mj_bytes.specs.Numbers.{number_text}
use Rattle.mj_runs.specs.declared.cause.Cause.{Cause}
use Rattle.mj_runs.specs.declared.cause.Cause.TheVariants as causes
use Rattle.mj_front.specs.declared.hand.HandLinesEnd.{HandLinesEnd}
use Rattle.mj_front.specs.declared.hand.HandLinesEnd.TheVariants as hands
use Rattle.mj_front.specs.declared.self_game.SelfPlayEnd.{SelfPlayEnd}
use Rattle.mj_front.specs.declared.self_game.SelfPlayEnd.TheVariants as games
use Rattle.mj_runs.specs.declared.status.Status.{Status}
use Rattle.mj_runs.specs.declared.status.Status.TheVariants as statuses

-- The status that the end of the command `hand` gives.
abbrev pub hand_status : HandLinesEnd → Status
hand_status hands.Written = statuses.Done
hand_status hands.NoHand = statuses.Words
hand_status hands.WriteFault = statuses.WriteFault
hand_status hands.NoMemory = statuses.NoMemory

-- The status that the end of the command `selfplay` gives.
abbrev pub self_play_status : SelfPlayEnd → Status
self_play_status games.Written = statuses.Done
self_play_status games.WriteFault = statuses.WriteFault
self_play_status games.NoMemory = statuses.NoMemory

-- The exit code; 0 for success alone.
abbrev pub code_of : Status → ℕ
code_of statuses.Done = 0
code_of statuses.Words = 2
code_of statuses.ReadFault = 3
code_of statuses.WriteFault = 4
code_of statuses.NoMemory = 5
code_of (statuses.BadArrival line) = 6
code_of (statuses.BadRecord line cause) = 7
code_of statuses.HostFault = 8
code_of statuses.TooLong = 9
code_of statuses.DiskFault = 11
code_of statuses.OtherGame = 12
code_of (statuses.BadJournal place) = 13

-- How the program is called.
unfoldable pub usage : List ℕ
usage = codes "usage: riichi_table referee SEAT | serve --seed HEX [--limit MS] [--port N] [--draws] [--red] | replay | hand WORDS | selfplay N | observe | keep SEAT | safe SEAT | tables --seed HEX --rooms N [--limit MS] [--port N] [--draws] [--red]\n"

-- A fault at a line of the input, counted from 1.
unfoldable pub at_line : List ℕ → ℕ → List ℕ
at_line fault line = fault ++ (codes " at line " ++ (number_text line ++ codes "\n"))

-- The byte of a journal at which it is bad.
unfoldable pub bad_journal : ℕ → List ℕ
bad_journal place = codes "bad journal at byte " ++ (number_text place ++ codes "\n")

-- The number of a cause by which a line breaks the form of a record.
abbrev pub cause_number : Cause → ℕ
cause_number causes.Header = 1
cause_number causes.Wall = 2
cause_number causes.Line = 3
cause_number causes.Next = 4
cause_number causes.Cut = 5

-- A fault at a line of a record, with the number of its cause.
unfoldable pub bad_record : ℕ → Cause → List ℕ
bad_record line cause = codes "bad record at line " ++ (number_text line ++ (codes ": " ++ (number_text (cause_number cause) ++ codes "\n")))

-- The text on standard error; none for success.
abbrev pub status_words : Status → List ℕ
status_words statuses.Done = []
status_words statuses.Words = usage
status_words statuses.ReadFault = codes "read fault\n"
status_words statuses.WriteFault = codes "write fault\n"
status_words statuses.NoMemory = codes "no memory\n"
status_words (statuses.BadArrival line) = at_line (codes "bad arrival") line
status_words (statuses.BadRecord line cause) = bad_record line cause
status_words statuses.HostFault = codes "host fault\n"
status_words statuses.TooLong = codes "input too long\n"
status_words statuses.DiskFault = codes "disk fault\n"
status_words statuses.OtherGame = codes "journal of another game\n"
status_words (statuses.BadJournal place) = bad_journal place
