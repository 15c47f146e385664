-- What is kept of a game while its lines are heard and put on a disk.
use Rattle.std.specs.Prelude.{◌≡◌, ◌⊎◌, ℕ, ◌==◌, ◌<◌, ◌≤◌, false, if◌then◌else◌, List, [], ◌∷◌, ◌++◌, length, Option, Some, None, option_and_then}
use Rattle.mj_ports.specs.declared.entry.Entry.{Entry}
use Rattle.mj_deeds.specs.declared.answer.Answer.{Answer}
use Rattle.mj_history.specs.Legal.{Game}
use Rattle.mj_history.specs.Arrivals.{Arrival, Leads, Bad, Input, Ending, game_of as game_read}
use Rattle.mj_core.specs.Calls.{may_say_at}
use Rattle.mj_journal.specs.Disks.{SyncsOnly}
use Rattle.mj_journal.specs.Journals.{IsAtRest}
use Rattle.mj_journal.specs.Playing.{opens}
use Rattle.mj_journal.specs.Keeping.{game_of, end_of, TellsGame, TellsOn, OpensTo, OpensWith}
use Rattle.mj_journal.specs.declared.answered.Answered.{Answered}
use Rattle.mj_journal.specs.declared.answered.Answered.TheVariants as answered
use Rattle.mj_journal.specs.declared.kept.Kept.{Kept}
use Rattle.mj_refereeing.specs.declared.intake.End.{End}
use Rattle.mj_refereeing.specs.declared.keeping.Noted.{Noted}
use Rattle.mj_refereeing.specs.declared.keeping.Noted.TheVariants as noted
use Rattle.mj_refereeing.specs.declared.keeping.AllNoted.{AllNoted}
use Rattle.mj_refereeing.specs.declared.keeping.AllNoted.TheVariants as all_noted
use Rattle.mj_refereeing.specs.declared.watched.Watched.{Watched}
use Rattle.mj_refereeing.specs.Inner.Intake.{intake_of, present_in}
use Rattle.mj_refereeing.specs.Keep.{play_of}
use Rattle.std.specs.Io.KnownBytes.{Appends, Keeps}
use Rattle.mj_links.specs.Sinks.{WritesPrefix}
use Rattle.mj_refereeing.specs.declared.keep.KeepEnd.{KeepEnd}
use Rattle.mj_refereeing.specs.declared.keep.KeepEnd.TheVariants as ends
use Rattle.mj_refereeing.specs.Keep.{Base, GivesFront, HasAll, IsSafe, heard_after, all_entries}
use Rattle.mj_refereeing.specs.Referee.{IsTold, ending}

-- A seat that is present and whose due deed exists, with its author.
abbrev pub if_asked : Game → ℕ × ℕ → Option (ℕ × ℕ)
if_asked game by = if may_say_at game by.0 then Some by else None

abbrev pub asked_in : Game → ℕ → Option (ℕ × ℕ)
asked_in game who = option_and_then (if_asked game) (present_in game who)

-- What is noted of a line by the answer of its call.
abbrev pub noted_by : {T : Type 0} → Answered T → Noted
noted_by (answered.Done answer) = noted.Leads
noted_by answered.DiskFault = noted.DiskFault
noted_by answered.Stopped = noted.DiskFault
noted_by answered.NoMemory = noted.NoMemory

-- A game is in play, and so much holds.
abbrev pub IsPlayed : {G : Type 0} → Option G → Type 0 → Type 0
IsPlayed None Holds = ⊥
IsPlayed (Some game) Holds = Holds

-- The count of faults of the disk never falls, and rises where the disk failed.
abbrev pub CountsNotedFault : Noted → ℕ → ℕ → Type 0
CountsNotedFault noted.DiskFault old new = old < new
CountsNotedFault other old new = old ≤ new

abbrev pub CountsAllFault : AllNoted → ℕ → ℕ → Type 0
CountsAllFault all_noted.DiskFault old new = old < new
CountsAllFault other old new = old ≤ new

-- While no fault was met the game is in play.
abbrev pub StaysPlayed : {G : Type 0} → Noted → Option G → Type 0 → Type 0
StaysPlayed noted.DiskFault game Holds = Unit {0}
StaysPlayed other game Holds = IsPlayed game Holds

abbrev pub AllStayPlayed : {G : Type 0} → AllNoted → Option G → Type 0
AllStayPlayed (all_noted.Whole end) game = IsPlayed game (Unit {0})
AllStayPlayed other game = Unit {0}

-- What is written of what a game tells its seat, by the end.
abbrev pub WritesScript : KeepEnd → End → ℕ → Game → Option (List ℕ) → Option (List ℕ) → Type 0
WritesScript (ends.Told given) end seat game old new = (given ≡ end) × IsTold (Appends old new) seat game
WritesScript ends.WriteFault end seat game old new = IsTold (WritesPrefix old new) seat game
WritesScript ends.NoMemory end seat game old new = Keeps old new
WritesScript other end seat game old new = ⊥

-- An entry, or none.
abbrev pub list_of : {E : Type 0} → Option E → List E
list_of None = []
list_of (Some e) = e ∷ []

module _ {D : Type 0} (told : D → Option (List ℕ)) (may_leave : D → List ℕ → Type 0) where
  -- A game goes on, watched for a seat, and stands on the disk after its tag.
  pub record GoesOn (tag : List ℕ) (seat : ℕ) (kept : Kept Watched) (disk : D) (game : Game) : Type 0 where
    pub watched : Watched
    pub is : game_of kept ≡ Some watched
    pub core : watched.core.game ≡ game
    pub of_seat : watched.core.seat ≡ seat
    pub wall : (length game.setting.walls == 0) ≡ false
    pub rest : IsAtRest (told disk) (may_leave disk) (end_of kept)
    pub tells : TellsGame (opens (play_of game.setting) tag) (told disk) game.entries (end_of kept)

  -- What becomes of the lines after the tag, where the journal had these entries.
  pub record KeepsLines (IsWritten : List ℕ → Type 0) (Ends : Ending → Type 0) (base : Base) (seat : ℕ) (kept : List (Entry Answer)) (input : List ℕ) (old new : D) : Type 0 where
    pub ends : Ends (heard_after base kept input).ending
    pub tells : IsTold IsWritten seat (game_read (heard_after base kept input).reading)
    pub stands : (bytes : List ℕ) → told old ≡ Some bytes → HasAll told may_leave base (all_entries base kept input) new

  module _ (moment : D → ℕ) (secured_since : D → ℕ → List ℕ → Type 0) where
    -- A line led on, and its entry, where it has one, is on the disk.
    pub record NotesOne (tag : List ℕ) (seat : ℕ) (game : Game) (kept : Kept Watched) (old new : D) (arrival : Arrival) : Type 0 where
      pub next : Game
      pub leads : arrival ≡ Leads (intake_of next)
      pub setting : next.setting ≡ game.setting
      pub goes : GoesOn tag seat kept new next
      pub on : TellsOn (told old) (told new)
      pub syncs : (bytes : List ℕ) → told old ≡ Some bytes → SyncsOnly moment secured_since old new (λ image. GivesFront (opens (play_of game.setting) tag image) next.entries)

    -- The disk failed, and the entry of the line is on it or is not.
    pub record FailsOne (tag : List ℕ) (game : Game) (old new : D) (arrival : Arrival) : Type 0 where
      pub next : Game
      pub entry : Option (Entry Answer)
      pub leads : arrival ≡ Leads (intake_of next)
      pub setting : next.setting ≡ game.setting
      pub entries : next.entries ≡ game.entries ++ list_of entry
      pub each : (bytes image : List ℕ) → told old ≡ Some bytes → may_leave new image
          → OpensTo (opens (play_of game.setting) tag) game.entries image ⊎ OpensWith (opens (play_of game.setting) tag) game.entries entry image
      pub syncs : (bytes : List ℕ) → told old ≡ Some bytes → SyncsOnly moment secured_since old new (λ image. GivesFront (opens (play_of game.setting) tag image) game.entries)

    -- Nothing was noted.
    pub record NotesNone (tag : List ℕ) (seat : ℕ) (game : Game) (kept : Kept Watched) (old new : D) : Type 0 where
      pub goes : GoesOn tag seat kept new game
      pub on : TellsOn (told old) (told new)
      pub syncs : (bytes : List ℕ) → told old ≡ Some bytes → SyncsOnly moment secured_since old new (λ image. GivesFront (opens (play_of game.setting) tag image) game.entries)

    -- What becomes of a line.
    abbrev pub Notes : Noted → List ℕ → ℕ → Game → Kept Watched → D → D → Arrival → Type 0
    Notes noted.Leads tag seat game kept old new arrival = NotesOne tag seat game kept old new arrival
    Notes noted.Bad tag seat game kept old new arrival = (arrival ≡ Bad) × NotesNone tag seat game kept old new
    Notes noted.DiskFault tag seat game kept old new arrival = FailsOne tag game old new arrival
    Notes noted.NoMemory tag seat game kept old new arrival = NotesNone tag seat game kept old new

    -- All lines were noted, up to this end.
    pub record NotesEach (tag : List ℕ) (seat : ℕ) (end : End) (game : Game) (kept : Kept Watched) (old new : D) (input : Input) : Type 0 where
      pub last : Game
      pub setting : last.setting ≡ game.setting
      pub reading : input.reading ≡ intake_of last
      pub ends : input.ending ≡ ending end
      pub goes : GoesOn tag seat kept new last
      pub on : TellsOn (told old) (told new)
      pub syncs : (bytes : List ℕ) → told old ≡ Some bytes → SyncsOnly moment secured_since old new (λ image. GivesFront (opens (play_of game.setting) tag image) last.entries)

    -- Not all of them: what was noted is a beginning of all, and the next entry, where there is one, may be on the disk or not.
    pub record NotesPart (tag : List ℕ) (game : Game) (old new : D) (input : Input) : Type 0 where
      pub made : List (Entry Answer)
      pub next : Option (Entry Answer)
      pub later : List (Entry Answer)
      pub all : input.reading.entries ≡ game.entries ++ made ++ list_of next ++ later
      pub each : (bytes image : List ℕ) → told old ≡ Some bytes → may_leave new image
          → OpensTo (opens (play_of game.setting) tag) (game.entries ++ made) image ⊎ OpensWith (opens (play_of game.setting) tag) (game.entries ++ made) next image
      pub syncs : (bytes : List ℕ) → told old ≡ Some bytes → SyncsOnly moment secured_since old new (λ image. GivesFront (opens (play_of game.setting) tag image) (game.entries ++ made))

    abbrev pub NotesAll : AllNoted → List ℕ → ℕ → Game → Kept Watched → D → D → Input → Type 0
    NotesAll (all_noted.Whole end) tag seat game kept old new input = NotesEach tag seat end game kept old new input
    NotesAll all_noted.DiskFault tag seat game kept old new input = NotesPart tag game old new input
    NotesAll all_noted.NoMemory tag seat game kept old new input = NotesPart tag game old new input

    -- The disk is safe, where it told its bytes.
    abbrev pub StaysSafe : Base → List (Entry Answer) → List ℕ → D → D → Type 0
    StaysSafe base kept input old new = (bytes : List ℕ) → told old ≡ Some bytes → IsSafe may_leave moment secured_since base kept input old new

    abbrev pub KeepsOn : KeepEnd → Base → ℕ → List (Entry Answer) → List ℕ → Option (List ℕ) → Option (List ℕ) → D → D → Type 0
    KeepsOn (ends.Told end) base seat kept input old_written new_written old new = KeepsLines (Appends old_written new_written) (λ e. e ≡ ending end) base seat kept input old new
    KeepsOn ends.WriteFault base seat kept input old_written new_written old new = KeepsLines (WritesPrefix old_written new_written) (λ e. Unit {0}) base seat kept input old new
    KeepsOn ends.DiskFault base seat kept input old_written new_written old new = Keeps old_written new_written × StaysSafe base kept input old new
    KeepsOn ends.NoMemory base seat kept input old_written new_written old new = Keeps old_written new_written × StaysSafe base kept input old new
    KeepsOn other base seat kept input old_written new_written old new = ⊥
