-- What the command `keep` reads and writes, and what becomes of the disk.
use Rattle.std.specs.Prelude.{◌≡◌, ◌⊎◌, ℕ, ◌+◌, ◌≤◌, Bool, true, false, List, [], ◌∷◌, ◌++◌, length, Option, Some, None}
use Rattle.std.specs.Io.KnownBytes.{Appends, Keeps}
use Rattle.mj_bytes.specs.Parts.{whole_lines, unfinished}
use Rattle.mj_links.specs.Sinks.{WritesPrefix}
use Rattle.mj_ports.specs.declared.entry.Entry.{Entry}
use Rattle.mj_deeds.specs.declared.answer.Answer.{Answer}
use Rattle.mj_deeds.specs.declared.rule.Rule.{Rule}
use Rattle.mj_wall.specs.declared.setting.Rules.{Rules}
use Rattle.mj_wall.specs.declared.setting.Setting.{Setting}
use Rattle.mj_forms.specs.AnswerForms.{answer_of, join_of}
use Rattle.mj_history.specs.Shown.{shown_of, sits_of, hears_of, expires_of}
use Rattle.mj_history.specs.Arrivals.{ArrivalForm, Header, WallOf, Sit, Say, Leave, Expire, NoForm, form_of, Intake, Arrival, Leads, Bad, arrives, Input, Ending, intake_from, input_of, game_of}
use Rattle.mj_journal.specs.Disks.{Only, SyncsOnly}
use Rattle.mj_journal.specs.Openings.{Opening, Fresh, Other, Bad as BadAt, Open}
use Rattle.mj_journal.specs.Playing.{Play, play, opens}
use Rattle.mj_refereeing.specs.declared.keep.KeepEnd.{KeepEnd}
use Rattle.mj_refereeing.specs.declared.keep.KeepEnd.TheVariants as ends
use Rattle.mj_runs.specs.Inputs.{IsRead, IsCutOff, IsTooLong}
use Rattle.mj_refereeing.specs.Referee.{IsTold, ending}

-- What founds a kept game: its setting, the tag of its journal, and the lines after these, with the number of the first.
pub record Base : Type 0 where
  pub setting : Setting
  pub tag : List ℕ
  pub number : ℕ
  pub lines : List (List ℕ)

-- A line is a wall by its form.
abbrev pub is_wall_form : ArrivalForm → Bool
is_wall_form (WallOf tiles) = true
is_wall_form (Header rules) = false
is_wall_form (Sit text) = false
is_wall_form (Say seat text) = false
is_wall_form (Leave seat) = false
is_wall_form (Expire window t1 t2) = false
is_wall_form NoForm = false

-- What was read after a header and walls alone.
abbrev pub intake_with_walls : Rules → List (List ℕ) → Intake
intake_with_walls rules walls = record { rules = Some rules; walls = walls; begun = false; entries = [] }

-- After a wall in its place the walls go on.
abbrev pub wall_leads : Bool → Arrival → (Intake → Base) → Base → Base
wall_leads true (Leads next) onwards here = onwards next
wall_leads true Bad onwards here = here
wall_leads false arrival onwards here = here

-- The walls at the front of lines, each in its place after the header and the walls before it, up to the first other line;
-- the tag is the bytes of the lines so far, with their newlines.
abbrev pub base_from : Rules → List (List ℕ) → List ℕ → ℕ → List (List ℕ) → Base
base_from rules walls tag number [] = record { setting = record { walls = walls; rules = rules }; tag = tag; number = number; lines = [] }
base_from rules walls tag number (text ∷ texts) =
    wall_leads (is_wall_form (form_of text)) (arrives (intake_with_walls rules walls) text) (λ next. base_from rules next.walls (tag ++ text ++ 10 ∷ []) (number + 1) texts)
    (record { setting = record { walls = walls; rules = rules }; tag = tag; number = number; lines = text ∷ texts })

-- Only a header with a wall after it founds a game.
abbrev pub with_a_wall : List (List ℕ) → Base → Option Base
with_a_wall [] base = None
with_a_wall (wall ∷ walls) base = Some base

abbrev pub after_header_line : ArrivalForm → List ℕ → List (List ℕ) → Option Base
after_header_line (Header rules) text texts =
    let base = base_from rules [] (text ++ 10 ∷ []) 2 texts in with_a_wall base.setting.walls base
after_header_line form text texts = None

abbrev pub base_in : List (List ℕ) → Option Base
base_in [] = None
base_in (text ∷ texts) = after_header_line (form_of text) text texts

-- What founds the game of an input; none where it has no header with a wall after it.
abbrev pub base_of : List ℕ → Option Base
base_of input = base_in (whole_lines input)

-- A game of a setting as the calls of a journal play it.
abbrev pub play_of : Setting → Play Answer Rule
play_of setting = play shown_of sits_of (λ s before author seat answer. hears_of s before seat answer) expires_of answer_of join_of setting

-- How a disk opens for a game on this base.
abbrev pub opens_for : Base → List ℕ → Opening (List (Entry Answer))
opens_for base image = opens (play_of base.setting) base.tag image

-- An opening that gives these entries; a new journal gives none.
abbrev pub Gives : Opening (List (Entry Answer)) → List (Entry Answer) → Type 0
Gives Fresh entries = entries ≡ []
Gives Other entries = ⊥
Gives (BadAt place) entries = ⊥
Gives (Open last place) entries = entries ≡ last

-- What was read once the entries of the journal stand.
abbrev pub intake_after : Setting → List (Entry Answer) → Intake
intake_after setting entries = record { rules = Some setting.rules; walls = setting.walls; begun = true; entries = entries }

-- The lines of an input after the tag, heard after the entries of the journal.
abbrev pub heard_after : Base → List (Entry Answer) → List ℕ → Input
heard_after base entries input = intake_from (intake_after base.setting entries) base.number base.lines (unfinished input)

-- All entries: those of the journal, and those of the input after them.
abbrev pub all_entries : Base → List (Entry Answer) → List ℕ → List (Entry Answer)
all_entries base entries input = (heard_after base entries input).reading.entries

-- An opening that gives a beginning of these entries.
pub record GivesFront (opening : Opening (List (Entry Answer))) (entries : List (Entry Answer)) : Type 0 where
  pub front : List (Entry Answer)
  pub rest : List (Entry Answer)
  pub is : entries ≡ front ++ rest
  pub gives : Gives opening front

-- Entries lie safe on a disk. All images open to those of the journal with some of the input's after them, or to these and the
-- next one, the only one that may be in doubt. And none that was acknowledged is lost: an entry is acknowledged once a sync has
-- put it on the disk, and all that a sync of this run put there opens to a beginning of what each image still has.
pub record IsSafe {D : Type 0} (may_leave : D → List ℕ → Type 0) (moment : D → ℕ) (secured_since : D → ℕ → List ℕ → Type 0)
    (base : Base) (kept : List (Entry Answer)) (input : List ℕ) (old new : D) : Type 0 where
  pub made : List (Entry Answer)
  pub next : List (Entry Answer)
  pub later : List (Entry Answer)
  pub all : all_entries base kept input ≡ kept ++ made ++ next ++ later
  pub one : length next ≤ 1
  pub each : (image : List ℕ) → may_leave new image → Gives (opens_for base image) (kept ++ made) ⊎ Gives (opens_for base image) (kept ++ made ++ next)
  pub acknowledged : SyncsOnly moment secured_since old new (λ bytes. GivesFront (opens_for base bytes) (kept ++ made))

module _ {D : Type 0} (told : D → Option (List ℕ)) (may_leave : D → List ℕ → Type 0) where
  -- All entries stand on the disk, which reads so, with no write pending.
  pub record HasAll (base : Base) (entries : List (Entry Answer)) (disk : D) : Type 0 where
    pub bytes : List ℕ
    pub reads : told disk ≡ Some bytes
    pub end : ℕ
    pub opened : opens_for base bytes ≡ Open entries end
    pub only : Only bytes (may_leave disk)

  -- A game was kept: after the entries that the journal had stand those of the input; what it tells the seat is written, whole
  -- or in part, as `IsWritten` says; and all its entries stand on the disk.
  pub record KeepsGame (IsWritten : List ℕ → Type 0) (Ends : Ending → Type 0) (base : Base) (seat : ℕ) (input : List ℕ) (old new : D) : Type 0 where
    pub kept : List (Entry Answer)
    pub had : (bytes : List ℕ) → told old ≡ Some bytes → Gives (opens_for base bytes) kept
    pub ends : Ends (heard_after base kept input).ending
    pub tells : IsTold IsWritten seat (game_of (heard_after base kept input).reading)
    pub stands : (bytes : List ℕ) → told old ≡ Some bytes → HasAll base (all_entries base kept input) new

  -- An input that founds no game: the disk isn't touched, and nothing is written.
  pub record KeepsNothing (ends_so : Ending) (input : List ℕ) (old_written new_written : Option (List ℕ)) (old new : D) : Type 0 where
    pub ends : (input_of input).ending ≡ ends_so
    pub unwritten : Keeps old_written new_written
    pub untouched : new ≡ old

  abbrev pub KeepsWhole : Option Base → Ending → ℕ → List ℕ → Option (List ℕ) → Option (List ℕ) → D → D → Type 0
  KeepsWhole None ends_so seat input old_written new_written old new = KeepsNothing ends_so input old_written new_written old new
  KeepsWhole (Some base) ends_so seat input old_written new_written old new = KeepsGame (Appends old_written new_written) (λ e. e ≡ ends_so) base seat input old new

  abbrev pub KeepsPart : Option Base → ℕ → List ℕ → Option (List ℕ) → Option (List ℕ) → D → D → Type 0
  KeepsPart None seat input old_written new_written old new = ⊥
  KeepsPart (Some base) seat input old_written new_written old new = KeepsGame (WritesPrefix old_written new_written) (λ e. Unit {0}) base seat input old new

  -- A journal that isn't this game's isn't written to.
  abbrev pub IsRefused : Option Base → Opening (List (Entry Answer)) → D → D → Type 0
  IsRefused None why old new = ⊥
  IsRefused (Some base) why old new =
      (bytes : List ℕ) → told old ≡ Some bytes → (opens_for base bytes ≡ why) × (told new ≡ told old) × ((image : List ℕ) → may_leave new image → may_leave old image)

  module _ (moment : D → ℕ) (secured_since : D → ℕ → List ℕ → Type 0) where
    -- A run that was cut short loses nothing, where no write was pending at its start and the disk held a new journal, or one of
    -- this game.
    abbrev pub LosesNothing : Option Base → List ℕ → D → D → Type 0
    LosesNothing None input old new = ⊥
    LosesNothing (Some base) input old new =
        (bytes : List ℕ) (kept : List (Entry Answer)) → told old ≡ Some bytes → Only bytes (may_leave old) → Gives (opens_for base bytes) kept
        → IsSafe may_leave moment secured_since base kept input old new

    -- What is written and what becomes of the disk once an input was read, by the end; no read can fail any more.
    abbrev pub KeepsInput : KeepEnd → ℕ → List ℕ → Option (List ℕ) → Option (List ℕ) → D → D → Type 0
    KeepsInput (ends.Told end) seat input old_written new_written old new = KeepsWhole (base_of input) (ending end) seat input old_written new_written old new
    KeepsInput ends.WriteFault seat input old_written new_written old new = KeepsPart (base_of input) seat input old_written new_written old new
    KeepsInput ends.DiskFault seat input old_written new_written old new = Keeps old_written new_written × LosesNothing (base_of input) input old new
    KeepsInput ends.OtherGame seat input old_written new_written old new = Keeps old_written new_written × IsRefused (base_of input) Other old new
    KeepsInput (ends.BadJournal place) seat input old_written new_written old new = Keeps old_written new_written × IsRefused (base_of input) (BadAt place) old new
    KeepsInput ends.NoMemory seat input old_written new_written old new = Keeps old_written new_written × ((new ≡ old) ⊎ LosesNothing (base_of input) input old new)
    KeepsInput ends.ReadFault seat input old_written new_written old new = ⊥
    KeepsInput ends.TooLong seat input old_written new_written old new = ⊥

    -- An input was read, and this comes of it.
    pub record KeepsRead (end : KeepEnd) (seat : ℕ) (old_left new_left old_written new_written : Option (List ℕ)) (old new : D) : Type 0 where
      pub input : List ℕ
      pub read : IsRead old_left new_left input
      pub does : KeepsInput end seat input old_written new_written old new

    -- Memory was wanting: nothing is written, and the disk wasn't touched or lost nothing.
    abbrev pub KeepsWanting : ℕ → Option (List ℕ) → Option (List ℕ) → Option (List ℕ) → Option (List ℕ) → D → D → Type 0
    KeepsWanting seat old_left new_left old_written new_written old new =
        (Keeps old_written new_written × (new ≡ old)) ⊎ KeepsRead ends.NoMemory seat old_left new_left old_written new_written old new

    -- What the command does, by its end. Where the input wasn't read the disk isn't touched, and nothing is written.
    abbrev pub KeepsAll : KeepEnd → ℕ → Option (List ℕ) → Option (List ℕ) → Option (List ℕ) → Option (List ℕ) → D → D → Type 0
    KeepsAll (ends.Told end) seat old_left new_left old_written new_written old new = KeepsRead (ends.Told end) seat old_left new_left old_written new_written old new
    KeepsAll ends.WriteFault seat old_left new_left old_written new_written old new = KeepsRead ends.WriteFault seat old_left new_left old_written new_written old new
    KeepsAll ends.DiskFault seat old_left new_left old_written new_written old new = KeepsRead ends.DiskFault seat old_left new_left old_written new_written old new
    KeepsAll ends.OtherGame seat old_left new_left old_written new_written old new = KeepsRead ends.OtherGame seat old_left new_left old_written new_written old new
    KeepsAll (ends.BadJournal place) seat old_left new_left old_written new_written old new = KeepsRead (ends.BadJournal place) seat old_left new_left old_written new_written old new
    KeepsAll ends.NoMemory seat old_left new_left old_written new_written old new = KeepsWanting seat old_left new_left old_written new_written old new
    KeepsAll ends.ReadFault seat old_left new_left old_written new_written old new = IsCutOff old_left new_left old_written new_written × (new ≡ old)
    KeepsAll ends.TooLong seat old_left new_left old_written new_written old new = IsTooLong old_left new_left old_written new_written × (new ≡ old)
