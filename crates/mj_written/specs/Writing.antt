-- A game each of whose entries stands on a disk before the game makes it.
use Rattle.std.specs.Prelude.{◌≡◌, ◌⊎◌, ℕ, ◌<◌, ◌≤◌, Bool, true, false, List, [], ◌∷◌, ◌++◌, Option, Some, None, Result, Ok, Err}
use mathlib.Core.List.{IsPrefix}
use Rattle.mj_ports.specs.declared.answers.SitAnswer.{SitAnswer}
use Rattle.mj_ports.specs.declared.answers.SitAnswer.TheVariants as sits
use Rattle.mj_journal.specs.Disks.{LeavesOnly, SyncsOnly}
use Rattle.mj_journal.specs.Journals.{IsAtRest}
use Rattle.mj_journal.specs.Openings.{Opening}
use Rattle.mj_journal.specs.Keeping.{OpensTo, TellsGame, TellsOn}
use Rattle.mj_journal.specs.declared.not_opened.NotOpened.{NotOpened}
use Rattle.mj_written.specs.declared.stop.Stop.{Stop}
use Rattle.mj_written.specs.declared.stop.Stop.TheVariants.{DiskFault, NoMemory}

-- Whether a seat is given.
abbrev pub gives_seat : SitAnswer → Bool
gives_seat (sits.Sat seat) = true
gives_seat (sits.Back seat) = true
gives_seat (sits.Refused why) = false
gives_seat sits.NoMemory = false

-- The first of a game's entries: none of them, some, or all; of a game that is stopped, perhaps all and one more.
abbrev pub IsPartOf : {E : Type 0} → Option Stop → List E → List E → Type 0
IsPartOf None all part = IsPrefix part all
IsPartOf (Some why) all part = IsPrefix part all ⊎ ((e : _) × (part ≡ all ++ e ∷ []))

-- A disk that opens to such a part of a game's entries, and to no fewer than these first ones.
pub record OpensPart {E : Type 0} (opens : List ℕ → Opening (List E)) (stop : Option Stop) (first all : List E) (image : List ℕ) : Type 0 where
  pub part : List E
  pub opened : OpensTo opens part image
  pub begins : IsPrefix first part
  pub goes : IsPartOf stop all part

-- A disk that opens to all entries of a game; of one that is stopped, perhaps to one more.
abbrev pub OpensAll : {E : Type 0} → (List ℕ → Opening (List E)) → Option Stop → List E → List ℕ → Type 0
OpensAll opens None all image = OpensTo opens all image
OpensAll opens (Some why) all image = OpensTo opens all image ⊎ ((e : _) × OpensTo opens (all ++ e ∷ []) image)

-- The count of a disk's faults never fell, and rose where the disk stopped the game.
abbrev pub CountsStop : Option Stop → ℕ → ℕ → Type 0
CountsStop None old new = old ≤ new
CountsStop (Some DiskFault) old new = old < new
CountsStop (Some NoMemory) old new = old ≤ new

-- How a game stands with its disk: it has all these entries, of which it had the first when its journal was opened; given are
-- the disk as it was opened, the disk now, whose journal ends with the closed gate at a place, and why the game is stopped, if
-- it is.
pub record IsWritten {E D : Type 0} (told : D → Option (List ℕ)) (may_leave : D → List ℕ → Type 0) (moment : D → ℕ) (left_since secured_since : D → ℕ → List ℕ → Type 0)
    (disk_faults : D → ℕ) (opens : List ℕ → Opening (List E)) (first all : List E) (opened disk : D) (end : ℕ) (stop : Option Stop) : Type 0 where
  -- the entries begin with those of the opening
  pub begins : IsPrefix first all
  -- unless the game is stopped, the disk as it reads opens to just these entries, with no write pending
  pub rest : stop ≡ None → IsAtRest (told disk) (may_leave disk) end
  pub tells : stop ≡ None → TellsGame opens (told disk) all end
  pub on : stop ≡ None → TellsOn (told opened) (told disk)
  -- a crash now leaves all of them
  pub stands : (bytes image : List ℕ) → told opened ≡ Some bytes → may_leave disk image → OpensAll opens stop all image
  -- a crash at any moment since the opening left a part of them, with the first; and so did each sync
  pub since : (bytes : List ℕ) → told opened ≡ Some bytes → LeavesOnly moment left_since opened disk (OpensPart opens stop first all)
  pub syncs : (bytes : List ℕ) → told opened ≡ Some bytes → SyncsOnly moment secured_since opened disk (OpensPart opens stop first all)
  -- unless the game is stopped or has no entry more, a sync put the disk there as it reads
  pub put : (was bytes : List ℕ) → told opened ≡ Some was → stop ≡ None → told disk ≡ Some bytes → (all ≡ first) ⊎ secured_since disk (moment opened) bytes
  pub faults : CountsStop stop (disk_faults opened) (disk_faults disk)

-- A written game as contracts see it: the game, its disk with the place of the closed gate after the journal, and why it is
-- stopped, if it is; and the game and the disk as they were opened, with the tag of the journal.
pub record Journaled (G D : Type 0) : Type 0 where
  pub game : G
  pub disk : D
  pub end : ℕ
  pub stop : Option Stop
  pub began : G
  pub opened : D
  pub tag : List ℕ

-- One that was just opened, with this tag.
pub record IsJustOpened {G D : Type 0} (given : List ℕ) (w : Journaled G D) : Type 0 where
  pub tag : w.tag ≡ given
  pub began : w.began ≡ w.game
  pub opened : w.opened ≡ w.disk
  pub stop : w.stop ≡ None

-- The disk comes back in a written game, or beside the reason why its journal was not opened.
abbrev pub disk_of : {G D : Type 0} → Result (Journaled G D) (NotOpened × D) → D
disk_of (Ok w) = w.disk
disk_of (Err e) = e.1

-- The place of the closed gate after the journal, or that reason.
abbrev pub end_of : {G D : Type 0} → Result (Journaled G D) (NotOpened × D) → Result ℕ NotOpened
end_of (Ok w) = Ok w.end
end_of (Err e) = Err e.0
