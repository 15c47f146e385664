-- What the command `host` does: games are played at tables by whoever connects, from where their journals end, and their
-- records are written.
use Rattle.std.specs.Prelude.{◌≡◌, ◌⊎◌, ℕ, ◌+◌, ◌<◌, ◌≤◌, List, length, Option, Some, slice_get}
use Rattle.std.specs.Io.KnownBytes.{Appends, Keeps}
use Rattle.mj_links.specs.Sinks.{WritesPrefix}
use Rattle.mj_ports.specs.declared.entry.Entry.{Entry}
use Rattle.mj_deeds.specs.declared.answer.Answer.{Answer}
use Rattle.mj_wall.specs.declared.setting.Setting.{Setting}
use Rattle.mj_history.specs.Legal.{Game}
use Rattle.mj_journal.specs.Openings.{Opening, Bad}
use Rattle.mj_words.specs.Asked.{ServedWith}
use Rattle.mj_served.specs.Plans.{TableGame}
use Rattle.mj_hosting.specs.declared.rooms.Rooms.{Rooms}
use Rattle.mj_hosting.specs.Plans.{table_setting}
use Rattle.mj_hosting.specs.Plays.{Outside, NotOpened, Plays, AreAbandoned, have_ended}
use Rattle.mj_hosting.specs.Rooms.{handlers_for, plan_from}
use Rattle.mj_written.specs.Authors.{IsOther}
use Rattle.mj_durable.specs.Journals.{opens_game, resumed, HasKept, IsDurable, LosesNothing}
use Rattle.mj_durable.specs.declared.hosting.HostEnd.{HostEnd}
use Rattle.mj_durable.specs.declared.hosting.HostEnd.TheVariants as ends

-- The authors of the workers at the rooms: the handlers, and the ticker, which has the number after theirs.
abbrev pub authors_for : Rooms → ℕ
authors_for rooms = handlers_for rooms + 1

-- Of some table this is so: of its setting, of its disk before the run, and of that after it.
pub record SomeTable {D : Type 0} (P : Setting → D → D → Type 0) (s : ServedWith) (old new : List D) : Type 0 where
  pub table : ℕ
  pub was : D
  pub now : D
  pub was_is : slice_get old table ≡ Some was
  pub now_is : slice_get new table ≡ Some now
  pub so : P (table_setting s table) was now

module _ {D : Type 0} (told : D → Option (List ℕ)) (disk_faults : D → ℕ) where
  -- Some disk failed.
  abbrev pub SomeFailed : ServedWith → List D → List D → Type 0
  SomeFailed s old new = SomeTable (λ setting was now. disk_faults was < disk_faults now) s old new

  -- Some journal opened so.
  abbrev pub SomeOpened : (Opening (List (Entry Answer)) → Type 0) → ServedWith → List D → List D → Type 0
  SomeOpened Opened s old new = SomeTable (λ setting was now. (bytes : List ℕ) → told was ≡ Some bytes → Opened (opens_game setting bytes)) s old new

module _ {L F D : Type 0} (read left written : L → Option (List ℕ)) (read_faults write_faults : L → ℕ) (made : F → Type 0) (number : F → ℕ)
    (told : D → Option (List ℕ)) (may_leave : D → List ℕ → Type 0) (moment : D → ℕ) (left_since secured_since : D → ℕ → List ℕ → Type 0) (disk_faults : D → ℕ) where
  -- The journals kept entries of the games, and all games were played from there on, over links whose scripts are those of the
  -- one history, from the first entry to the last; and each game outlives any stop.
  pub record HostsGames (IsWritten : List ℕ → Type 0) (Ends : List Game → Type 0) (rooms : Rooms) (s : ServedWith) (old new : Outside L) (were disks : List D) : Type 0 where
    pub kept : ℕ → List (Entry Answer)
    pub plays : Plays read left written read_faults write_faults made number IsWritten Ends (plan_from rooms s (λ t. resumed (table_setting s t) (kept t))) old new
    pub had : (t : ℕ) (was : D) → slice_get were t ≡ Some was → HasKept told (table_setting s t) (authors_for rooms) (kept t) was
    pub durable : (t : ℕ) (table : TableGame L) (was now : D) → slice_get plays.tables t ≡ Some table → slice_get were t ≡ Some was → slice_get disks t ≡ Some now
        → IsDurable told may_leave moment left_since secured_since (table_setting s t) table.game.entries was now

  -- The host was not opened, and each journal has what it kept.
  pub record HostsNothing (rooms : Rooms) (s : ServedWith) (old new : Outside L) (were disks : List D) : Type 0 where
    pub not_opened : NotOpened made number s.port old new
    pub kept : ℕ → List (Entry Answer)
    pub had : (t : ℕ) (was : D) → slice_get were t ≡ Some was → HasKept told (table_setting s t) (authors_for rooms) (kept t) was
    pub durable : (t : ℕ) (was now : D) → slice_get were t ≡ Some was → slice_get disks t ≡ Some now
        → IsDurable told may_leave moment left_since secured_since (table_setting s t) (kept t) was now

  -- What the command does, by its end. After a fault of a disk, and where memory is wanting, nothing is written; a journal that
  -- is another game's, or bad, leaves all as it is.
  abbrev pub Hosts : HostEnd → Rooms → ServedWith → Outside L → Outside L → List D → List D → Type 0
  Hosts ends.Over rooms s old new were disks = HostsGames (Appends old.written new.written) have_ended rooms s old new were disks
  Hosts ends.HostLost rooms s old new were disks =
      HostsGames (Appends old.written new.written) (AreAbandoned read left written read_faults write_faults made number (handlers_for rooms)) rooms s old new were disks
  Hosts ends.WriteFault rooms s old new were disks =
      HostsGames (WritesPrefix old.written new.written)
      (λ games. have_ended games ⊎ AreAbandoned read left written read_faults write_faults made number (handlers_for rooms) games) rooms s old new were disks
  Hosts ends.NotOpened rooms s old new were disks = HostsNothing rooms s old new were disks
  Hosts ends.DiskFault rooms s old new were disks = Keeps old.written new.written × SomeFailed told disk_faults s were disks
  Hosts ends.OtherGame rooms s old new were disks = (new ≡ old) × SomeOpened told disk_faults (IsOther (authors_for rooms)) s were disks
  Hosts (ends.BadJournal place) rooms s old new were disks = (new ≡ old) × SomeOpened told disk_faults (λ opening. opening ≡ Bad place) s were disks
  Hosts ends.NoMemory rooms s old new were disks = Keeps old.written new.written

module _ {D : Type 0} (told : D → Option (List ℕ)) (may_leave : D → List ℕ → Type 0) (moment : D → ℕ) (left_since : D → ℕ → List ℕ → Type 0) (disk_faults : D → ℕ) where
  -- Whatever the end: no journal loses anything, at any moment, and no disk's count of faults fell.
  pub record LosesNone (s : ServedWith) (were disks : List D) : Type 0 where
    pub many : length disks ≡ length were
    pub each : (t : ℕ) (was now : D) → slice_get were t ≡ Some was → slice_get disks t ≡ Some now
        → LosesNothing told may_leave moment left_since (table_setting s t) was now × (disk_faults was ≤ disk_faults now)
