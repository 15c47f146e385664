-- Games that are opened from their journals, go on, and are closed again.
use Rattle.std.specs.Prelude.{◌≡◌, ℕ, ◌^◌, ◌<◌, ◌≤◌, true, false, List, [], ◌∷◌, length, Option, Some, None, slice_get, All}
use Rattle.mj_ports.specs.declared.answers.Left.{Left}
use Rattle.mj_ports.specs.declared.answers.Left.TheVariants as left
use Rattle.mj_ports.specs.Entries.{author_of}
use Rattle.mj_ports.specs.declared.seated.Seated.{Ghosts}
use Rattle.mj_wall.specs.declared.setting.Setting.{Setting}
use Rattle.mj_forms.specs.AnswerForms.{answer_of, join_of}
use Rattle.mj_history.specs.After.{after}
use Rattle.mj_history.specs.Legal.{Game, IsLegal, is_over}
use Rattle.mj_history.specs.Shown.{shown_of, sits_of, hears_of, control_line}
use Rattle.mj_journal.specs.Disks.{LeavesOnly, SyncsOnly, Only}
use Rattle.mj_journal.specs.Keeping.{TellsOn}
use Rattle.mj_journal.specs.Looking.{OnlyLooks}
use Rattle.mj_journal.specs.Openings.{is_fresh, IsNewOrTag}
use Rattle.mj_journal.specs.Playing.{opens}
use Rattle.mj_journal.specs.declared.not_opened.NotOpened.{NotOpened}
use Rattle.mj_journal.specs.declared.not_opened.NotOpened.TheVariants as not_opened
use Rattle.mj_ticker.specs.Beside.{Beside}
use Rattle.mj_session.specs.Wires.{at_link}
use Rattle.mj_handlers.specs.declared.visit.Session.{Session}
use Rattle.mj_handlers.specs.Picks.{sits_at}
use Rattle.mj_seats.specs.Workers.{IsPlayedBy}
use Rattle.mj_words.specs.Asked.{ServedWith}
use Rattle.mj_hosting.specs.declared.plays.ServeEnd.{ServeEnd}
use Rattle.mj_hosting.specs.declared.plays.ServeEnd.TheVariants as serving
use Rattle.mj_hosting.specs.declared.rooms.Rooms.{Rooms}
use Rattle.mj_hosting.specs.Plans.{table_setting}
use Rattle.mj_hosting.specs.Rooms.{count_of, handlers_for, picked_for}
use Rattle.mj_refereeing.specs.Keep.{play_of}
use Rattle.mj_written.specs.Authors.{IsReason}
use Rattle.mj_written.specs.Writing.{Journaled, IsWritten}
use Rattle.mj_written.specs.declared.stop.Stop.{Stop}
use Rattle.mj_written.specs.declared.written.WrittenSetting.{WrittenSetting}
use Rattle.mj_written.specs.declared.stop.Stop.TheVariants.{DiskFault, NoMemory}
use Rattle.mj_durable.specs.Host.{authors_for}
use Rattle.mj_durable.specs.Journals.{tag_of, opens_game, gone_on, resumed, HasKept, LosesNothing}
use Rattle.mj_durable.specs.declared.hosting.HostEnd.{HostEnd}
use Rattle.mj_durable.specs.declared.hosting.HostEnd.TheVariants as hosting

-- A game without entries, whose journal can be opened.
pub record IsUnplayed (game : Game) : Type 0 where
  pub none : game.entries ≡ []
  pub short : length (tag_of game.setting) < 2 ^ 32

-- What is shown of a written game: what is shown of the game.
abbrev pub written_as : {G S A R D : Type 0} → Ghosts G S A R → Ghosts (Journaled G D) (WrittenSetting S G D) A R
written_as g = record {
  setting = λ w. record { game = g.setting w.game; began = w.began; opened = w.opened; tag = w.tag };
  history = λ w. g.history w.game;
  reads = g.reads;
  joins = g.joins;
  after = λ p. g.after p.game;
  is_legal = λ p. g.is_legal p.game;
  sits = λ p. g.sits p.game;
  hears = λ p. g.hears p.game;
  expires = λ p. g.expires p.game;
  says = g.says;
}

-- A game goes on from where its journal ended; where memory was wanting its setting is the same.
abbrev pub GoesOn : {G S A R : Type 0} → Ghosts G S A R → Left → G → G → Type 0
GoesOn g left.Gone old new = (g.setting new ≡ g.setting old) × (g.history new ≡ gone_on (g.after (g.setting old)) (g.history old))
GoesOn g left.NoMemory old new = g.setting new ≡ g.setting old

-- The game of a setting with which one goes on that kept entries.
abbrev pub resumed_game : Game → Game
resumed_game game = record { setting = game.setting; entries = resumed game.setting game.entries }

-- The worse of two reasons why games are stopped.
abbrev pub worse : Option Stop → Option Stop → Option Stop
worse None other = other
worse (Some DiskFault) other = Some DiskFault
worse (Some NoMemory) None = Some NoMemory
worse (Some NoMemory) (Some DiskFault) = Some DiskFault
worse (Some NoMemory) (Some NoMemory) = Some NoMemory

-- Why some of the games are stopped; None where all go on.
abbrev pub stop_in : {D : Type 0} → List (Journaled Game D) → Option Stop
stop_in [] = None
stop_in (w ∷ ws) = worse w.stop (stop_in ws)

-- The end of a command whose games are written, by that of one whose games are not.
abbrev pub by_serving : ServeEnd → HostEnd
by_serving serving.Over = hosting.Over
by_serving serving.HostLost = hosting.HostLost
by_serving serving.NotOpened = hosting.NotOpened
by_serving serving.WriteFault = hosting.WriteFault
by_serving serving.NoMemory = hosting.NoMemory

abbrev pub by_reason : NotOpened → HostEnd
by_reason not_opened.DiskFault = hosting.DiskFault
by_reason not_opened.OtherGame = hosting.OtherGame
by_reason (not_opened.BadJournal place) = hosting.BadJournal place
by_reason not_opened.NoMemory = hosting.NoMemory

-- All games are over.
abbrev pub AreOver : {D : Type 0} → List (Journaled Game D) → Type 0
AreOver games = All (λ w. is_over (after w.game.setting w.game.entries).deeds ≡ true) games

-- The author of each entry of each is below a number.
abbrev pub AreBelow : {D : Type 0} → ℕ → List (Journaled Game D) → Type 0
AreBelow authors games = All (λ w. All (λ e. author_of e < authors) w.game.entries) games

module _ {D : Type 0} where
  -- What stays the same of a written game.
  pub record IsSamePage (old new : Journaled Game D) : Type 0 where
    pub setting : new.game.setting ≡ old.game.setting
    pub began : new.began ≡ old.began
    pub opened : new.opened ≡ old.opened
    pub tag : new.tag ≡ old.tag

  -- A written game goes on from where its journal ended; where memory was wanting its page is the same.
  abbrev pub Resumes : Left → Journaled Game D → Journaled Game D → Type 0
  Resumes left.Gone old new = IsSamePage old new × (new.game.entries ≡ resumed old.game.setting old.game.entries)
  Resumes left.NoMemory old new = IsSamePage old new

module _ {L : Type 0} (read left written : L → Option (List ℕ)) (read_faults write_faults : L → ℕ) where
  -- What comes of a game that was played at this table of the rooms.
  abbrev pub IsPlayedAs : Rooms → Option (List ℕ) → Option (List ℕ) → ℕ → Game → Game → List (Session L) → Type 0
  IsPlayedAs rooms old_readings new_readings t was game sessions =
      (game.setting ≡ was.setting) × IsLegal was.setting game.entries
      × IsPlayedBy (shown_of was.setting) answer_of join_of (sits_at (picked_for rooms) t (sits_of was.setting))
      (λ before author seat answer. hears_of was.setting before seat answer) control_line (at_link read left written read_faults write_faults)
      (handlers_for rooms) was.entries game.entries sessions old_readings new_readings

  -- So were the games in these places, each from where its journal ended.
  abbrev pub ArePlayedOn : {D : Type 0} → Rooms → Option (List ℕ) → Option (List ℕ) → List (Journaled Game D) → List (Journaled Game D) → List (List (Session L)) → Type 0
  ArePlayedOn rooms old_readings new_readings ws finals rows = Beside (λ t w final sessions. IsPlayedAs rooms old_readings new_readings t (resumed_game w.game) final.game sessions) ws finals rows

module _ {D : Type 0} (told : D → Option (List ℕ)) (may_leave : D → List ℕ → Type 0) (moment : D → ℕ) (left_since secured_since : D → ℕ → List ℕ → Type 0) (disk_faults : D → ℕ) where
  -- What is known of a written game.
  abbrev pub IsKept : Journaled Game D → Type 0
  IsKept w = IsWritten told may_leave moment left_since secured_since disk_faults (opens (play_of w.game.setting) w.tag) w.began.entries w.game.entries w.opened w.disk w.end w.stop

  -- A written game was opened on this disk, by authors below a number.
  pub record IsOpenedOn (authors : ℕ) (was : D) (w : Journaled Game D) : Type 0 where
    pub tag : w.tag ≡ tag_of w.game.setting
    pub had : HasKept told w.game.setting authors w.began.entries was
    pub on : TellsOn (told was) (told w.opened)
    pub looks : (bytes : List ℕ) → told was ≡ Some bytes → is_fresh bytes ≡ false → OnlyLooks told may_leave moment left_since secured_since was w.opened
    pub fresh : (bytes : List ℕ) → told was ≡ Some bytes → is_fresh bytes ≡ true → Only bytes (may_leave was) → LeavesOnly moment left_since was w.opened (IsNewOrTag w.tag)
    pub syncs : (bytes : List ℕ) → told was ≡ Some bytes → is_fresh bytes ≡ true → Only bytes (may_leave was) → SyncsOnly moment secured_since was w.opened (IsNewOrTag w.tag)
    pub faults : disk_faults was ≤ disk_faults w.opened

  -- The game of a setting was just opened so.
  pub record IsOpening (authors : ℕ) (s : Setting) (was : D) (w : Journaled Game D) : Type 0 where
    pub setting : w.game.setting ≡ s
    pub opened : IsOpenedOn authors was w
    pub began : w.began ≡ w.game
    pub goes : w.stop ≡ None

  -- So were all games, each on the disk in its place.
  abbrev pub AreOpening : ℕ → List Game → List D → List (Journaled Game D) → Type 0
  AreOpening authors cores were games = Beside (λ t core was w. IsOpening authors core.setting was w) cores were games

  -- A reason why a journal was not opened is right.
  abbrev pub IsRight : ℕ → NotOpened → Setting → D → D → Type 0
  IsRight authors not_opened.DiskFault s was now = disk_faults was < disk_faults now
  IsRight authors why s was now = (bytes : List ℕ) → told was ≡ Some bytes → IsReason authors (opens_game s bytes) why

  -- A disk came back, and its journal lost nothing.
  pub record IsBack (s : Setting) (was now : D) : Type 0 where
    pub lost : LosesNothing told may_leave moment left_since s was now
    pub faults : disk_faults was ≤ disk_faults now

  -- All disks are back, since the journal in one place was not opened.
  pub record AreBack (authors : ℕ) (why : NotOpened) (cores : List Game) (were disks : List D) : Type 0 where
    pub all : Beside (λ t core was now. IsBack core.setting was now) cores were disks
    pub table : ℕ
    pub core : Game
    pub was : D
    pub now : D
    pub core_is : slice_get cores table ≡ Some core
    pub was_is : slice_get were table ≡ Some was
    pub now_is : slice_get disks table ≡ Some now
    pub right : IsRight authors why core.setting was now

  -- The games of the rooms were opened, each on the disk in its place.
  pub record AreOpenFor (rooms : Rooms) (s : ServedWith) (were : List D) (games : List (Journaled Game D)) : Type 0 where
    pub many : length games ≡ count_of rooms
    pub disks : length were ≡ count_of rooms
    pub each : (t : ℕ) (was : D) (w : Journaled Game D) → slice_get were t ≡ Some was → slice_get games t ≡ Some w → IsOpening (authors_for rooms) (table_setting s t) was w
