-- What becomes of an input whose game is kept.
use Rattle.std.proofs.Common.{◌≡◌, inr, ℕ, ◌+◌, ◌≤◌, ◌==◌, false, true, List, [], ◌++◌, length, refl, ap, sym, ◌∙◌, subst, arith}
use Rattle.std.specs.Prelude.{Option, Some, None, Result, Err}
use Rattle.std.specs.Io.KnownBytes.{Consumes, IsAtEnd}
use Rattle.std.proofs.KnownBytes.{Keeps-refl}
use Rattle.std.proofs.lemmas.Bool.Decides.{nat_tests}
use Rattle.mj_links.specs.Sources.{TakesOver}
use Rattle.mj_ports.specs.declared.entry.Entry.{Entry}
use Rattle.mj_deeds.specs.declared.answer.Answer.{Answer}
use Rattle.mj_wall.specs.declared.setting.Setting.{Setting}
use Rattle.mj_history.specs.Legal.{Game}
use Rattle.mj_history.specs.Arrivals.{input_of}
use Rattle.mj_journal.specs.Disks.{Only, LeavesOnly, SyncsOnly}
use Rattle.mj_journal.specs.Looking.{OnlyLooks}
use Rattle.mj_journal.specs.Openings.{Opening, Fresh, Other, Bad, is_fresh, IsNewOrTag}
use Rattle.mj_journal.specs.Founding.{IsInPlay, OpensGame, OpensAs}
use Rattle.mj_journal.specs.Journals.{IsAtRest}
use Rattle.mj_journal.specs.Playing.{opens}
use Rattle.mj_journal.specs.Keeping.{game_of, end_of, IfKept, TellsGame, TellsOn}
use Rattle.mj_journal.specs.declared.kept.Kept.{Kept}
use Rattle.mj_journal.specs.declared.not_opened.NotOpened.{NotOpened}
use Rattle.mj_journal.specs.declared.not_opened.NotOpened.TheVariants as not_opened
use Rattle.mj_refereeing.specs.declared.intake.End.{End}
use Rattle.mj_refereeing.specs.declared.intake.End.TheVariants as known
use Rattle.mj_refereeing.specs.declared.keep.KeepEnd.{KeepEnd}
use Rattle.mj_refereeing.specs.declared.keep.KeepEnd.TheVariants as ends
use Rattle.mj_runs.specs.Inputs.{longest, IsRead}
use Rattle.mj_refereeing.specs.Referee.{ending}
use Rattle.mj_refereeing.specs.declared.watched.Watched.{Watched}
use Rattle.mj_refereeing.specs.Keep.{Base, Gives, GivesFront, IsSafe, base_of, play_of, opens_for, KeepsInput, KeepsAll, KeepsWhole, KeepsPart, LosesNothing, IsRefused}
use Rattle.mj_refereeing.specs.Statuses.{keep_status}
use Rattle.mj_runs.specs.Faults.{CountsDiskFaults}
use Rattle.mj_refereeing.specs.Inner.Keeping.{GoesOn, IsPlayed, KeepsOn, StaysSafe, WritesScript}
use Rattle.mj_refereeing.proofs.NoteLaws.{setting_in, entries_in}
use Rattle.mj_journal.proofs.Moments.{goes_on, weaker}
use Rattle.mj_refereeing.proofs.Fronts.{front-all, front-more}
use Rattle.mj_refereeing.proofs.SafeLaws.{gives-one, unopened-safe, other-fresh, opened-goes, opened-gives}

abbrev Entries : Type 0
Entries = List (Entry Answer)

abbrev Bytes : Type 0
Bytes = List ℕ

module _ {D : Type 0} (told : D → Option Bytes) (may_leave : D → Bytes → Type 0) (moment : D → ℕ) (secured_since : D → ℕ → Bytes → Type 0) (seat : ℕ) (base : Base) (input : Bytes)
    (founds : base_of input ≡ Some base) (old : D) where
  -- Once the journal was opened.
  module _ (kept : Entries) (old_written new_written : Option Bytes) (mid new : D) (had : (bytes : Bytes) → told old ≡ Some bytes →
      Gives (opens_for base bytes) kept) (on : TellsOn (told old) (told mid))
      (before : (bytes : Bytes) (found : Entries) → told old ≡ Some bytes → Only bytes (may_leave old) → Gives (opens_for base bytes) found
      → SyncsOnly moment secured_since old mid (λ image. Gives (opens_for base image) found)) where
    -- What the syncs before put on the disk too.
    safe-on : (found : Entries) → SyncsOnly moment secured_since old mid (λ image. Gives (opens_for base image) found)
        → IsSafe may_leave moment secured_since base found input mid new → IsSafe may_leave moment secured_since base found input old new
    safe-on found first s = record {
      made = s.made;
      next = s.next;
      later = s.later;
      all = s.all;
      one = s.one;
      each = s.each;
      acknowledged =
          goes_on moment secured_since old mid new (λ image. GivesFront (opens_for base image) (found ++ s.made)) _
          (weaker moment secured_since old mid _ _ first
          (λ image g. front-more (opens_for base image) found (found ++ s.made) (record { rest = s.made; is = refl }) (front-all (opens_for base image) found g)))
          s.acknowledged (λ image f. f);
    }

    safe_since : StaysSafe told may_leave moment secured_since base kept input mid new → LosesNothing told may_leave moment secured_since (base_of input) input old new
    safe_since safe =
        subst (λ (o : Option Base). LosesNothing told may_leave moment secured_since o input old new) (sym founds)
        (λ bytes found is only gives.
        let b = on bytes is in
        safe-on found (before bytes found is only gives)
        (subst (λ (es : Entries). IsSafe may_leave moment secured_since base es input mid new) (gives-one (opens_for base bytes) kept found (had bytes is) gives) (safe b.0 b.1)))

    pub keeps_input : (end : KeepEnd) → KeepsOn told may_leave moment secured_since end base seat kept input old_written new_written mid new
        → KeepsInput told may_leave moment secured_since end seat input old_written new_written old new
    keeps_input (ends.Told e) k =
        subst (λ (o : Option Base). KeepsWhole told may_leave o (ending e) seat input old_written new_written old new) (sym founds)
        (record { kept = kept; had = had; ends = k.ends; tells = k.tells; stands = λ bytes is. let b = on bytes is in k.stands b.0 b.1 })
    keeps_input ends.WriteFault k =
        subst (λ (o : Option Base). KeepsPart told may_leave o seat input old_written new_written old new) (sym founds)
        (record { kept = kept; had = had; ends = k.ends; tells = k.tells; stands = λ bytes is. let b = on bytes is in k.stands b.0 b.1 })
    keeps_input ends.DiskFault k = (k.0, safe_since k.1)
    keeps_input ends.NoMemory k = (k.0, inr (safe_since k.1))
    keeps_input ends.OtherGame k = absurd k
    keeps_input (ends.BadJournal place) k = absurd k
    keeps_input ends.ReadFault k = absurd k
    keeps_input ends.TooLong k = absurd k

  -- Where it wasn't opened.
  module _ (left_since : D → ℕ → Bytes → Type 0) (counts_now : (disk : D) (t : ℕ) (image : Bytes) → t ≤ moment disk →
      may_leave disk image → left_since disk t image) (written : Option Bytes) (new : D)
      (looks : (bytes : Bytes) → told old ≡ Some bytes → is_fresh bytes ≡ false → OnlyLooks told may_leave moment left_since secured_since old new)
      (any_moment : (bytes : Bytes) → told old ≡ Some bytes → is_fresh bytes ≡ true → Only bytes (may_leave old) → LeavesOnly moment left_since old new (IsNewOrTag base.tag))
      (syncs : (bytes : Bytes) → told old ≡ Some bytes → is_fresh bytes ≡ true → Only bytes (may_leave old) → SyncsOnly moment secured_since old new (IsNewOrTag base.tag)) where
    loses_nothing : LosesNothing told may_leave moment secured_since (base_of input) input old new
    loses_nothing =
        subst (λ (o : Option Base). LosesNothing told may_leave moment secured_since o input old new) (sym founds)
        (λ bytes kept is only gives. unopened-safe told may_leave moment left_since secured_since counts_now base input old new looks any_moment syncs bytes kept is only gives)

    pub failed_open : KeepsInput told may_leave moment secured_since ends.DiskFault seat input written written old new
    failed_open = (Keeps-refl written, loses_nothing)

    pub wanting_open : KeepsInput told may_leave moment secured_since ends.NoMemory seat input written written old new
    wanting_open = (Keeps-refl written, inr loses_nothing)

    refused_by : (why : Opening Entries) → (why ≡ Fresh → ⊥) → ((bytes : Bytes) → told old ≡ Some bytes → opens_for base bytes ≡ why) → IsRefused told may_leave (base_of input) why old new
    refused_by why not_new is_so =
        subst (λ (o : Option Base). IsRefused told may_leave o why old new) (sym founds)
        (λ bytes is.
        let so = is_so bytes is in
        let seen = looks bytes is (other-fresh told may_leave moment left_since secured_since counts_now base input old new looks any_moment syncs bytes why not_new so) in
        (so, seen.reads, seen.crash))

    pub other_open : ((bytes : Bytes) → told old ≡ Some bytes → opens_for base bytes ≡ Other) → KeepsInput told may_leave moment secured_since ends.OtherGame seat input written written old new
    other_open is_so = (Keeps-refl written, refused_by Other (λ e. absurd (cc e)) is_so)

    pub bad_open : (place : ℕ) → ((bytes : Bytes) → told old ≡ Some bytes → opens_for base bytes ≡ Bad place)
        → KeepsInput told may_leave moment secured_since (ends.BadJournal place) seat input written written old new
    bad_open place is_so = (Keeps-refl written, refused_by (Bad place) (λ e. absurd (cc e)) is_so)

-- What becomes of an input that was read.
module _ {D : Type 0} (told : D → Option Bytes) (may_leave : D → Bytes → Type 0) (moment : D → ℕ) (secured_since : D → ℕ → Bytes → Type 0) (seat : ℕ)
    (old_left new_left old_written new_written : Option Bytes) (old new : D) where
  read-is : (start input : Bytes) (limit : ℕ) → start ≡ [] → limit ≡ longest → TakesOver old_left new_left start input → IsAtEnd new_left →
      length input ≤ length start + limit → IsRead old_left new_left input
  read-is start input limit none is takes ends fits = record {
    taken = subst (Consumes old_left new_left) (sym (takes.added ∙ ap (λ (s : Bytes). s ++ takes.bytes) none)) takes.taken;
    all = ends;
    fits = omega (arith, ap length none, is, fits);
  }

  by-end : (end : KeepEnd) (input : Bytes) → IsRead old_left new_left input → KeepsInput told may_leave moment secured_since end seat input old_written new_written old new
      → KeepsAll told may_leave moment secured_since end seat old_left new_left old_written new_written old new
  by-end (ends.Told e) input read does = record { input = input; read = read; does = does }
  by-end ends.WriteFault input read does = record { input = input; read = read; does = does }
  by-end ends.DiskFault input read does = record { input = input; read = read; does = does }
  by-end ends.OtherGame input read does = record { input = input; read = read; does = does }
  by-end (ends.BadJournal place) input read does = record { input = input; read = read; does = does }
  by-end ends.NoMemory input read does = inr (record { input = input; read = read; does = does })
  by-end ends.ReadFault input read does = absurd does
  by-end ends.TooLong input read does = absurd does

  pub keeps-all : (end : KeepEnd) (start input seen : Bytes) (limit : ℕ) → start ≡ [] → limit ≡ longest → seen ≡ input →
      TakesOver old_left new_left start input × IsAtEnd new_left × (length input ≤ length start + limit)
      → KeepsInput told may_leave moment secured_since end seat seen old_written new_written old new
      → KeepsAll told may_leave moment secured_since end seat old_left new_left old_written new_written old new
  keeps-all end start input seen limit none is same read does =
      by-end end input (read-is start input limit none is read.0 read.1 read.2)
      (subst (λ (i : Bytes). KeepsInput told may_leave moment secured_since end seat i old_written new_written old new) same does)

-- An input that founds no game.
pub keeps-nothing : {D : Type 0} (told : D → Option Bytes) (may_leave : D → Bytes → Type 0) (moment : D → ℕ) (secured_since : D → ℕ → Bytes → Type 0) (seat : ℕ) (input : Bytes) (end : End)
    (written : Option Bytes) (disk : D) → (base_of input ≡ None) × ((input_of input).ending ≡ ending end)
    → KeepsInput told may_leave moment secured_since (ends.Told end) seat input written written disk disk
keeps-nothing told may_leave moment secured_since seat input end written disk is =
    subst (λ (o : Option Base). KeepsWhole told may_leave o (ending end) seat input written written disk disk) (sym is.0) (record { ends = is.1; unwritten = Keeps-refl written; untouched = refl })

-- A journal that was opened, and what then becomes of the lines after the tag.
module _ {D : Type 0} (told : D → Option Bytes) (may_leave : D → Bytes → Type 0) (moment : D → ℕ) (secured_since : D → ℕ → Bytes → Type 0) (seat : ℕ) (base : Base) (input : Bytes)
    (founds : base_of input ≡ Some base) (old mid new : D) (kept : Kept Watched) (old_written new_written : Option Bytes)
    (w : Watched) (start : w.core.game ≡ record { setting = base.setting; entries = [] }) (of_seat : w.core.seat ≡ seat) (wall : (length base.setting.walls == 0) ≡ false) where
  same : w.core.game.setting ≡ base.setting
  same = ap (λ (g : Game). g.setting) start

  both : setting_in w ≡ (base.setting, seat)
  both = λ i. (same i, of_seat i)

  pub keeps-opened : IsInPlay setting_in (setting_in w) (game_of kept) → ((bytes : Bytes) → told old ≡ Some bytes →
      OpensGame setting_in entries_in (setting_in w) (opens (play_of w.core.game.setting) base.tag bytes) (game_of kept) (end_of kept))
      → TellsOn (told old) (told mid)
      → ((bytes : Bytes) (found : Entries) → told old ≡ Some bytes → Only bytes (may_leave old) → Gives (opens_for base bytes) found
      → SyncsOnly moment secured_since old mid (λ image. Gives (opens_for base image) found))
      → IsAtRest (told mid) (may_leave mid) (end_of kept) →
      IfKept (game_of kept) (λ v. TellsGame (opens (play_of w.core.game.setting) base.tag) (told mid) v.core.game.entries (end_of kept)) → (end : KeepEnd)
      → ((game : Game) → base.setting ≡ game.setting → GoesOn told may_leave base.tag seat kept mid game
      → KeepsOn told may_leave moment secured_since end base seat game.entries input old_written new_written mid new)
      → KeepsInput told may_leave moment secured_since end seat input old_written new_written old new
  keeps-opened play opened on before rest tells end does =
      let play_now = subst (λ (s : Setting × ℕ). IsInPlay setting_in s (game_of kept)) both play in
      let tells_now = subst (λ (s : Setting). IfKept (game_of kept) (λ v. TellsGame (opens (play_of s) base.tag) (told mid) v.core.game.entries (end_of kept))) same tells in
      let o = opened-goes told may_leave base.tag seat base.setting kept mid wall rest play_now tells_now in
      let had = λ (bytes : Bytes) (is : told old ≡ Some bytes).
      opened-gives (opens_for base bytes) base.setting seat kept o.game o.is
      (subst (λ (s : Setting × ℕ). OpensGame setting_in entries_in s (opens (play_of s.0) base.tag bytes) (game_of kept) (end_of kept)) both (opened bytes is)) in
      keeps_input told may_leave moment secured_since seat base input founds old o.game.entries old_written new_written mid new had on before end (does o.game (sym o.same) o.goes)

-- How the disk opens for a watched game without entries.
pub opened-as : (setting : Setting) (w : Watched) (tag bytes : Bytes) (o : Opening Entries) → w.core.game ≡ record { setting = setting; entries = [] } →
    opens (play_of w.core.game.setting) tag bytes ≡ o → opens (play_of setting) tag bytes ≡ o
opened-as setting w tag bytes o start e = ap (λ (g : Game). opens (play_of g.setting) tag bytes) (sym start) ∙ e

-- So where the journal is another game's, or bad.
module _ (w : Watched) (setting : Setting) (tag bytes : Bytes) (result : Result (Kept Watched) NotOpened) (error : NotOpened)
    (start : w.core.game ≡ record { setting = setting; entries = [] }) (is : result ≡ Err error)
    (opened : OpensAs setting_in entries_in (setting_in w) (opens (play_of w.core.game.setting) tag bytes) result) where
  failed-as : OpensAs setting_in entries_in (setting_in w) (opens (play_of w.core.game.setting) tag bytes) (Err error)
  failed-as = subst (λ (r : Result (Kept Watched) NotOpened). OpensAs setting_in entries_in (setting_in w) (opens (play_of w.core.game.setting) tag bytes) r) is opened

  pub other-as : error ≡ not_opened.OtherGame → opens (play_of setting) tag bytes ≡ Other
  other-as why = opened-as setting w tag bytes Other start
      (subst (λ (e : NotOpened). OpensAs setting_in entries_in (setting_in w) (opens (play_of w.core.game.setting) tag bytes) (Err e)) why failed-as)

  pub bad-as : (place : ℕ) → error ≡ not_opened.BadJournal place → opens (play_of setting) tag bytes ≡ Bad place
  bad-as place why = opened-as setting w tag bytes (Bad place) start
      (subst (λ (e : NotOpened). OpensAs setting_in entries_in (setting_in w) (opens (play_of w.core.game.setting) tag bytes) (Err e)) why failed-as)

-- What writes a script counts no fault of the disk.
pub counts-script : (result : KeepEnd) (end : End) (o : Option Watched) (old_written new_written : Option Bytes) (old new : ℕ) →
    IsPlayed o (Unit {0}) → ((w : Watched) → o ≡ Some w → WritesScript result end w.core.seat w.core.game old_written new_written) → old ≤ new
    → CountsDiskFaults (keep_status result) old new
counts-script (ends.Told known.Whole) end o ow nw old new played writes more = more
counts-script (ends.Told (known.Bad line)) end o ow nw old new played writes more = more
counts-script ends.WriteFault end o ow nw old new played writes more = more
counts-script ends.DiskFault end None ow nw old new played writes more = absurd played
counts-script ends.DiskFault end (Some w) ow nw old new played writes more = absurd (writes w refl)
counts-script ends.OtherGame end o ow nw old new played writes more = more
counts-script (ends.BadJournal place) end o ow nw old new played writes more = more
counts-script ends.ReadFault end o ow nw old new played writes more = more
counts-script ends.TooLong end o ow nw old new played writes more = more
counts-script ends.NoMemory end o ow nw old new played writes more = more

pub some-wall : (n : ℕ) → 1 ≤ n → (n == 0) ≡ false
some-wall n h = grind (arith, nat_tests, h)
