-- What a run of `keep` leaves of its journal.
use Rattle.std.proofs.Common.{◌≡◌, inl, inr, ⊎_elim, ℕ, ◌≤◌, ◌==◌, Bool, true, false, List, [], ◌∷◌, ◌++◌, length, refl, ap, sym, ◌∙◌, subst, arith, append-nil}
use Rattle.std.specs.Prelude.{Option, Some, None}
use Rattle.std.specs.Io.KnownBytes.{Appends}
use Rattle.mj_links.specs.Sinks.{WritesPrefix}
use Rattle.mj_bytes.specs.Parts.{whole_lines, unfinished}
use Rattle.mj_ports.specs.declared.entry.Entry.{Entry}
use Rattle.mj_deeds.specs.declared.answer.Answer.{Answer}
use Rattle.mj_wall.specs.declared.setting.Setting.{Setting}
use Rattle.mj_history.specs.After.{scripts}
use Rattle.mj_history.specs.Legal.{Game, IsLegal}
use Rattle.mj_history.specs.Arrivals.{Input, Ending, intake_from, game_of as game_read}
use Rattle.mj_history.proofs.Fitting.{legal_games_are_played}
use Rattle.mj_history.proofs.Windows.{windows_decide}
use Rattle.mj_secrecy.proofs.OneWorld.{agreeing_scripts}
use Rattle.mj_journal.specs.Disks.{Only, LeavesOnly, SyncsOnly}
use Rattle.mj_journal.specs.Journals.{IsAtRest}
use Rattle.mj_journal.specs.Looking.{OnlyLooks}
use Rattle.mj_journal.specs.Openings.{Opening, Fresh, Other, Bad, Open, is_fresh, IsNewOrTag}
use Rattle.mj_journal.specs.Playing.{opens}
use Rattle.mj_journal.specs.Founding.{GivesEntries, IsInPlay, OpensGame}
use Rattle.mj_journal.specs.Keeping.{game_of, end_of, IfKept, TellsGame, OpensTo, OpensWith}
use Rattle.mj_journal.specs.declared.kept.Kept.{Kept}
use Rattle.mj_journal.proofs.Firsts.{opens_tag}
use Rattle.mj_journal.proofs.Moments.{weaker}
use Rattle.mj_refereeing.specs.declared.intake.End.{End}
use Rattle.mj_refereeing.specs.declared.keep.KeepEnd.{KeepEnd}
use Rattle.mj_refereeing.specs.declared.keep.KeepEnd.TheVariants as ends
use Rattle.mj_refereeing.specs.declared.watched.Watched.{Watched}
use Rattle.mj_refereeing.specs.Referee.{IsTold, ending}
use Rattle.mj_refereeing.specs.Keep.{Base, Gives, GivesFront, IsSafe, play_of, opens_for, heard_after, intake_after}
use Rattle.mj_refereeing.specs.Inner.Intake.{intake_of}
use Rattle.mj_refereeing.specs.Inner.Keeping.{list_of, GoesOn, NotesEach, NotesPart, WritesScript, KeepsLines, StaysSafe, KeepsOn}
use Rattle.mj_refereeing.proofs.Fronts.{gives-open, front-all}
use Rattle.mj_refereeing.proofs.KeepLaws.{heard-begins}
use Rattle.mj_refereeing.proofs.NoteLaws.{setting_in, entries_in}

abbrev Entries : Type 0
Entries = List (Entry Answer)

-- What a legal game tells a seat, written whole or in part.
pub tells-script : (IsWritten : List ℕ → Type 0) (seat : ℕ) (game : Game) (bytes : List ℕ) → IsLegal game.setting game.entries →
    bytes ≡ scripts seat game.setting game.entries → IsWritten bytes → IsTold IsWritten seat game
tells-script IsWritten seat game bytes legal is written = record {
  bytes = subst IsWritten is written;
  same = λ other agree. sym (agreeing_scripts seat game other agree);
  legal = legal;
  played = legal_games_are_played game.setting game.entries legal;
  decided = windows_decide game.setting game.entries legal;
}

-- So of the game that is watched.
pub script-told : (IsWritten : List ℕ → Type 0) (o : Option Watched) (v w : Watched) (bytes : List ℕ) → o ≡ Some v → o ≡ Some w →
    IsLegal v.core.game.setting v.core.game.entries → bytes ≡ scripts v.core.seat v.core.game.setting v.core.game.entries → IsWritten bytes → IsTold IsWritten w.core.seat w.core.game
script-told IsWritten o v w bytes p q legal is written =
    let found : Some v ≡ Some w = sym p ∙ q in
    let same : v ≡ w = cc found in
    subst (λ (x : Watched). IsTold IsWritten x.core.seat x.core.game) same (tells-script IsWritten v.core.seat v.core.game bytes legal is written)

-- The lines after the tag, as they were heard.
module _ {D : Type 0} (told : D → Option (List ℕ)) (may_leave : D → List ℕ → Type 0) (moment : D → ℕ) (secured_since : D → ℕ → List ℕ → Type 0)
    (base : Base) (seat : ℕ) (input rest : List ℕ) (game : Game) (old new : D) (setting : base.setting ≡ game.setting)
    (lines : base.lines ≡ whole_lines rest) (unread : unfinished input ≡ unfinished rest) where
  heard-same : intake_from (intake_of game) base.number (whole_lines rest) (unfinished rest) ≡ heard_after base game.entries input
  heard-same = rw (← lines, ← unread) (ap (λ (s : Setting). intake_from (intake_after s game.entries) base.number base.lines (unfinished input)) (sym setting))

  opens-same : (image : List ℕ) → opens (play_of game.setting) base.tag image ≡ opens_for base image
  opens-same image = ap (λ (s : Setting). opens (play_of s) base.tag image) (sym setting)

  module _ (IsWritten : List ℕ → Type 0) (Ends : Ending → Type 0) (end : End) (kept : Kept Watched) (n : NotesEach told may_leave moment secured_since base.tag seat end
      game kept old new (intake_from (intake_of game) base.number (whole_lines rest) (unfinished rest))) (ends_so : Ends (ending end)) where
    reading-same : (heard_after base game.entries input).reading ≡ intake_of n.last
    reading-same = ap (λ (i : Input). i.reading) (sym heard-same) ∙ n.reading

    pub keeps-lines : IsTold IsWritten seat n.last → KeepsLines told may_leave IsWritten Ends base seat game.entries input old new
    keeps-lines tells = record {
      ends = subst Ends (sym (ap (λ (i : Input). i.ending) (sym heard-same) ∙ n.ends)) ends_so;
      tells = subst (λ (g : Game). IsTold IsWritten seat g) (sym (ap game_read reading-same)) tells;
      stands = λ bytes is.
          let now = n.on bytes is in record {
            bytes = now.0;
            reads = now.1;
            end = end_of kept;
            opened =
                sym (opens-same now.0) ∙ ap (λ (s : Setting). opens (play_of s) base.tag now.0) (sym n.setting) ∙ n.goes.tells now.0 now.1
                ∙ ap (λ (es : Entries). Open es (end_of kept)) (sym (ap (λ r. r.entries) reading-same));
            only = n.goes.rest.kept now.0 now.1;
          };
    }

  few-list : {E : Type 0} (o : Option E) → length (list_of o) ≤ 1
  few-list None = omega arith
  few-list (Some e) = omega arith

  gives-to : (entries : Entries) (image : List ℕ) → OpensTo (opens (play_of game.setting) base.tag) entries image → Gives (opens_for base image) entries
  gives-to entries image o = gives-open _ entries o.0 (sym (opens-same image) ∙ o.1)

  gives-with : (entries : Entries) (e : Option (Entry Answer)) (image : List ℕ) → OpensWith (opens (play_of game.setting) base.tag) entries e image →
      Gives (opens_for base image) (entries ++ list_of e)
  gives-with entries None image o = absurd o
  gives-with entries (Some e) image o = gives-open _ (entries ++ e ∷ []) o.0 (sym (opens-same image) ∙ o.1)

  safe-syncs : (bytes : List ℕ) → told old ≡ Some bytes → (es : Entries) → SyncsOnly moment secured_since old new (λ image. GivesFront (opens (play_of game.setting) base.tag image) es)
      → SyncsOnly moment secured_since old new (λ image. GivesFront (opens_for base image) es)
  safe-syncs bytes is es syncs = weaker moment secured_since old new _ _ syncs (λ image f. subst (λ (o : Opening Entries). GivesFront o es) (opens-same image) f)

  pub stays-safe : NotesPart told may_leave moment secured_since base.tag game old new (intake_from (intake_of game) base.number (whole_lines rest) (unfinished rest)) →
      StaysSafe told may_leave moment secured_since base game.entries input old new
  stays-safe n bytes is = record {
    made = n.made;
    next = list_of n.next;
    later = n.later;
    all = ap (λ (i : Input). i.reading.entries) (sym heard-same) ∙ n.all;
    one = few-list n.next;
    each = λ image left. ⊎_elim (λ o. inl (gives-to (game.entries ++ n.made) image o)) (λ o. inr (gives-with (game.entries ++ n.made) n.next image o)) (n.each bytes image is left);
    acknowledged = safe-syncs bytes is (game.entries ++ n.made) (n.syncs bytes is);
  }

  pub stays-whole : (end : End) (kept : Kept Watched) → NotesEach told may_leave moment secured_since base.tag seat end game kept old new
      (intake_from (intake_of game) base.number (whole_lines rest) (unfinished rest)) → StaysSafe told may_leave moment secured_since base game.entries input old new
  stays-whole end kept n bytes is =
      let now = n.on bytes is in
      let more = heard-begins (intake_of game) base.number (whole_lines rest) (unfinished rest) in record {
        made = more.rest;
        next = [];
        later = [];
        all = ap (λ (i : Input). i.reading.entries) (sym heard-same) ∙ more.is ∙ sym (append-nil (game.entries ++ more.rest)) ∙ sym (append-nil (game.entries ++ more.rest ++ []));
        one = omega arith;
        each = λ image left.
            inl (gives-open _ _ (end_of kept)
            (sym (opens-same image) ∙ ap (λ (s : Setting). opens (play_of s) base.tag image) (sym n.setting)
            ∙ ap (opens (play_of n.last.setting) base.tag) (n.goes.rest.kept now.0 now.1 image left) ∙ n.goes.tells now.0 now.1
            ∙ ap (λ (es : Entries). Open es (end_of kept)) (sym (ap (λ r. r.entries) n.reading) ∙ more.is)));
        acknowledged =
            safe-syncs bytes is (game.entries ++ more.rest)
            (subst (λ (es : Entries). SyncsOnly moment secured_since old new (λ image. GivesFront (opens (play_of game.setting) base.tag image) es))
            (sym (ap (λ r. r.entries) n.reading) ∙ more.is) (n.syncs bytes is));
      }

  -- By how the run ends once the lines were noted.
  keeps-by : (result : KeepEnd) (end : End) (kept : Kept Watched) (n : NotesEach told may_leave moment secured_since base.tag seat end game kept old new
      (intake_from (intake_of game) base.number (whole_lines rest) (unfinished rest))) (old_written new_written : Option (List ℕ))
      → WritesScript result end seat n.last old_written new_written → KeepsOn told may_leave moment secured_since result base seat game.entries input old_written new_written old new
  keeps-by (ends.Told given) end kept n ow nw writes = keeps-lines (Appends ow nw) (λ e. e ≡ ending given) end kept n (ap ending (sym writes.0)) writes.1
  keeps-by ends.WriteFault end kept n ow nw writes = keeps-lines (WritesPrefix ow nw) (λ e. Unit {0}) end kept n (record {}) writes
  keeps-by ends.NoMemory end kept n ow nw writes = (writes, stays-whole end kept n)
  keeps-by ends.DiskFault end kept n ow nw writes = absurd writes
  keeps-by ends.OtherGame end kept n ow nw writes = absurd writes
  keeps-by (ends.BadJournal place) end kept n ow nw writes = absurd writes
  keeps-by ends.ReadFault end kept n ow nw writes = absurd writes
  keeps-by ends.TooLong end kept n ow nw writes = absurd writes

  pub keeps-on : (result : KeepEnd) (end : End) (kept : Kept Watched) (old_written new_written : Option (List ℕ)) →
      NotesEach told may_leave moment secured_since base.tag seat end game kept old new (intake_from (intake_of game) base.number (whole_lines rest) (unfinished rest))
      → ((w : Watched) → game_of kept ≡ Some w → WritesScript result end w.core.seat w.core.game old_written new_written) → KeepsOn told may_leave moment secured_since result base
      seat game.entries input old_written new_written old new
  keeps-on result end kept ow nw n writes =
      keeps-by result end kept n ow nw
      (subst (λ (g : Game). WritesScript result end seat g ow nw) n.goes.core
      (subst (λ (s : ℕ). WritesScript result end s n.goes.watched.core.game ow nw) n.goes.of_seat (writes n.goes.watched n.goes.is)))

  -- So of lines that were numbered from the first after the tag.
  module _ (number : ℕ) (numbered : base.number ≡ number) where
    pub keeps-whole : (result : KeepEnd) (end : End) (kept : Kept Watched) (old_written new_written : Option (List ℕ)) →
        NotesEach told may_leave moment secured_since base.tag seat end game kept old new (intake_from (intake_of game) number (whole_lines rest) (unfinished rest))
        → ((w : Watched) → game_of kept ≡ Some w → WritesScript result end w.core.seat w.core.game old_written new_written) → KeepsOn told may_leave moment secured_since result base
        seat game.entries input old_written new_written old new
    keeps-whole result end kept ow nw n writes =
        keeps-on result end kept ow nw (subst (λ (k : ℕ). NotesEach told may_leave moment secured_since base.tag seat end game kept old new
        (intake_from (intake_of game) k (whole_lines rest) (unfinished rest))) (sym numbered) n) writes

    pub keeps-safe : NotesPart told may_leave moment secured_since base.tag game old new (intake_from (intake_of game) number (whole_lines rest) (unfinished rest)) →
        StaysSafe told may_leave moment secured_since base game.entries input old new
    keeps-safe n = stays-safe (subst (λ (k : ℕ). NotesPart told may_leave moment secured_since base.tag game old new
        (intake_from (intake_of game) k (whole_lines rest) (unfinished rest))) (sym numbered) n)

-- A journal gives one list of entries.
pub gives-one : (opening : Opening Entries) (one other : Entries) → Gives opening one → Gives opening other → one ≡ other
gives-one Fresh one other p q = p ∙ sym q
gives-one Other one other p q = absurd p
gives-one (Bad place) one other p q = absurd p
gives-one (Open last place) one other p q = p ∙ sym q

pub gives-entries : (opening : Opening Entries) (entries : Entries) (end : ℕ) → GivesEntries opening entries end → Gives opening entries
gives-entries Fresh entries end g = g
gives-entries Other entries end g = absurd g
gives-entries (Bad place) entries end g = absurd g
gives-entries (Open last place) entries end g = g.0

-- An opening that came to nothing.
module _ {D : Type 0} (told : D → Option (List ℕ)) (may_leave : D → List ℕ → Type 0) (moment : D → ℕ) (left_since secured_since : D → ℕ → List ℕ → Type 0)
    (counts_now : (disk : D) (t : ℕ) (image : List ℕ) → t ≤ moment disk → may_leave disk image → left_since disk t image) (base : Base) (input : List ℕ) (old new : D)
    (looks : (bytes : List ℕ) → told old ≡ Some bytes → is_fresh bytes ≡ false → OnlyLooks told may_leave moment left_since secured_since old new)
    (any_moment : (bytes : List ℕ) → told old ≡ Some bytes → is_fresh bytes ≡ true → Only bytes (may_leave old) → LeavesOnly moment left_since old new (IsNewOrTag base.tag))
    (syncs : (bytes : List ℕ) → told old ≡ Some bytes → is_fresh bytes ≡ true → Only bytes (may_leave old) → SyncsOnly moment secured_since old new (IsNewOrTag base.tag)) where
  opens-fresh : (image : List ℕ) → is_fresh image ≡ true → opens_for base image ≡ Fresh
  opens-fresh image fresh = rw fresh

  gives-new : (kept : Entries) (image : List ℕ) → kept ≡ [] → IsNewOrTag base.tag image → Gives (opens_for base image) kept
  gives-new kept image none stands =
      ⊎_elim (λ fresh. subst (λ (o : Opening Entries). Gives o kept) (sym (opens-fresh image fresh)) none)
      (λ tag. subst (λ (o : Opening Entries). Gives o kept) (sym (opens_tag (play_of base.setting) base.tag image tag)) none) stands

  each-by : (b : Bool) (bytes : List ℕ) (kept : Entries) → is_fresh bytes ≡ b → told old ≡ Some bytes → Only bytes (may_leave old) →
      Gives (opens_for base bytes) kept → (image : List ℕ) → may_leave new image → Gives (opens_for base image) kept
  each-by false bytes kept e is only gives image left =
      subst (λ (i : List ℕ). Gives (opens_for base i) kept) (sym (only image ((looks bytes is e).crash image left))) gives
  each-by true bytes kept e is only gives image left =
      let run = any_moment bytes is e only in
      gives-new kept image (subst (λ (o : Opening Entries). Gives o kept) (opens-fresh bytes e) gives) (run.each image (counts_now new (moment old) image run.later left))

  syncs-by : (b : Bool) (bytes : List ℕ) (kept : Entries) → is_fresh bytes ≡ b → told old ≡ Some bytes → Only bytes (may_leave old) →
      Gives (opens_for base bytes) kept → SyncsOnly moment secured_since old new (λ image. Gives (opens_for base image) kept)
  syncs-by false bytes kept e is only gives =
      weaker moment secured_since old new _ _ (looks bytes is e).syncs
      (λ image put. let same : bytes ≡ image = cc (sym is ∙ put) in subst (λ (i : List ℕ). Gives (opens_for base i) kept) same gives)
  syncs-by true bytes kept e is only gives =
      weaker moment secured_since old new _ _ (syncs bytes is e only)
      (λ image stands. gives-new kept image (subst (λ (o : Opening Entries). Gives o kept) (opens-fresh bytes e) gives) stands)

  -- What the syncs of an opening put on the disk opens as the disk did.
  pub opening-syncs : (bytes : List ℕ) (kept : Entries) → told old ≡ Some bytes → Only bytes (may_leave old) → Gives (opens_for base bytes) kept
      → SyncsOnly moment secured_since old new (λ image. Gives (opens_for base image) kept)
  opening-syncs bytes kept is only gives = syncs-by (is_fresh bytes) bytes kept refl is only gives

  pub unopened-safe : (bytes : List ℕ) (kept : Entries) → told old ≡ Some bytes → Only bytes (may_leave old) → Gives (opens_for base bytes) kept →
      IsSafe may_leave moment secured_since base kept input old new
  unopened-safe bytes kept is only gives =
      let more = heard-begins (intake_after base.setting kept) base.number base.lines (unfinished input) in record {
        made = [];
        next = [];
        later = more.rest;
        all = more.is ∙ ap (λ (es : Entries). es ++ more.rest) (sym (append-nil kept) ∙ sym (append-nil (kept ++ [])));
        one = omega arith;
        each = λ image left. inl (subst (λ (es : Entries). Gives (opens_for base image) es) (sym (append-nil kept)) (each-by (is_fresh bytes) bytes kept refl is only gives image left));
        acknowledged =
            weaker moment secured_since old new _ _ (opening-syncs bytes kept is only gives)
            (λ image g. front-all (opens_for base image) (kept ++ []) (subst (λ (es : Entries). Gives (opens_for base image) es) (sym (append-nil kept)) g));
      }

  pub other-fresh : (bytes : List ℕ) (why : Opening Entries) → (why ≡ Fresh → ⊥) → opens_for base bytes ≡ why → is_fresh bytes ≡ false
  other-fresh bytes why not_new is = by (is_fresh bytes) refl
    where
      by : (b : Bool) → is_fresh bytes ≡ b → is_fresh bytes ≡ false
      by false e = e
      by true e = absurd (not_new (sym is ∙ opens-fresh bytes e))

-- A journal that was opened.
pub record IsOpened {D : Type 0} (told : D → Option (List ℕ)) (may_leave : D → List ℕ → Type 0) (tag : List ℕ) (seat : ℕ) (setting : Setting) (kept : Kept Watched) (new : D) : Type 0 where
  pub game : Game
  pub is : (w : Watched) × (game_of kept ≡ Some w) × (w.core.game ≡ game)
  pub same : game.setting ≡ setting
  pub goes : GoesOn told may_leave tag seat kept new game

module _ {D : Type 0} (told : D → Option (List ℕ)) (may_leave : D → List ℕ → Type 0) (tag : List ℕ) (seat : ℕ) (setting : Setting)
    (kept : Kept Watched) (new : D) (wall : (length setting.walls == 0) ≡ false) (rest : IsAtRest (told new) (may_leave new) (end_of kept)) where
  goes-by : (o : Option Watched) → game_of kept ≡ o → IsInPlay setting_in (setting, seat) o →
      IfKept o (λ w. TellsGame (opens (play_of setting) tag) (told new) w.core.game.entries (end_of kept)) → IsOpened told may_leave tag seat setting kept
      new
  goes-by None is play tells = absurd play
  goes-by (Some w) is play tells =
      let same : w.core.game.setting ≡ setting = ap (λ (s : Setting × ℕ). s.0) play in record {
        game = w.core.game;
        is = (w, is, refl);
        same = same;
        goes = record {
          watched = w;
          is = is;
          core = refl;
          of_seat = ap (λ (s : Setting × ℕ). s.1) play;
          wall = subst (λ (s : Setting). (length s.walls == 0) ≡ false) (sym same) wall;
          rest = rest;
          tells = subst (λ (s : Setting). TellsGame (opens (play_of s) tag) (told new) w.core.game.entries (end_of kept)) (sym same) tells;
        };
      }

  pub opened-goes : IsInPlay setting_in (setting, seat) (game_of kept) →
      IfKept (game_of kept) (λ w. TellsGame (opens (play_of setting) tag) (told new) w.core.game.entries (end_of kept)) →
      IsOpened told may_leave tag seat setting kept new
  opened-goes play tells = goes-by (game_of kept) refl play tells

-- And the entries that it gave.
gives-by : (opening : Opening Entries) (setting : Setting) (seat end : ℕ) (o : Option Watched) (w : Watched) → o ≡ Some w →
    OpensGame setting_in entries_in (setting, seat) opening o end → Gives opening w.core.game.entries
gives-by opening setting seat end None w is opens = absurd (cc is)
gives-by opening setting seat end (Some v) w is opens =
    let same : v ≡ w = cc is in subst (λ (x : Watched). Gives opening x.core.game.entries) same (gives-entries opening v.core.game.entries end opens.1)

pub opened-gives : (opening : Opening Entries) (setting : Setting) (seat : ℕ) (kept : Kept Watched) (game : Game) → (w : Watched) × (game_of kept ≡ Some w) × (w.core.game ≡ game)
    → OpensGame setting_in entries_in (setting, seat) opening (game_of kept) (end_of kept) → Gives opening game.entries
opened-gives opening setting seat kept game is opens =
    subst (λ (g : Game). Gives opening g.entries) is.2 (gives-by opening setting seat (end_of kept) (game_of kept) is.0 is.1 opens)
