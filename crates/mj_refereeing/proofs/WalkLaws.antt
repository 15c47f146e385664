-- The lines of a kept game, one after the other.
use Rattle.std.proofs.Common.{◌≡◌, inl, inr, ⊎_elim, ℕ, ◌+◌, ◌<◌, ◌≤◌, List, [], ◌∷◌, ◌++◌, refl, ap, sym, ◌∙◌, subst, arith, append-nil}
use Rattle.std.specs.Prelude.{Option, Some, None}
use Rattle.mj_bytes.specs.Parts.{whole_lines, unfinished, BeginsWithLine, HasNoLine}
use Rattle.mj_ports.specs.declared.entry.Entry.{Entry}
use Rattle.mj_deeds.specs.declared.answer.Answer.{Answer}
use Rattle.mj_history.specs.Legal.{Game}
use Rattle.mj_history.specs.Arrivals.{Intake, Arrival, Leads, Bad, Input, BadAt, intake_on, intake_from, arrives, at_end}
use Rattle.mj_journal.specs.Disks.{SyncsOnly}
use Rattle.mj_journal.specs.Openings.{Opening, Open}
use Rattle.mj_journal.specs.Playing.{opens}
use Rattle.mj_journal.specs.Keeping.{end_of, TellsOn, OpensTo, OpensWith}
use Rattle.mj_journal.specs.declared.kept.Kept.{Kept}
use Rattle.mj_journal.proofs.Moments.{goes_on, weaker, unsynced}
use Rattle.mj_refereeing.specs.declared.intake.End.{End}
use Rattle.mj_refereeing.specs.declared.watched.Watched.{Watched}
use Rattle.mj_refereeing.specs.Referee.{ending}
use Rattle.mj_refereeing.specs.Keep.{play_of, GivesFront}
use Rattle.mj_refereeing.specs.Inner.Intake.{intake_of}
use Rattle.mj_refereeing.specs.Inner.Keeping.{list_of, GoesOn, NotesOne, FailsOne, NotesNone, NotesEach, NotesPart}
use Rattle.mj_refereeing.proofs.Fronts.{front-more}
use Rattle.mj_refereeing.proofs.KeepLaws.{Begins, begins-itself, begins-on, Extends, extends, heard-begins}

abbrev Entries : Type 0
Entries = List (Entry Answer)

-- What stands after a line that was read.
heard-line : (reading : Intake) (number : ℕ) (text line others : List ℕ) → BeginsWithLine text line others
    → intake_from reading number (whole_lines text) (unfinished text) ≡ intake_on (arrives reading line) (λ next. intake_from next (number + 1) (whole_lines others) (unfinished others)) reading number
heard-line reading number text line others b = rw (b.lines, b.ending) refl

abbrev opens_of : Game → List ℕ → List ℕ → Opening Entries
opens_of game tag image = opens (play_of game.setting) tag image

module _ {D : Type 0} (told : D → Option (List ℕ)) (may_leave : D → List ℕ → Type 0) (moment : D → ℕ) (secured_since : D → ℕ → List ℕ → Type 0)
    (tag : List ℕ) (seat : ℕ) (game : Game) (old : D) where
  -- So many lines were noted.
  pub record Walks (kept : Kept Watched) (now : D) (number : ℕ) (rest : List ℕ) (input : Input) : Type 0 where
    pub at : Game
    pub setting : at.setting ≡ game.setting
    pub goes : GoesOn told may_leave tag seat kept now at
    pub on : TellsOn (told old) (told now)
    pub begins : Begins game.entries at.entries
    pub syncs : (bytes : List ℕ) → told old ≡ Some bytes → SyncsOnly moment secured_since old now (λ image. GivesFront (opens_of game tag image) at.entries)
    pub same : input ≡ intake_from (intake_of at) number (whole_lines rest) (unfinished rest)

  tells-on : (now new : D) → TellsOn (told old) (told now) → TellsOn (told now) (told new) → TellsOn (told old) (told new)
  tells-on now new p q bytes is = let b = p bytes is in q b.0 b.1

  begins-next : (at next : Game) (line : List ℕ) → arrives (intake_of at) line ≡ Leads (intake_of next) → Begins at.entries next.entries
  begins-next at next line leads = subst (λ (arrival : Arrival). Extends (intake_of at) arrival) leads (extends (intake_of at) line)

  pub walks-start : (kept : Kept Watched) (number : ℕ) (rest : List ℕ) → ((bytes : List ℕ) → secured_since old (moment old) bytes → ⊥) → GoesOn told may_leave tag seat kept old game →
      Walks kept old number rest (intake_from (intake_of game) number (whole_lines rest) (unfinished rest))
  walks-start kept number rest none_secured goes = record {
    at = game;
    setting = refl;
    goes = goes;
    on = λ bytes is. (bytes, is);
    begins = begins-itself game.entries;
    syncs = λ bytes is. unsynced moment secured_since old _ none_secured;
    same = refl;
  }

  module _ (kept : Kept Watched) (now : D) (number : ℕ) (rest line others : List ℕ) (input : Input) (w : Walks kept now number rest input)
      (b : BeginsWithLine rest line others) (new_kept : Kept Watched) (new : D) where
    heard : input ≡ intake_on (arrives (intake_of w.at) line) (λ next. intake_from next (number + 1) (whole_lines others) (unfinished others)) (intake_of w.at) number
    heard = w.same ∙ heard-line (intake_of w.at) number rest line others b

    heard_as : (next : Game) → arrives (intake_of w.at) line ≡ Leads (intake_of next) → input ≡ intake_from (intake_of next) (number + 1) (whole_lines others) (unfinished others)
    heard_as next leads = heard ∙ ap (λ (arrival : Arrival). intake_on arrival (λ next. intake_from next (number + 1) (whole_lines others) (unfinished others)) (intake_of w.at) number) leads

    opens-at : (image : List ℕ) → opens_of w.at tag image ≡ opens_of game tag image
    opens-at image = ap (λ s. opens (play_of s) tag image) w.setting

    -- What the syncs of one line more put on the disk.
    syncs-on : (next : Entries) → Begins w.at.entries next
        → ((bytes : List ℕ) → told now ≡ Some bytes → SyncsOnly moment secured_since now new (λ image. GivesFront (opens_of w.at tag image) next))
        → (bytes : List ℕ) → told old ≡ Some bytes → SyncsOnly moment secured_since old new (λ image. GivesFront (opens_of game tag image) next)
    syncs-on next more syncs bytes is =
        let b = w.on bytes is in
        goes_on moment secured_since old now new (λ image. GivesFront (opens_of game tag image) next) _
        (weaker moment secured_since old now _ _ (w.syncs bytes is) (λ image f. front-more (opens_of game tag image) w.at.entries next more f)) (syncs b.0 b.1)
        (λ image f. subst (λ (o : Opening Entries). GivesFront o next) (opens-at image) f)

    pub walks-on : NotesOne told may_leave moment secured_since tag seat w.at new_kept now new (arrives (intake_of w.at) line) → Walks new_kept new (number + 1) others input
    walks-on n = record {
      at = n.next;
      setting = n.setting ∙ w.setting;
      goes = n.goes;
      on = tells-on now new w.on n.on;
      begins = begins-on game.entries w.at.entries n.next.entries w.begins (begins-next w.at n.next line n.leads);
      syncs = syncs-on n.next.entries (begins-next w.at n.next line n.leads) n.syncs;
      same = heard_as n.next n.leads;
    }

    pub walks-bad : (end : End) → BadAt number ≡ ending end → (arrives (intake_of w.at) line ≡ Bad) × NotesNone told may_leave moment secured_since tag seat w.at new_kept
        now new → NotesEach told may_leave moment secured_since tag seat end game new_kept old new input
    walks-bad end e n =
        let is = heard ∙ ap (λ (arrival : Arrival). intake_on arrival (λ next. intake_from next (number + 1) (whole_lines others) (unfinished others)) (intake_of w.at) number) n.0 in record {
          last = w.at;
          setting = w.setting;
          reading = ap (λ (i : Input). i.reading) is;
          ends = ap (λ (i : Input). i.ending) is ∙ e;
          goes = n.1.goes;
          on = tells-on now new w.on n.1.on;
          syncs = syncs-on w.at.entries (begins-itself w.at.entries) n.1.syncs;
        }

    opens-to : (image : List ℕ) → OpensTo (opens (play_of w.at.setting) tag) w.at.entries image → OpensTo (opens (play_of game.setting) tag) (game.entries ++ w.begins.rest) image
    opens-to image o = (o.0, sym (opens-at image) ∙ o.1 ∙ ap (λ (es : Entries). Open es o.0) w.begins.is)

    opens-with : (image : List ℕ) (e : Option (Entry Answer)) → OpensWith (opens (play_of w.at.setting) tag) w.at.entries e image →
        OpensWith (opens (play_of game.setting) tag) (game.entries ++ w.begins.rest) e image
    opens-with image None o = absurd o
    opens-with image (Some e) o = (o.0, sym (opens-at image) ∙ o.1 ∙ ap (λ (es : Entries). Open (es ++ e ∷ []) o.0) w.begins.is)

    pub walks-fail : FailsOne told may_leave moment secured_since tag w.at now new (arrives (intake_of w.at) line) → NotesPart told may_leave moment secured_since tag game old new input
    walks-fail f =
        let more = heard-begins (intake_of f.next) (number + 1) (whole_lines others) (unfinished others) in record {
          made = w.begins.rest;
          next = f.entry;
          later = more.rest;
          all = ap (λ (i : Input). i.reading.entries) (heard_as f.next f.leads) ∙ more.is ∙ ap (λ (es : Entries). es ++ more.rest) (f.entries
              ∙ ap (λ (es : Entries). es ++ list_of f.entry) w.begins.is);
          each = λ bytes image is left.
              let b = w.on bytes is in
              ⊎_elim (λ o. inl (opens-to image o)) (λ o. inr (opens-with image f.entry o)) (f.each b.0 image b.1 left);
          syncs = λ bytes is.
              subst (λ (es : Entries). SyncsOnly moment secured_since old new (λ image. GivesFront (opens_of game tag image) es)) w.begins.is
              (syncs-on w.at.entries (begins-itself w.at.entries) f.syncs bytes is);
        }

    pub walks-want : NotesNone told may_leave moment secured_since tag seat w.at new_kept now new → NotesPart told may_leave moment secured_since tag game old new input
    walks-want n =
        let more = heard-begins (intake_of w.at) number (whole_lines rest) (unfinished rest) in record {
          made = w.begins.rest;
          next = None;
          later = more.rest;
          all = ap (λ (i : Input). i.reading.entries) w.same ∙ more.is ∙ ap (λ (es : Entries). es ++ more.rest) (w.begins.is ∙ sym (append-nil (game.entries ++ w.begins.rest)));
          each = λ bytes image is left.
              let b = tells-on now new w.on n.on bytes is in
              inl (opens-to image (end_of new_kept, ap (opens (play_of w.at.setting) tag) (n.goes.rest.kept b.0 b.1 image left) ∙ n.goes.tells b.0 b.1));
          syncs = λ bytes is.
              subst (λ (es : Entries). SyncsOnly moment secured_since old new (λ image. GivesFront (opens_of game tag image) es)) w.begins.is
              (syncs-on w.at.entries (begins-itself w.at.entries) n.syncs bytes is);
        }

  pub walks-end : (kept : Kept Watched) (now : D) (number : ℕ) (rest : List ℕ) (input : Input) (end : End) → Walks kept now number rest input →
      HasNoLine rest → ((reading : Intake) → at_end reading number rest ≡ record { reading = reading; ending = ending end })
      → NotesEach told may_leave moment secured_since tag seat end game kept old now input
  walks-end kept now number rest input end w none e =
      let is : input ≡ record { reading = intake_of w.at; ending = ending end } = w.same ∙ rw (none.lines, none.ending) (e (intake_of w.at)) in record {
        last = w.at;
        setting = w.setting;
        reading = ap (λ (i : Input). i.reading) is;
        ends = ap (λ (i : Input). i.ending) is;
        goes = w.goes;
        on = w.on;
        syncs = w.syncs;
      }

pub no-fewer : (old now new : ℕ) → old ≤ now → now ≤ new → old ≤ new
no-fewer old now new h k = omega (arith, h, k)

pub more-since : (old now new : ℕ) → old ≤ now → now < new → old < new
more-since old now new h k = omega (arith, h, k)
