-- A written game goes on.
use Rattle.std.proofs.Common.{◌≡◌, ◌⊎◌, inl, inr, ℕ, ◌<◌, ◌≤◌, true, false, List, [], ◌∷◌, ◌++◌, Option, Some, None, refl, sym, ◌∙◌, ap, subst, subst₂, arith, append_assoc, append-nil}
use Rattle.std.specs.Prelude.{is_some}
use mathlib.Core.List.{IsPrefix}
use Rattle.mj_ports.specs.declared.entry.Entry.{Entry}
use Rattle.mj_ports.specs.declared.entry.Entry.TheVariants as entry
use Rattle.mj_ports.specs.declared.answers.SitAnswer.{SitAnswer}
use Rattle.mj_ports.specs.declared.answers.SitAnswer.TheVariants as sits
use Rattle.mj_ports.specs.declared.answers.Heard.{Heard}
use Rattle.mj_ports.specs.declared.answers.Heard.TheVariants as heard
use Rattle.mj_ports.specs.declared.sitting.JoinLine.{JoinLine}
use Rattle.mj_journal.specs.Calls.{GameCall, IsSized, text_of}
use Rattle.mj_journal.specs.Disks.{LeavesOnly, SyncsOnly}
use Rattle.mj_journal.specs.Journals.{IsAtRest}
use Rattle.mj_journal.specs.Openings.{Opening}
use Rattle.mj_journal.specs.Keeping.{OpensTo, OpensWith, OpensBy, TellsGame, AnyMoment, Acknowledged, written_at}
use Rattle.mj_journal.specs.Playing.{Play, said, sat, entered, opens}
use Rattle.mj_journal.specs.Outcomes.{Enters}
use Rattle.mj_journal.specs.Settling.{CountsSizing}
use Rattle.mj_journal.specs.declared.answered.Answered.{Answered}
use Rattle.mj_journal.specs.declared.answered.Answered.TheVariants as answered
use Rattle.mj_journal.specs.declared.outcome.Outcome.{Outcome}
use Rattle.mj_journal.specs.declared.outcome.Outcome.TheVariants.{Entered, NoMemory}
use Rattle.mj_written.specs.declared.stop.Stop.{Stop}
use Rattle.mj_written.specs.declared.stop.Stop.TheVariants as stop
use Rattle.mj_core.specs.Calls.{Foresees}
use Rattle.mj_written.specs.Writing.{gives_seat, IsPartOf, OpensPart, CountsStop, IsWritten}
use Rattle.mj_journal.proofs.Moments.{goes_on, weaker, unsynced}

module _ {E : Type 0} where
  prefix_self : (xs : List E) → IsPrefix xs xs
  prefix_self xs = ([], append-nil xs)

  prefix_more : (xs ys : List E) (y : E) → IsPrefix xs ys → IsPrefix xs (ys ++ y ∷ [])
  prefix_more xs ys y p = (p.0 ++ y ∷ [], sym (append_assoc xs p.0 (y ∷ [])) ∙ ap (λ (l : List E). l ++ y ∷ []) p.1)

  -- a part of the entries stays one, with one entry more or once the game is stopped
  grown : (opens : List ℕ → Opening (List E)) (first es : List E) (e : E) (image : List ℕ) → OpensPart opens None first es image → OpensPart opens None first (es ++ e ∷ []) image
  grown opens first es e image p = record { part = p.part; opened = p.opened; begins = p.begins; goes = prefix_more p.part es e p.goes }

  stopped : (why : Stop) (opens : List ℕ → Opening (List E)) (first es : List E) (image : List ℕ) → OpensPart opens None first es image → OpensPart opens (Some why) first es image
  stopped why opens first es image p = record { part = p.part; opened = p.opened; begins = p.begins; goes = inl p.goes }

  -- whatever the answer
  by_any : {T : Type 0} (a : Answered T) (opens : List ℕ → Opening (List E)) (es : List E) (o : Option E) (image : List ℕ) → OpensBy a opens es o image
      → OpensTo opens es image ⊎ OpensWith opens es o image
  by_any (answered.Done x) opens es o image so = so
  by_any answered.DiskFault opens es o image so = inl so
  by_any answered.Stopped opens es o image so = inl so
  by_any answered.NoMemory opens es o image so = inl so

module _ {A R D T : Type 0} (told : D → Option (List ℕ)) (may_leave : D → List ℕ → Type 0) (moment : D → ℕ) (left_since secured_since : D → ℕ → List ℕ → Type 0) (disk_faults : D → ℕ)
    (game : Play A R) (tag : List ℕ) (first es : List (Entry A)) (opened disk new : D) (end : ℕ)
    (w : IsWritten told may_leave moment left_since secured_since disk_faults (opens game tag) first es opened disk end None)
    (call : GameCall) (e : Entry A) (is : entered game es call ≡ Some e) (answer : Answered T)
    (any : AnyMoment told moment left_since secured_since game es end call answer disk new)
    (counts_now : (image : List ℕ) → moment disk ≤ moment new → may_leave new image → left_since new (moment disk) image) where
  module _ (why : Option Stop) (all : List (Entry A)) (grow : (image : List ℕ) → OpensPart (opens game tag) None first es image → OpensPart (opens game tag) why first all image)
      (here : IsPartOf why all es) (further : IsPartOf why all (es ++ e ∷ [])) where
    each : (image : List ℕ) → OpensTo (opens game tag) es image ⊎ OpensWith (opens game tag) es (entered game es call) image → OpensPart (opens game tag) why first all image
    each image (inl so) = record { part = es; opened = so; begins = w.begins; goes = here }
    each image (inr so) = record {
      part = es ++ e ∷ [];
      opened = subst (λ (o : Option (Entry A)). OpensWith (opens game tag) es o image) is so;
      begins = prefix_more first es e w.begins;
      goes = further;
    }

    since : (bytes : List ℕ) → told opened ≡ Some bytes → LeavesOnly moment left_since opened new (OpensPart (opens game tag) why first all)
    since bytes at =
        let now = w.on refl bytes at in
        let run = any tag now.0 now.1 (w.tells refl now.0 now.1) in
        goes_on moment left_since opened disk new _ _ (weaker moment left_since opened disk _ _ (w.since bytes at) grow) run.0 each

    syncs : (bytes : List ℕ) → told opened ≡ Some bytes → SyncsOnly moment secured_since opened new (OpensPart (opens game tag) why first all)
    syncs bytes at =
        let now = w.on refl bytes at in
        let run = any tag now.0 now.1 (w.tells refl now.0 now.1) in
        goes_on moment secured_since opened disk new _ _ (weaker moment secured_since opened disk _ _ (w.syncs bytes at) grow) run.1
        (λ image so. each image (by_any answer (opens game tag) es (entered game es call) image so))

  one_of : (image : List ℕ) → OpensTo (opens game tag) es image ⊎ OpensWith (opens game tag) es (entered game es call) image
      → OpensTo (opens game tag) es image ⊎ ((x : Entry A) × OpensTo (opens game tag) (es ++ x ∷ []) image)
  one_of image (inl so) = inl so
  one_of image (inr so) = inr (e, subst (λ (o : Option (Entry A)). OpensWith (opens game tag) es o image) is so)

  -- the disk failed, or the game wanted memory after it
  pub written_stopped : (why : Stop) → CountsStop (Some why) (disk_faults opened) (disk_faults new)
      → IsWritten told may_leave moment left_since secured_since disk_faults (opens game tag) first es opened new end (Some why)
  written_stopped why counts = record {
    begins = w.begins;
    rest = λ n. absurd (cc n);
    tells = λ n. absurd (cc n);
    on = λ n. absurd (cc n);
    stands = λ bytes image at left.
        let now = w.on refl bytes at in
        let run = any tag now.0 now.1 (w.tells refl now.0 now.1) in
        one_of image (run.0.each image (counts_now image run.0.later left));
    since = since (Some why) es (stopped why (opens game tag) first es) (inl (prefix_self es)) (inr (e, refl));
    syncs = syncs (Some why) es (stopped why (opens game tag) first es) (inl (prefix_self es)) (inr (e, refl));
    put = λ was bytes at n. absurd (cc n);
    faults = counts;
  }

  -- the entry stands, and the game made it
  pub written_more : (place : ℕ) → IsAtRest (told new) (may_leave new) place → Acknowledged told may_leave moment secured_since game disk new es end (es ++ e ∷ []) place
      → ((t : ℕ) (bytes : List ℕ) → t ≤ moment disk → told new ≡ Some bytes → secured_since new t bytes) → disk_faults disk ≤ disk_faults new
      → IsWritten told may_leave moment left_since secured_since disk_faults (opens game tag) first (es ++ e ∷ []) opened new place None
  written_more place rest ack put faults = record {
    begins = prefix_more first es e w.begins;
    rest = λ n. rest;
    tells = λ n. ack.tells tag (w.tells refl);
    on = λ n bytes at. let now = w.on refl bytes at in ack.on now.0 now.1;
    stands = λ bytes image at left. let now = w.on refl bytes at in (place, ack.leaves tag now.0 now.1 (w.tells refl now.0 now.1) image left);
    since = since None (es ++ e ∷ []) (grown (opens game tag) first es e) (prefix_more es es e (prefix_self es)) (prefix_self (es ++ e ∷ []));
    syncs = syncs None (es ++ e ∷ []) (grown (opens game tag) first es e) (prefix_more es es e (prefix_self es)) (prefix_self (es ++ e ∷ []));
    put = λ was bytes at n now. inr (put (moment opened) bytes (w.since was at).later now);
    faults = omega (arith, w.faults, faults);
  }

-- a call whose record was put on the disk
module _ {A R D : Type 0} (told : D → Option (List ℕ)) (may_leave : D → List ℕ → Type 0) (moment : D → ℕ) (left_since secured_since : D → ℕ → List ℕ → Type 0) (disk_faults : D → ℕ)
    (game : Play A R) (tag : List ℕ) (first es : List (Entry A)) (opened disk new : D) (end : ℕ) (why : Option Stop) (going : why ≡ None)
    (w : IsWritten told may_leave moment left_since secured_since disk_faults (opens game tag) first es opened disk end why)
    (call : GameCall) (sized : IsSized call) (payload : List ℕ) (text : payload ≡ text_of call) (e : Entry A) (is : entered game es call ≡ Some e) (result : Option ℕ)
    (any : (g : Play A R) (c : GameCall) (xs ys : List (Entry A)) → IsSized c → payload ≡ text_of c → Enters Entered (entered g xs c) xs ys
    → AnyMoment told moment left_since secured_since g xs end c (written_at result) disk new)
    (faults : CountsSizing result (disk_faults disk) (disk_faults new))
    (counts_now : (image : List ℕ) → moment disk ≤ moment new → may_leave new image → left_since new (moment disk) image) where
  going_on : IsWritten told may_leave moment left_since secured_since disk_faults (opens game tag) first es opened disk end None
  going_on = subst (λ (b : Option Stop). IsWritten told may_leave moment left_since secured_since disk_faults (opens game tag) first es opened disk end b) going w

  enters_one : Enters Entered (entered game es call) es (es ++ e ∷ [])
  enters_one = subst (λ (o : Option (Entry A)). Enters Entered o es (es ++ e ∷ [])) (sym is) refl

  run : AnyMoment told moment left_since secured_since game es end call (written_at result) disk new
  run = any game call es (es ++ e ∷ []) sized text enters_one

  none_of : (o : Outcome) (fs : List (Entry A)) → o ≡ NoMemory → Enters o (entered game es call) es fs → fs ≡ es
  none_of o fs same enters = subst (λ (x : Outcome). Enters x (entered game es call) es fs) same enters

  one_more : (o : Outcome) (fs : List (Entry A)) → o ≡ Entered → Enters o (entered game es call) es fs → fs ≡ es ++ e ∷ []
  one_more o fs same enters = subst (λ (x : Option (Entry A)). Enters Entered x es fs) is (subst (λ (x : Outcome). Enters x (entered game es call) es fs) same enters)

  never_fell : (r : Option ℕ) → CountsSizing r (disk_faults disk) (disk_faults new) → disk_faults disk ≤ disk_faults new
  never_fell None counts = omega (arith, counts)
  never_fell (Some place) counts = counts

  -- the disk failed
  pub stops : disk_faults disk < disk_faults new → IsWritten told may_leave moment left_since secured_since disk_faults (opens game tag) first es opened new end (Some stop.DiskFault)
  stops rose =
      written_stopped told may_leave moment left_since secured_since disk_faults game tag first es opened disk new end going_on call e is (written_at result) run counts_now stop.DiskFault
      (omega (arith, going_on.faults, rose))

  -- the game wanted memory after it
  pub lags : (g : Play A R) (fs : List (Entry A)) (o : Outcome) → g ≡ game → o ≡ NoMemory → Enters o (entered game es call) es fs
      → IsWritten told may_leave moment left_since secured_since disk_faults (opens g tag) first fs opened new end (Some stop.NoMemory)
  lags g fs o same wants enters =
      subst₂ (λ (p : Play A R) (l : List (Entry A)). IsWritten told may_leave moment left_since secured_since disk_faults (opens p tag) first l opened new end (Some stop.NoMemory))
      (sym same) (sym (none_of o fs wants enters))
      (written_stopped told may_leave moment left_since secured_since disk_faults game tag first es opened disk new end going_on call e is (written_at result) run counts_now stop.NoMemory
      (omega (arith, going_on.faults, never_fell result faults)))

  -- the game made it
  pub goes : (g : Play A R) (fs : List (Entry A)) (o : Outcome) (place : ℕ) → g ≡ game → o ≡ Entered → Enters o (entered game es call) es fs → IsAtRest (told new) (may_leave new) place
      → ((h : Play A R) (c : GameCall) (xs ys : List (Entry A)) → IsSized c → payload ≡ text_of c → Enters Entered (entered h xs c) xs ys
      → Acknowledged told may_leave moment secured_since h disk new xs end ys place)
      → ((t : ℕ) (bytes : List ℕ) → t ≤ moment disk → told new ≡ Some bytes → secured_since new t bytes)
      → IsWritten told may_leave moment left_since secured_since disk_faults (opens g tag) first fs opened new place why
  goes g fs o place same done enters rest acks put =
      subst (λ (b : Option Stop). IsWritten told may_leave moment left_since secured_since disk_faults (opens g tag) first fs opened new place b) (sym going)
      (subst₂ (λ (p : Play A R) (l : List (Entry A)). IsWritten told may_leave moment left_since secured_since disk_faults (opens p tag) first l opened new place None)
      (sym same) (sym (one_more o fs done enters))
      (written_more told may_leave moment left_since secured_since disk_faults game tag first es opened disk new end going_on call e is (written_at result) run counts_now place rest
      (acks game call es (es ++ e ∷ []) sized text enters_one) put (never_fell result faults)))

-- a game that was just opened
module _ {A R D : Type 0} (told : D → Option (List ℕ)) (may_leave : D → List ℕ → Type 0) (moment : D → ℕ) (left_since secured_since : D → ℕ → List ℕ → Type 0) (disk_faults : D → ℕ)
    (game : Play A R) (tag : List ℕ) (es : List (Entry A)) (disk : D) (end : ℕ) where
  pub written_new : ((image : List ℕ) → left_since disk (moment disk) image → may_leave disk image) → ((bytes : List ℕ) → secured_since disk (moment disk) bytes → ⊥)
      → IsAtRest (told disk) (may_leave disk) end → TellsGame (opens game tag) (told disk) es end
      → IsWritten told may_leave moment left_since secured_since disk_faults (opens game tag) es es disk disk end None
  written_new only_now none_secured rest tells = record {
    begins = prefix_self es;
    rest = λ n. rest;
    tells = λ n. tells;
    on = λ n bytes at. (bytes, at);
    stands = λ bytes image at left. (end, ap (opens game tag) (rest.kept bytes at image left) ∙ tells bytes at);
    since = λ bytes at. record {
      later = omega arith;
      each = λ image left. record { part = es; opened = (end, ap (opens game tag) (rest.kept bytes at image (only_now image left)) ∙ tells bytes at); begins = prefix_self es; goes = prefix_self es };
      before = λ t image le left. inl left;
    };
    syncs = λ bytes at. unsynced moment secured_since disk _ none_secured;
    put = λ was bytes at n now. inl refl;
    faults = omega arith;
  }

-- a game that isn't stopped
pub goes_on_if : (why : Option Stop) → is_some why ≡ false → why ≡ None
goes_on_if None is = refl
goes_on_if (Some why) is = absurd (cc is)

-- what an answer of a seat is entered as
pub said_some : {A R : Type 0} (answer : Heard R) (author seat : ℕ) (reads : A) → (answer ≡ heard.NoMemory → ⊥) → said answer author seat reads ≡ Some (entry.Said author seat reads)
said_some heard.Taken author seat reads never = refl
said_some heard.Late author seat reads never = refl
said_some (heard.Refused rule) author seat reads never = refl
said_some (heard.Closing rule) author seat reads never = refl
said_some heard.NoMemory author seat reads never = absurd (never refl)

-- what a seat that is given is entered as
pub seat_some : {A : Type 0} (would right : SitAnswer) (author : ℕ) (join : Option JoinLine) → Foresees would right join → gives_seat would ≡ true → (e : Entry A) × (sat right author join ≡ Some e)
seat_some {A} (sits.Sat seat) right author None is gives = absurd (cc is.1)
seat_some {A} (sits.Sat seat) right author (Some join) is gives = (entry.Sat author join.name join.key, ap (λ (r : SitAnswer). sat {A = A} r author (Some join)) is.0)
seat_some {A} (sits.Back seat) right author join is gives = (entry.Back author seat, ap (λ (r : SitAnswer). sat {A = A} r author join) is)
seat_some {A} (sits.Refused why) right author join is gives = absurd (cc gives)
seat_some {A} sits.NoMemory right author join is gives = absurd (cc gives)
