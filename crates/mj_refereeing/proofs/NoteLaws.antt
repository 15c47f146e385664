-- What becomes of a line of a kept game, by what its call answers.
use Rattle.std.proofs.Common.{◌≡◌, ℕ, ◌==◌, ◌<◌, ◌≤◌, Bool, true, false, List, [], ◌∷◌, ◌++◌, length, refl, ap, sym, ◌∙◌, subst, append-nil}
use Rattle.std.specs.Prelude.{Option, Some, None, slice_get, if◌then◌else◌}
use Rattle.mj_ports.specs.declared.entry.Entry.{Entry}
use Rattle.mj_ports.specs.declared.entry.Entry.TheVariants.{Said, Gone, Expired}
use Rattle.mj_ports.specs.declared.sitting.JoinLine.{JoinLine}
use Rattle.mj_ports.specs.declared.answers.SitAnswer.{SitAnswer}
use Rattle.mj_ports.specs.declared.answers.Heard.{Heard}
use Rattle.mj_ports.specs.declared.answers.Left.{Left}
use Rattle.mj_ports.specs.declared.answers.Expiry.{Expiry}
use Rattle.mj_ports.specs.declared.answers.SitAnswer.TheVariants as sits
use Rattle.mj_ports.specs.declared.answers.Heard.TheVariants as heard
use Rattle.mj_ports.specs.declared.answers.Left.TheVariants as left
use Rattle.mj_ports.specs.declared.answers.Expiry.TheVariants as expiry
use Rattle.mj_ports.specs.SeatCalls.{AnswersSit, AnswersSaid, AnswersGone, AnswersExpiry}
use Rattle.mj_seating.specs.declared.desk.Placed.{Placed}
use Rattle.mj_seating.specs.declared.desk.Placed.TheVariants as places
use Rattle.mj_deeds.specs.declared.answer.Answer.{Answer}
use Rattle.mj_deeds.specs.declared.rule.Rule.{Rule}
use Rattle.mj_wall.specs.declared.setting.Setting.{Setting}
use Rattle.mj_forms.specs.AnswerForms.{answer_of, join_of}
use Rattle.mj_history.specs.After.{Chair, Verdict, Taken, Late, Refused, Closing, verdict_on}
use Rattle.mj_history.specs.Legal.{Game, can_say, is_open}
use Rattle.mj_history.specs.Sitting.{placing, entries_of_placing}
use Rattle.mj_history.specs.Shown.{shown_of, sits_of, sit_answer, heard_of, hears_of, expires_of}
use Rattle.mj_history.specs.Arrivals.{Arrival, Leads, Bad, with_entries, sit_arrives, say_arrives, gone_arrives, expiry_arrives}
use Rattle.mj_core.specs.Calls.{after_of, author_of_seat, may_expire}
use Rattle.mj_core.proofs.ByEntries.{said-can}
use Rattle.mj_journal.specs.Calls.{GameCall, Sit, Say, Leave, Expire}
use Rattle.mj_journal.specs.Journals.{IsAtRest}
use Rattle.mj_journal.specs.Keeping.{game_of, end_of, Answers, HadMemory, IfKept, IfBoth, AnyMoment, Acknowledged, TellsGame}
use Rattle.mj_journal.specs.Outcomes.{of_sit, of_said, of_gone, of_expiry}
use Rattle.mj_journal.specs.Playing.{entered, sat, said, expired, is_by, is_asked, opens}
use Rattle.mj_journal.specs.declared.answered.Answered.{Answered}
use Rattle.mj_journal.specs.declared.answered.Answered.TheVariants as answered
use Rattle.mj_journal.specs.declared.kept.Kept.{Kept}
use Rattle.mj_journal.proofs.Enterings.{by_of, asked_of}
use Rattle.mj_journal.proofs.Moments.{weaker, unsynced}
use Rattle.mj_refereeing.specs.declared.watched.Watched.{Watched}
use Rattle.mj_refereeing.specs.Keep.{play_of}
use Rattle.mj_refereeing.specs.declared.keeping.Noted.{Noted}
use Rattle.mj_refereeing.specs.declared.keeping.Noted.TheVariants as notes
use Rattle.mj_refereeing.specs.Inner.Intake.{intake_of, present_in}
use Rattle.mj_refereeing.specs.Inner.Keeping.{list_of, noted_by, asked_in, Notes, NotesNone, GoesOn}
use Rattle.mj_refereeing.proofs.Fronts.{front-to, front-by}
use Rattle.mj_refereeing.proofs.PlayLaws.{sits-by, says, goes, expires-by, stale, present-is}
use Rattle.mj_refereeing.proofs.PlayedLaws.{IsAsked, is-asked}
use Rattle.mj_refereeing.proofs.Telling.{has_chair}

-- A game with the entry of a call, where it has one.
abbrev pub with_call : Game → GameCall → Game
with_call game call = record { setting = game.setting; entries = game.entries ++ list_of (entered (play_of game.setting) game.entries call) }

-- An arrival is that of a call.
abbrev pub IsArrivalOf : Arrival → Game → GameCall → Type 0
IsArrivalOf arrival game call = arrival ≡ Leads (intake_of (with_call game call))

placed-entered : (place : Placed) (join : Option JoinLine) → entries_of_placing 1 join place ≡ list_of (sat (sit_answer place) 1 join)
placed-entered (places.Sat seat) None = refl
placed-entered (places.Sat seat) (Some join) = refl
placed-entered (places.Back seat) None = refl
placed-entered (places.Back seat) (Some join) = refl
placed-entered (places.Refused why) None = refl
placed-entered (places.Refused why) (Some join) = refl

pub sit-arrival : (game : Game) (text : List ℕ) → (length game.setting.walls == 0) ≡ false → IsArrivalOf (sit_arrives (intake_of game) text) game (Sit 1 text)
sit-arrival game text wall = sits-by game text (list_of (sat (sits_of game.setting game.entries text) 1 (join_of text))) wall (placed-entered (placing (after_of game) (join_of text)) (join_of text))

said-heard : (verdict : Verdict) (author seat : ℕ) (answer : Answer) → list_of (said (heard_of verdict) author seat answer) ≡ Said author seat answer ∷ []
said-heard Taken author seat answer = refl
said-heard Late author seat answer = refl
said-heard (Refused rule) author seat answer = refl
said-heard (Closing rule) author seat answer = refl

pub say-arrival : (game : Game) (author seat : ℕ) (text : List ℕ) → author_of_seat game seat ≡ Some author → can_say (after_of game) author seat ≡
    true → is_asked (shown_of game.setting game.entries) author seat ≡ true
    → IsArrivalOf (say_arrives (intake_of game) seat text) game (Say author seat text)
say-arrival game author seat text by can asked =
    let c = has_chair (slice_get (after_of game).chairs seat) author by in
    says game author seat text by can ∙ ap (λ (es : List (Entry Answer)). Leads (with_entries (intake_of game) es)) (sym (whole c.0 c.1))
  where
    whole : (chair : Chair) → slice_get (after_of game).chairs seat ≡ Some chair → list_of (entered (play_of game.setting) game.entries (Say author seat text)) ≡ Said author seat (answer_of text) ∷ []
    whole chair at = rw (asked, at) (said-heard (verdict_on game.setting.rules (after_of game).deeds seat (answer_of text) chair.progress) author seat (answer_of text))

pub gone-arrival : (game : Game) (author seat : ℕ) → author_of_seat game seat ≡ Some author → is_by (shown_of game.setting game.entries) author seat ≡
    true → IsArrivalOf (gone_arrives (intake_of game) seat) game (Leave author seat)
gone-arrival game author seat by here =
    goes game author seat by ∙ ap (λ (b : Bool). Leads (with_entries (intake_of game) (list_of (if b then Some (Gone author seat) else None)))) (sym here)

expired-list : (opened can : Bool) (window t1 t2 : ℕ) → (opened ≡ false → can ≡ false) →
    ◌≡◌ {A = List (Entry Answer)} (if can then Expired 0 window t1 t2 ∷ [] else [])
    (list_of (expired (if opened then (if can then expiry.Closed else expiry.Early) else expiry.Stale) 0 window t1 t2))
expired-list true true window t1 t2 h = refl
expired-list true false window t1 t2 h = refl
expired-list false true window t1 t2 h = absurd (cc (h refl))
expired-list false false window t1 t2 h = refl

pub expire-arrival : (game : Game) (window t1 t2 : ℕ) → (length game.setting.walls == 0) ≡ false → IsArrivalOf (expiry_arrives (intake_of game) window t1 t2) game (Expire 0 window t1 t2)
expire-arrival game window t1 t2 wall =
    expires-by game window t1 t2 (may_expire game window t1 t2) wall refl
    ∙ ap (λ (es : List (Entry Answer)). Leads (with_entries (intake_of game) es)) (expired-list (is_open (after_of game).deeds window)
    (may_expire game window t1 t2) window t1 t2 (stale game window t1 t2))

-- What the calls of a kept game answer, told by the entry alone.
sit-adds : (answer right : SitAnswer) (author : ℕ) (join : Option JoinLine) (es fs : List (Entry Answer)) → HadMemory (of_sit answer) →
    AnswersSit es fs answer right author join → fs ≡ es ++ list_of (sat right author join)
sit-adds (sits.Sat seat) right author None es fs had is = absurd is.1
sit-adds (sits.Sat seat) right author (Some join) es fs had is = is.1.1 ∙ ap (λ (r : SitAnswer). es ++ list_of (sat {A = Answer} r author (Some join))) (sym is.0)
sit-adds (sits.Back seat) right author join es fs had is = is.1 ∙ ap (λ (r : SitAnswer). es ++ list_of (sat {A = Answer} r author join)) (sym is.0)
sit-adds (sits.Refused why) right author join es fs had is = is.1 ∙ sym (append-nil es) ∙ ap (λ (r : SitAnswer). es ++ list_of (sat {A = Answer} r author join)) (sym is.0)
sit-adds sits.NoMemory right author join es fs had is = absurd had

said-right : (answer right : Heard Rule) (author seat : ℕ) (reads : Answer) (es fs : List (Entry Answer)) → HadMemory (of_said answer) →
    AnswersSaid es fs answer right author seat reads → fs ≡ es ++ list_of (said right author seat reads)
said-right heard.Taken right author seat reads es fs had is = is.1 ∙ ap (λ (r : Heard Rule). es ++ list_of (said r author seat reads)) (sym is.0)
said-right heard.Late right author seat reads es fs had is = is.1 ∙ ap (λ (r : Heard Rule). es ++ list_of (said r author seat reads)) (sym is.0)
said-right (heard.Refused rule) right author seat reads es fs had is = is.1 ∙ ap (λ (r : Heard Rule). es ++ list_of (said r author seat reads)) (sym is.0)
said-right (heard.Closing rule) right author seat reads es fs had is = is.1 ∙ ap (λ (r : Heard Rule). es ++ list_of (said r author seat reads)) (sym is.0)
said-right heard.NoMemory right author seat reads es fs had is = absurd had

said-adds : (answer right : Heard Rule) (author seat : ℕ) (reads : Answer) (asked : Bool) (es fs : List (Entry Answer)) → asked ≡ true →
    HadMemory (of_said answer) → AnswersSaid es fs answer right author seat reads
    → fs ≡ es ++ list_of (if asked then said right author seat reads else None)
said-adds answer right author seat reads asked es fs so had is =
    said-right answer right author seat reads es fs had is ∙ ap (λ (b : Bool). es ++ list_of (if b then said right author seat reads else None)) (sym so)

gone-adds : (answer : Left) (author seat : ℕ) (here : Bool) (es fs : List (Entry Answer)) → here ≡ true → HadMemory (of_gone answer) →
    AnswersGone es fs answer author seat → fs ≡ es ++ list_of (if here then Some (Gone author seat) else None)
gone-adds left.Gone author seat here es fs so had is = is ∙ ap (λ (b : Bool). es ++ list_of (if b then Some (Gone author seat) else None)) (sym so)
gone-adds left.NoMemory author seat here es fs so had is = absurd had

expiry-adds : (answer right : Expiry) (author window t1 t2 : ℕ) (es fs : List (Entry Answer)) → HadMemory (of_expiry answer) →
    AnswersExpiry es fs answer right author window t1 t2 → fs ≡ es ++ list_of (expired right author window t1 t2)
expiry-adds expiry.Closed right author window t1 t2 es fs had is = is.1 ∙ ap (λ (r : Expiry). es ++ list_of (expired {A = Answer} r author window t1 t2)) (sym is.0)
expiry-adds expiry.Stale right author window t1 t2 es fs had is = is.1 ∙ sym (append-nil es) ∙ ap (λ (r : Expiry). es ++ list_of (expired {A = Answer} r author window t1 t2)) (sym is.0)
expiry-adds expiry.Early right author window t1 t2 es fs had is = is.1 ∙ sym (append-nil es) ∙ ap (λ (r : Expiry). es ++ list_of (expired {A = Answer} r author window t1 t2)) (sym is.0)
expiry-adds expiry.NoMemory right author window t1 t2 es fs had is = absurd had

abbrev pub setting_in : Watched → Setting × ℕ
setting_in w = (w.core.game.setting, w.core.seat)

abbrev pub entries_in : Watched → List (Entry Answer)
entries_in w = w.core.game.entries

-- A call adds its entry, where it has one.
abbrev pub Adds_entry : {T : Type 0} → GameCall → T → Setting × ℕ → List (Entry Answer) → List (Entry Answer) → Type 0
Adds_entry call answer s es fs = fs ≡ es ++ list_of (entered (play_of s.0) es call)

answers-more : {T : Type 0} (result : Answered T) (P Q : T → Setting × ℕ → List (Entry Answer) → List (Entry Answer) → Type 0) (w : Watched)
    (b : Option Watched) → ((answer : T) (fs : List (Entry Answer)) → P answer (setting_in w) (entries_in w) fs →
    Q answer (setting_in w) (entries_in w) fs)
    → Answers setting_in entries_in result P (Some w) b → Answers setting_in entries_in result Q (Some w) b
answers-more (answered.Done answer) P Q w None more h = absurd h
answers-more (answered.Done answer) P Q w (Some v) more h = (h.0, more answer (entries_in v) h.1)
answers-more answered.DiskFault P Q w b more h = h
answers-more answered.Stopped P Q w b more h = h
answers-more answered.NoMemory P Q w b more h = h

-- What each call says, of a game that is watched.
abbrev pub SitsSo : ℕ → List ℕ → SitAnswer → Setting × ℕ → List (Entry Answer) → List (Entry Answer) → Type 0
SitsSo author line answer s es fs = HadMemory (of_sit answer) × AnswersSit es fs answer (sits_of s.0 es line) author (join_of line)

abbrev pub SaysSo : ℕ → ℕ → List ℕ → Heard Rule → Setting × ℕ → List (Entry Answer) → List (Entry Answer) → Type 0
SaysSo author seat line answer s es fs = HadMemory (of_said answer) × AnswersSaid es fs answer (hears_of s.0 es seat (answer_of line)) author seat (answer_of line)

abbrev pub GoesSo : ℕ → ℕ → Left → Setting × ℕ → List (Entry Answer) → List (Entry Answer) → Type 0
GoesSo author seat answer s es fs = HadMemory (of_gone answer) × AnswersGone es fs answer author seat

abbrev pub ExpiresSo : ℕ → ℕ → ℕ → ℕ → Expiry → Setting × ℕ → List (Entry Answer) → List (Entry Answer) → Type 0
ExpiresSo author window t1 t2 answer s es fs = HadMemory (of_expiry answer) × AnswersExpiry es fs answer (expires_of s.0 es window t1 t2) author window t1 t2

pub answers-sit : (result : Answered SitAnswer) (author : ℕ) (line : List ℕ) (w : Watched) (b : Option Watched) → Answers setting_in entries_in result
    (SitsSo author line) (Some w) b → Answers setting_in entries_in result (Adds_entry (Sit author line)) (Some w) b
answers-sit result author line w b h =
    let right = sits_of w.core.game.setting w.core.game.entries line in
    answers-more result (SitsSo author line) (Adds_entry (Sit author line)) w b
    (λ answer fs p. sit-adds answer right author (join_of line) (entries_in w) fs p.0 p.1) h

pub answers-said : (result : Answered (Heard Rule)) (author seat : ℕ) (line : List ℕ) (w : Watched) (b : Option Watched) →
    is_asked (shown_of w.core.game.setting w.core.game.entries) author seat ≡ true → Answers setting_in entries_in result (SaysSo author seat line) (Some w) b
    → Answers setting_in entries_in result (Adds_entry (Say author seat line)) (Some w) b
answers-said result author seat line w b asked h =
    let right = hears_of w.core.game.setting w.core.game.entries seat (answer_of line) in
    let is = is_asked (shown_of w.core.game.setting w.core.game.entries) author seat in
    answers-more result (SaysSo author seat line) (Adds_entry (Say author seat line)) w b
    (λ answer fs p. said-adds answer right author seat (answer_of line) is (entries_in w) fs asked p.0 p.1) h

pub answers-gone : (result : Answered Left) (author seat : ℕ) (w : Watched) (b : Option Watched) → is_by (shown_of w.core.game.setting w.core.game.entries)
    author seat ≡ true → Answers setting_in entries_in result (GoesSo author seat) (Some w) b
    → Answers setting_in entries_in result (Adds_entry (Leave author seat)) (Some w) b
answers-gone result author seat w b here h =
    let is = is_by (shown_of w.core.game.setting w.core.game.entries) author seat in
    answers-more result (GoesSo author seat) (Adds_entry (Leave author seat)) w b
    (λ answer fs p. gone-adds answer author seat is (entries_in w) fs here p.0 p.1) h

pub answers-expiry : (result : Answered Expiry) (author window t1 t2 : ℕ) (w : Watched) (b : Option Watched) → Answers setting_in entries_in result (ExpiresSo author window t1 t2) (Some w) b
    → Answers setting_in entries_in result (Adds_entry (Expire author window t1 t2)) (Some w) b
answers-expiry result author window t1 t2 w b h =
    let right = expires_of w.core.game.setting w.core.game.entries window t1 t2 in
    answers-more result (ExpiresSo author window t1 t2) (Adds_entry (Expire author window t1 t2)) w b
    (λ answer fs p. expiry-adds answer right author window t1 t2 (entries_in w) fs p.0 p.1) h

no_game : {G : Type 0} (g : G) → Some g ≡ None → ⊥
no_game g e = cc e

module _ {D : Type 0} (told : D → Option (List ℕ)) (may_leave : D → List ℕ → Type 0) (moment : D → ℕ) (left_since secured_since : D → ℕ → List ℕ → Type 0)
    (counts_now : (disk : D) (t : ℕ) (image : List ℕ) → t ≤ moment disk → may_leave disk image → left_since disk t image)
    (T : Type 0) (tag : List ℕ) (seat : ℕ) (kept new_kept : Kept Watched) (old new : D) (call : GameCall) (arrival : Arrival) where
  same_core : (v w : Watched) (es : List (Entry Answer)) → v.core.game.setting ≡ w.core.game.setting → v.core.game.entries ≡ es → v.core.game ≡ record { setting = w.core.game.setting; entries = es }
  same_core v w es p q = λ i. record { setting = p i; entries = q i }

  goes_as : (v w : Watched) (es : List (Entry Answer)) → game_of new_kept ≡ Some v → setting_in v ≡ setting_in w → v.core.game.entries ≡ es → w.core.seat ≡ seat
      → (length w.core.game.setting.walls == 0) ≡ false
      → IsAtRest (told new) (may_leave new) (end_of new_kept) → TellsGame (opens (play_of w.core.game.setting) tag) (told new) v.core.game.entries (end_of new_kept)
      → GoesOn told may_leave tag seat new_kept new (record { setting = w.core.game.setting; entries = es })
  goes_as v w es is same entries of_seat wall rest tells = record {
    watched = v;
    is = is;
    core = same_core v w es (ap (λ (s : Setting × ℕ). s.0) same) entries;
    of_seat = ap (λ (s : Setting × ℕ). s.1) same ∙ of_seat;
    wall = wall;
    rest = rest;
    tells = subst (λ (es : List (Entry Answer)). TellsGame (opens (play_of w.core.game.setting) tag) (told new) es (end_of new_kept)) entries tells;
  }

  module _ (w : Watched) (of_seat : w.core.seat ≡ seat) (wall : (length w.core.game.setting.walls == 0) ≡ false)
      (tells : TellsGame (opens (play_of w.core.game.setting) tag) (told old) w.core.game.entries (end_of kept)) (leads : IsArrivalOf arrival w.core.game call) where
    noted_at : (result : Answered T) (b : Option Watched) → game_of new_kept ≡ b → Answers setting_in entries_in result (Adds_entry call) (Some w) b →
        IfKept b (λ g. IsAtRest (told new) (may_leave new) (end_of new_kept))
        → AnyMoment told moment left_since secured_since (play_of w.core.game.setting) w.core.game.entries (end_of kept) call result old new
        → IfBoth (Some w) b (λ g h. Acknowledged told may_leave moment secured_since (play_of g.core.game.setting) old new g.core.game.entries (end_of kept) h.core.game.entries (end_of new_kept))
        → Notes told may_leave moment secured_since (noted_by result) tag seat w.core.game new_kept old new arrival
    noted_at (answered.Done answer) None is h rest any after = absurd h
    noted_at (answered.Done answer) (Some v) is h rest any after = record {
      next = with_call w.core.game call;
      leads = leads;
      setting = refl;
      goes = goes_as v w (w.core.game.entries ++ list_of (entered (play_of w.core.game.setting) w.core.game.entries call)) is h.0 h.1 of_seat wall rest (after.tells tag tells);
      on = after.on;
      syncs = λ bytes is.
          weaker moment secured_since old new _ _ (any tag bytes is (tells bytes is)).1
          (λ image o. front-by (opens (play_of w.core.game.setting) tag) w.core.game.entries image (entered (play_of w.core.game.setting) w.core.game.entries call) o);
    }
    noted_at answered.DiskFault b is h rest any after = record {
      next = with_call w.core.game call;
      entry = entered (play_of w.core.game.setting) w.core.game.entries call;
      leads = leads;
      setting = refl;
      entries = refl;
      each = λ bytes image is left. let run = (any tag bytes is (tells bytes is)).0 in run.each image (counts_now new (moment old) image run.later left);
      syncs = λ bytes is.
          weaker moment secured_since old new _ _ (any tag bytes is (tells bytes is)).1 (λ image o. front-to (opens (play_of w.core.game.setting) tag) w.core.game.entries image o);
    }
    noted_at answered.Stopped b is h rest any after = absurd (no_game w h.0)
    noted_at answered.NoMemory None is h rest any after = absurd h
    noted_at answered.NoMemory (Some v) is h rest any after = record {
      goes = goes_as v w w.core.game.entries is h.0 h.1 of_seat wall rest (after.tells tag tells);
      on = after.on;
      syncs = λ bytes is.
          weaker moment secured_since old new _ _ (any tag bytes is (tells bytes is)).1 (λ image o. front-to (opens (play_of w.core.game.setting) tag) w.core.game.entries image o);
    }

  -- So for a game that goes on.
  pub noted : (result : Answered T) (game : Game) → GoesOn told may_leave tag seat kept old game → IsArrivalOf arrival game call
      → ((w : Watched) → game_of kept ≡ Some w → Answers setting_in entries_in result (Adds_entry call) (Some w) (game_of new_kept)) →
      IfKept (game_of new_kept) (λ g. IsAtRest (told new) (may_leave new) (end_of new_kept))
      → IfKept (game_of kept) (λ g. AnyMoment told moment left_since secured_since (play_of g.core.game.setting) g.core.game.entries (end_of kept) call result old new)
      → IfBoth (game_of kept) (game_of new_kept)
      (λ g h. Acknowledged told may_leave moment secured_since (play_of g.core.game.setting) old new g.core.game.entries (end_of kept) h.core.game.entries (end_of new_kept))
      → Notes told may_leave moment secured_since (noted_by result) tag seat game new_kept old new arrival
  noted result game g leads answers rest any after =
      let w = g.watched in
      subst (λ (x : Game). Notes told may_leave moment secured_since (noted_by result) tag seat x new_kept old new arrival) g.core
      (noted_at w g.of_seat (subst (λ (x : Game). (length x.setting.walls == 0) ≡ false) (sym g.core) g.wall)
      (subst (λ (x : Game). TellsGame (opens (play_of x.setting) tag) (told old) x.entries (end_of kept)) (sym g.core) g.tells)
      (subst (λ (x : Game). IsArrivalOf arrival x call) (sym g.core) leads) result (game_of new_kept) refl (answers w g.is) rest
      (subst (λ (x : Option Watched). IfKept x (λ g. AnyMoment told moment left_since secured_since (play_of g.core.game.setting) g.core.game.entries (end_of kept) call result old new)) g.is any)
      (subst (λ (x : Option Watched). IfBoth x (game_of new_kept) (λ g h. Acknowledged told may_leave moment secured_since (play_of g.core.game.setting) old new g.core.game.entries
      (end_of kept) h.core.game.entries (end_of new_kept))) g.is after))

module _ {D : Type 0} (told : D → Option (List ℕ)) (may_leave : D → List ℕ → Type 0) (moment : D → ℕ) (secured_since : D → ℕ → List ℕ → Type 0)
    (kept : Kept Watched) (disk : D) (none_secured : (bytes : List ℕ) → secured_since disk (moment disk) bytes → ⊥) (tag : List ℕ) (seat : ℕ)
    (game : Game) (goes : GoesOn told may_leave tag seat kept disk game) where
  pub none-noted : NotesNone told may_leave moment secured_since tag seat game kept disk disk
  none-noted = record { goes = goes; on = λ bytes is. (bytes, is); syncs = λ bytes is. unsynced moment secured_since disk _ none_secured }

  pub bad-noted : (arrival : Arrival) → arrival ≡ Bad → Notes told may_leave moment secured_since notes.Bad tag seat game kept disk disk arrival
  bad-noted arrival is = (is, none-noted)

module _ {D : Type 0} (told : D → Option (List ℕ)) (may_leave : D → List ℕ → Type 0) (moment : D → ℕ) (left_since secured_since : D → ℕ → List ℕ → Type 0)
    (counts_now : (disk : D) (t : ℕ) (image : List ℕ) → t ≤ moment disk → may_leave disk image → left_since disk t image) (kept new_kept : Kept Watched) (old new : D)
    (tag : List ℕ) (seat : ℕ) (game : Game) (goes : GoesOn told may_leave tag seat kept old game) (rest : IfKept (game_of new_kept) (λ g. IsAtRest (told new) (may_leave new) (end_of new_kept)))
    (after : IfBoth (game_of kept) (game_of new_kept)
    (λ g h. Acknowledged told may_leave moment secured_since (play_of g.core.game.setting) old new g.core.game.entries (end_of kept) h.core.game.entries (end_of new_kept))) where
  abbrev AnyMomentOf : {T : Type 0} → GameCall → Answered T → Type 0
  AnyMomentOf call result = IfKept (game_of kept) (λ g. AnyMoment told moment left_since secured_since (play_of g.core.game.setting) g.core.game.entries (end_of kept) call result old new)

  abbrev AnswersAs : {T : Type 0} → Answered T → (T → Setting × ℕ → List (Entry Answer) → List (Entry Answer) → Type 0) → Option Watched → Type 0
  AnswersAs result P o = Answers setting_in entries_in result P o (game_of new_kept)

  noted-as : {T : Type 0} (result : Answered T) (n : Noted) (call : GameCall) (arrival : Arrival) → n ≡ noted_by result →
      IsArrivalOf arrival game call → ((w : Watched) → game_of kept ≡ Some w → AnswersAs result (Adds_entry call) (Some w)) → AnyMomentOf call result
      → Notes told may_leave moment secured_since n tag seat game new_kept old new arrival
  noted-as result n call arrival is leads answers any =
      subst (λ (m : Noted). Notes told may_leave moment secured_since m tag seat game new_kept old new arrival) (sym is)
      (noted told may_leave moment left_since secured_since counts_now _ tag seat kept new_kept old new call arrival result game goes leads answers rest any after)

  pub noted-sit : (result : Answered SitAnswer) (n : Noted) (line : List ℕ) → n ≡ noted_by result
      → AnswersAs result (SitsSo 1 line) (game_of kept)
      → AnyMomentOf (Sit 1 line) result → Notes told may_leave moment secured_since n tag seat game new_kept old new (sit_arrives (intake_of game) line)
  noted-sit result n line is answers any =
      noted-as result n (Sit 1 line) (sit_arrives (intake_of game) line) is (sit-arrival game line goes.wall)
      (λ w at. answers-sit result 1 line w (game_of new_kept)
      (subst (λ (o : Option Watched). AnswersAs result (SitsSo 1 line) o) at answers)) any

  asked-for : (author speaker : ℕ) (g : Game) → IsAsked g author speaker → is_asked (shown_of g.setting g.entries) author speaker ≡ true
  asked-for author speaker g a = asked_of (shown_of g.setting g.entries) author speaker a.within a.here a.due

  pub noted-say : (result : Answered (Heard Rule)) (n : Noted) (who speaker author : ℕ) (line : List ℕ) → n ≡ noted_by result →
      ((w : Watched) → game_of kept ≡ Some w → ◌≡◌ {A = Option (ℕ × ℕ)} (Some (speaker, author)) (asked_in w.core.game who))
      → AnswersAs result (SaysSo author speaker line) (game_of kept)
      → AnyMomentOf (Say author speaker line) result → Notes told may_leave moment secured_since n tag seat game new_kept old new (say_arrives (intake_of game) who line)
  noted-say result n who speaker author line is asked answers any =
      let w = goes.watched in
      let a = is-asked w.core.game who speaker author w.few (asked w goes.is) in
      let here = subst (λ (g : Game). IsAsked g author speaker) goes.core a.1 in
      let leads = subst (λ (m : ℕ). IsArrivalOf (say_arrives (intake_of game) m line) game (Say author speaker line)) a.0
      (say-arrival game author speaker line here.here (said-can game author speaker here.here here.due) (asked-for author speaker game here)) in
      noted-as result n (Say author speaker line) (say_arrives (intake_of game) who line) is leads
      (λ v at. answers-said result author speaker line v (game_of new_kept) (asked-for author speaker v.core.game (is-asked v.core.game who speaker author v.few (asked v at)).1)
      (subst (λ (o : Option Watched). AnswersAs result (SaysSo author speaker line) o) at answers)) any

  by-for : (author leaver : ℕ) (g : Game) → leaver < 4 → author_of_seat g leaver ≡ Some author → is_by (shown_of g.setting g.entries) author leaver ≡ true
  by-for author leaver g within here = by_of (shown_of g.setting g.entries) author leaver within here

  pub noted-gone : (result : Answered Left) (n : Noted) (who leaver author : ℕ) → n ≡ noted_by result → leaver < 4 →
      ((w : Watched) → game_of kept ≡ Some w → ◌≡◌ {A = Option (ℕ × ℕ)} (Some (leaver, author)) (present_in w.core.game who))
      → AnswersAs result (GoesSo author leaver) (game_of kept)
      → AnyMomentOf (Leave author leaver) result → Notes told may_leave moment secured_since n tag seat game new_kept old new (gone_arrives (intake_of game) who)
  noted-gone result n who leaver author is within here answers any =
      let w = goes.watched in
      let found = present-is (author_of_seat w.core.game who) leaver author who (here w goes.is) in
      let of_game : author_of_seat game leaver ≡ Some author = subst (λ (m : ℕ). author_of_seat game m ≡ Some author) (sym found.1)
      (subst (λ (g : Game). author_of_seat g who ≡ Some author) goes.core found.0) in
      let leads = subst (λ (m : ℕ). IsArrivalOf (gone_arrives (intake_of game) m) game (Leave author leaver)) found.1
      (gone-arrival game author leaver of_game (by-for author leaver game within of_game)) in
      noted-as result n (Leave author leaver) (gone_arrives (intake_of game) who) is leads
      (λ v at.
      let is_at = present-is (author_of_seat v.core.game who) leaver author who (here v at) in
      let of_v : author_of_seat v.core.game leaver ≡ Some author = subst (λ (m : ℕ). author_of_seat v.core.game m ≡ Some author) (sym is_at.1) is_at.0 in
      answers-gone result author leaver v (game_of new_kept) (by-for author leaver v.core.game within of_v)
      (subst (λ (o : Option Watched). AnswersAs result (GoesSo author leaver) o) at answers)) any

  pub noted-expiry : (result : Answered Expiry) (n : Noted) (window t1 t2 : ℕ) → n ≡ noted_by result
      → AnswersAs result (ExpiresSo 0 window t1 t2) (game_of kept)
      → AnyMomentOf (Expire 0 window t1 t2) result → Notes told may_leave moment secured_since n tag seat game new_kept old new (expiry_arrives (intake_of game) window t1 t2)
  noted-expiry result n window t1 t2 is answers any =
      noted-as result n (Expire 0 window t1 t2) (expiry_arrives (intake_of game) window t1 t2) is (expire-arrival game window t1 t2 goes.wall)
      (λ w at. answers-expiry result 0 window t1 t2 w (game_of new_kept)
      (subst (λ (o : Option Watched). AnswersAs result (ExpiresSo 0 window t1 t2) o) at answers)) any
