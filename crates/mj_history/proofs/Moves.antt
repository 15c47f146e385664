-- The laws by which a game is one that workers play by entries: what an entry does to the seat that it is of, and to others.
use Rattle.std.proofs.Common.{◌≡◌, ◌≢◌, ⊎_elim, ℕ, zero, suc, ◌+◌, ◌-◌, ◌<◌, ◌≤◌, ◌==◌, ◌&&◌, not, inl, inr, List, [], ◌∷◌, ◌++◌}
use Rattle.std.proofs.Common.{length, Bool, true, false, refl, true≢false, ap, ◌∙◌, sym, subst, arith, append-nil, append_assoc}
use Rattle.std.specs.Prelude.{◌⊎◌, if◌then◌else◌, Option, Some, None, is_some, unwrap_or, option_map, slice_get, slice_set, flat_map, take, nat_lt}
use Rattle.std.specs.Option.{option_map_or}
use Rattle.std.proofs.lemmas.Bool.{and_parts, not-true, ltb-false, eq-eqb}
use Rattle.std.proofs.lemmas.Bool.Decides.{eqb_tells}
use Rattle.std.proofs.lemmas.Option.{same_Some, slice_get_within}
use Rattle.mj_ports.specs.declared.entry.Entry.{Entry}
use Rattle.mj_ports.specs.declared.entry.Entry.TheVariants.{Sat, Back, Said, Gone, Expired}
use Rattle.mj_ports.specs.Entries.{next_seat, IsAside}
use Rattle.mj_ports.specs.Seats.{Showing, Unmoved, Begins, Answers, Adds, Leaves, GoesOn, IsAskedAgain, lines_to, hello, replay}
use Rattle.mj_ports.specs.declared.answers.Control.TheVariants as control
use Rattle.mj_ports.specs.Seats.{pending as waiting}
use Rattle.mj_ports.specs.declared.answers.Heard.{Heard}
use Rattle.mj_ports.specs.declared.answers.Heard.TheVariants as heard
use Rattle.mj_deeds.specs.declared.rule.Rule.{Rule}
use Rattle.mj_deeds.specs.declared.answer.Answer.{Answer}
use Rattle.mj_deeds.specs.declared.deed.Deed.{Deed}
use Rattle.mj_deeds.specs.Four.{at_seat}
use Rattle.mj_wall.specs.declared.setting.Rules.{Rules}
use Rattle.mj_wall.specs.declared.setting.Setting.{Setting}
use Rattle.mj_forms.specs.Lines.{error_text}
use Rattle.mj_history.specs.After.{After, Chair, Verdict, Taken, Late, Refused, Closing, verdict_on, is_present, lines_for, after_said}
use Rattle.mj_history.specs.After.{after_gone, after_back, due_on_return, new_chair, own_part, pending, next_deed, step, after}
use Rattle.mj_history.specs.Legal.{IsLegal, is_present_by, may_say, can_return, is_permitted}
use Rattle.mj_history.specs.Sitting.{author_at}
use Rattle.mj_history.specs.Shown.{shown, due_at, line_at, is_connected, seat_at, told_at, heard_of, hears_of, control_line}
use Rattle.mj_history.specs.Seated.{OthersLeaveAlone, SeatsBegin, ReturnsBegin, AnswersGoByVerdict, SeatsLeave}
use Rattle.mj_history.proofs.Places.{slice_get-append_other, slice_get-set_at, slice_get-set_other}
use Rattle.mj_history.proofs.Connections.{ArePlaced, IsConnected, connected-by, seat-is, told-is, apart-at, nobody-at}
use Rattle.mj_history.proofs.Entered.{step-chairs, step-deeds, listed, entered-is, seats-are, step-placed, after-placed, back_chair}
use Rattle.mj_history.proofs.Entered.{said_chair, gone_chair, said-chairs, gone-chairs, back-chairs, sat-chairs}
use Rattle.mj_history.proofs.Seats.{AreSeats, step_seats, legal_seats, held_within}
use Rattle.mj_history.proofs.Seated.{stepped, beginnings_are_legal, stays_step, last_permitted, said_present, on_off}
use Rattle.mj_history.proofs.LinesGrow.{line_kept, no_line_behind}

-- The seats of what entries come to are placed.
abbrev Placed : After → Type 0
Placed now = ArePlaced now.entered now.chairs

-- The connection of a held seat, by its place.
seat_there : (place seat : ℕ) (chairs : List Chair) (chair : Chair) → slice_get chairs seat ≡ Some chair → seat_at chairs place ≡ Some seat →
    (is_present chair ≡ true) × ((chair.place == place) ≡ true)
seat_there place seat chairs chair e s =
    let k : IsConnected place seat chairs = connected-by place chairs seat s in
    let same : k.chair ≡ chair = same_Some k.chair chair (sym k.held ∙ e) in
    (ap is_present (sym same) ∙ k.present, ap (λ (c : Chair). c.place == place) (sym same) ∙ k.place)

-- A held seat that is as it was has not moved.
unmoved_if : (rules : Rules) (now next : After) (seat : ℕ) (chair : Chair) → Placed now → Placed next → slice_get now.chairs seat ≡ Some chair →
    slice_get next.chairs seat ≡ Some chair → Unmoved seat (shown rules now) (shown rules next)
unmoved_if rules now next seat chair k kn e f =
    let same : slice_get next.chairs seat ≡ slice_get now.chairs seat = f ∙ sym e in
    record {
      present = ap (λ (o : Option Chair). option_map_or (λ (c : Chair). c.author) o None) same;
      due = ap (λ (o : Option Chair). option_map_or (λ (c : Chair). c.progress.due) o 0) same;
      is_told = ap (λ (o : Option Chair). option_map_or (λ (c : Chair). not (c.progress.refused == 0)) o false) same;
      seat_of = λ place s. let at = seat_there place seat now.chairs chair e s in seat-is place next.chairs seat chair (kn.once place) f at.0 at.1;
      told = λ place s. let at = seat_there place seat now.chairs chair e s in told-is place next.chairs seat chair (kn.once place) f at.1
          ∙ sym (told-is place now.chairs seat chair (k.once place) e at.1);
    }

held_by : (o : Option Chair) (author : ℕ) → option_map_or (λ (c : Chair). c.author) o None ≡ Some author → (chair : Chair) × (o ≡ Some chair) × (chair.author ≡ Some author)
held_by None author h = cc
held_by (Some chair) author h = (chair, refl, h)

by_is : (by author : ℕ) (chair : Chair) → is_present_by by chair ≡ true → chair.author ≡ Some author → by ≡ author
by_is by author chair p a = elim (eqb_tells author by) [
  | inl s ↦ sym s.1
  | inr s ↦ absurd (true≢false (sym p ∙ ap (λ (o : Option ℕ). option_map_or (λ (one : ℕ). one == by) o false) a ∙ s.0))
]

gone_is : (now : After) (chair : Chair) (author : ℕ) → can_return now chair ≡ true → chair.author ≡ Some author → ⊥
unfolding can_return
gone_is now chair author p a =
    let out : is_present chair ≡ false = not-true (is_present chair) (and_parts _ _ (and_parts _ _ (and_parts _ _ p).0).0).0 in
    true≢false (sym (ap is_some a) ∙ out)

-- What an entry is not of stays as it was.
said_other : (rules : Rules) (now : After) (who seat : ℕ) (answer : Answer) (held : Option Chair) → who ≢ seat →
    slice_get (option_map_or (after_said rules now who answer) held now).chairs seat ≡ slice_get now.chairs seat
unfolding after_said
said_other rules now who seat answer None ne = refl
said_other rules now who seat answer (Some chair) ne = slice_get-set_other now.chairs who seat _ ne

gone_other : (rules : Rules) (now : After) (who seat : ℕ) (held : Option Chair) → who ≢ seat → slice_get (option_map_or (after_gone rules now who) held now).chairs seat ≡ slice_get now.chairs seat
unfolding after_gone
gone_other rules now who seat None ne = refl
gone_other rules now who seat (Some chair) ne = slice_get-set_other now.chairs who seat _ ne

back_other : (rules : Rules) (now : After) (author who seat : ℕ) (held : Option Chair) → who ≢ seat →
    slice_get (option_map_or (after_back rules now author who) held now).chairs seat ≡ slice_get now.chairs seat
unfolding after_back
back_other rules now author who seat None ne = refl
back_other rules now author who seat (Some chair) ne = slice_get-set_other now.chairs who seat _ ne

not_last : (seat n : ℕ) → seat < n → seat ≢ n
not_last seat n h e = omega arith

aside_not : {A : Type 0} (by author who seat : ℕ) → ((by ≢ author) ⊎ (Some who ≢ Some seat)) → by ≡ author → who ≡ seat → A
aside_not by author who seat aside b w = absurd (⊎_elim (λ (n : by ≢ author). n b) (λ (n : Some who ≢ Some seat). n (ap (λ (k : ℕ). Some k) w)) aside)

same_there : (setting : Setting) (now : After) (before : List (Entry Answer)) (entry : Entry Answer) (author seat : ℕ) (chair : Chair) →
    is_permitted setting now entry ≡ true → IsAside author seat before entry → slice_get now.chairs seat ≡ Some chair
    → chair.author ≡ Some author → slice_get (own_part setting now entry).chairs seat ≡ slice_get now.chairs seat
unfolding own_part
same_there setting now before (Sat by name key) author seat chair p aside e a = slice_get-append_other now.chairs _ seat (not_last seat (length now.chairs) (slice_get_within now.chairs seat chair e))
same_there setting now before (Said by who answer) author seat chair p aside e a = said_other setting.rules now who seat answer (slice_get now.chairs who) (λ w.
    let may : may_say now by chair ≡ true = sym (ap (λ (o : Option Chair). option_map_or (may_say now by) o false) (ap (slice_get now.chairs) w ∙ e)) ∙ (and_parts _ _ p).1 in
    aside_not by author who seat aside (by_is by author chair (said_present now by chair may) a) w)
same_there setting now before (Back by who) author seat chair p aside e a = back_other setting.rules now by who seat (slice_get now.chairs who) (λ w.
    gone_is now chair author (sym (ap (λ (o : Option Chair). option_map_or (can_return now) o false) (ap (slice_get now.chairs) w ∙ e)) ∙ p) a)
same_there setting now before (Gone by who) author seat chair p aside e a = gone_other setting.rules now who seat (slice_get now.chairs who) (λ w.
    let here : is_present_by by chair ≡ true = sym (ap (λ (o : Option Chair). option_map_or (is_present_by by) o false) (ap (slice_get now.chairs) w ∙ e)) ∙ p in
    aside_not by author who seat aside (by_is by author chair here a) w)
same_there setting now before (Expired by window t1 t2) author seat chair p aside e a = refl

pub others_leave_alone : OthersLeaveAlone
others_leave_alone setting entries entry author seat l here aside =
    let now : After = after setting entries in
    let c = held_by (slice_get now.chairs seat) author here in
    let own : slice_get (own_part setting now entry).chairs seat ≡ slice_get now.chairs seat = same_there setting now entries entry author seat c.0
    (last_permitted setting entries entry l) aside c.1 c.2 in
    let there : slice_get (step setting now entry).chairs seat ≡ Some c.0 = ap (λ (cs : List Chair). slice_get cs seat) (step-chairs setting now entry) ∙ own ∙ c.1 in
    stepped (Unmoved seat (shown setting.rules now)) setting entries entry (unmoved_if setting.rules now (step setting now entry) seat c.0
    (after-placed setting entries) (step-placed setting now entry (after-placed setting entries)) c.1 there)

-- A connection begins.
begins_if : (rules : Rules) (next : After) (seat place author : ℕ) (chair : Chair) (first : List ℕ) → Placed next → AreSeats next.chairs →
    slice_get next.chairs seat ≡ Some chair → chair.author ≡ Some author → chair.place ≡ place → chair.progress.due ≤ length next.deeds
    → (chair.progress.refused == 0) ≡ true → chair.progress.told ≡ first → Begins author seat place chair.progress.due first (shown rules next)
begins_if rules next seat place author chair first k s e a at d r t =
    let here : (chair.place == place) ≡ true = eq-eqb chair.place place at in
    record {
      within = held_within next.chairs seat chair s e;
      present = ap (λ (o : Option Chair). option_map_or (λ (c : Chair). c.author) o None) e ∙ a;
      due_is = ap (λ (o : Option Chair). option_map_or (λ (c : Chair). c.progress.due) o 0) e;
      due_within = d;
      is_told = ap (λ (o : Option Chair). option_map_or (λ (c : Chair). not (c.progress.refused == 0)) o false) e ∙ ap not r;
      seat_of = seat-is place next.chairs seat chair (k.once place) e (ap is_some a) here;
      told = told-is place next.chairs seat chair (k.once place) e here ∙ t;
    }

seats_next : (setting : Setting) (entries : List (Entry Answer)) (entry : Entry Answer) → IsLegal setting (entries ++ entry ∷ []) → AreSeats (step setting (after setting entries) entry).chairs
seats_next setting entries entry l =
    step_seats setting (after setting entries) entry (last_permitted setting entries entry l) (legal_seats setting entries (beginnings_are_legal setting entries (entry ∷ []) l))

at_end : (chairs : List Chair) (chair : Chair) → slice_get (chairs ++ chair ∷ []) (length chairs) ≡ Some chair
at_end [] chair = refl
at_end (c ∷ cs) chair = at_end cs chair

pub seats_begin : SeatsBegin
seats_begin setting entries author name key l =
    let now : After = after setting entries in
    let entry : Entry Answer = Sat author name key in
    let chair : Chair = new_chair now.entered author name key in
    let there : slice_get (step setting now entry).chairs (length now.chairs) ≡ Some chair =
    ap (λ (cs : List Chair). slice_get cs (length now.chairs)) (sat-chairs setting now author name key) ∙ at_end now.chairs chair in
    let begins : Begins author (length now.chairs) now.entered 0 (hello control_line) (shown setting.rules (step setting now entry)) =
    begins_if setting.rules (step setting now entry) (length now.chairs) now.entered author chair _
    (step-placed setting now entry (after-placed setting entries)) (seats_next setting entries entry l) there refl refl
    (least (length (step setting now entry).deeds)) refl refl in
    stepped (Begins author (next_seat entries) (length entries) 0 (hello control_line)) setting entries entry
    (subst (λ (n : ℕ). Begins author (next_seat entries) n 0 (hello control_line) (shown setting.rules (step setting now entry))) (entered-is setting entries)
    (subst (λ (n : ℕ). Begins author n now.entered 0 (hello control_line) (shown setting.rules (step setting now entry))) (seats-are setting entries) begins))
  where
    least : (n : ℕ) → 0 ≤ n
    least n = omega arith

-- A held seat of a permitted entry.
pub held_here : (o : Option Chair) (test : Chair → Bool) → option_map_or test o false ≡ true → (chair : Chair) × (o ≡ Some chair) × (test chair ≡ true)
held_here None test h = cc
held_here (Some chair) test h = (chair, refl, h)

-- The lines before a number.
flat_take : (xs : List (List ℕ)) (n : ℕ) → flat_map (λ (l : List ℕ). l) (take (suc n) xs) ≡ flat_map (λ (l : List ℕ). l) (take n xs) ++ unwrap_or (slice_get xs n) []
flat_take [] zero = refl
flat_take [] (suc n) = refl
flat_take (x ∷ xs) zero = append-nil x
flat_take (x ∷ xs) (suc n) = ap (λ (l : List ℕ). x ++ l) (flat_take xs n) ∙ sym (append_assoc x (flat_map (λ (l : List ℕ). l) (take n xs)) (unwrap_or (slice_get xs n) []))

lines_before : (rules : Rules) (w : Showing) (seat : ℕ) (deeds : List Deed) (n : ℕ) →
    ((k : ℕ) → k < length deeds → w.text seat k ≡ line_at rules deeds seat k) → n ≤ length deeds →
    flat_map (λ (l : List ℕ). l) (take n (lines_for rules seat deeds)) ≡ lines_to w seat n
lines_before rules w seat deeds zero same h = nothing (lines_for rules seat deeds)
  where
    nothing : (xs : List (List ℕ)) → flat_map (λ (l : List ℕ). l) (take 0 xs) ≡ []
    nothing [] = refl
    nothing (x ∷ xs) = refl
lines_before rules w seat deeds (suc n) same h =
    flat_take (lines_for rules seat deeds) n
    ∙ (λ i. lines_before rules w seat deeds n same (less n (length deeds) h) i ++ sym (same n (near n (length deeds) h)) i)
  where
    less : (n m : ℕ) → suc n ≤ m → n ≤ m
    less n m h = omega arith

    near : (n m : ℕ) → suc n ≤ m → n < m
    near n m h = omega arith

due_within : (now : After) (seat : ℕ) → due_on_return now seat ≤ length now.deeds
due_within now seat = by (is_some (at_seat now.slots seat)) (length now.deeds)
  where
    by : (b : Bool) (n : ℕ) → (if b then n else n - 1) ≤ n
    by true n = omega arith
    by false n = omega arith

pub returns_begin : ReturnsBegin
returns_begin setting entries author seat l =
    let now : After = after setting entries in
    let entry : Entry Answer = Back author seat in
    let next : After = step setting now entry in
    let c = held_here (slice_get now.chairs seat) (can_return now) (last_permitted setting entries entry l) in
    let chair : Chair = back_chair setting.rules now author seat c.0 in
    let there : slice_get next.chairs seat ≡ Some chair = ap (λ (cs : List Chair). slice_get cs seat) (back-chairs setting now author seat c.0 c.1) ∙ slice_get-set_at now.chairs seat chair c.0 c.1 in
    let due : due_at next seat ≡ due_on_return now seat = ap (λ (o : Option Chair). option_map_or (λ (one : Chair). one.progress.due) o 0) there in
    let same : (k : ℕ) → k < length now.deeds → line_at setting.rules next.deeds seat k ≡ line_at setting.rules now.deeds seat k = λ k h.
    ap (λ (ds : List Deed). line_at setting.rules ds seat k) (step-deeds setting now entry)
    ∙ line_kept setting.rules seat k now.deeds (listed (next_deed setting (own_part setting now entry) entry)) h in
    let told : chair.progress.told ≡ control_line control.Hello ++ control_line (control.Head (due_on_return now seat)) ++ lines_to (shown setting.rules next) seat (due_on_return now seat) =
    ap (λ (t : List ℕ). control_line control.Hello ++ control_line (control.Head (due_on_return now seat)) ++ t)
    (lines_before setting.rules (shown setting.rules next) seat now.deeds (due_on_return now seat) same (due_within now seat)) in
    let first : chair.progress.told ≡ replay control_line (shown setting.rules next) seat =
    told ∙ ap (λ (n : ℕ). control_line control.Hello ++ control_line (control.Head n) ++ lines_to (shown setting.rules next) seat n) (sym due) in
    let begins : Begins author seat now.entered (due_on_return now seat) (replay control_line (shown setting.rules next) seat) (shown setting.rules next) =
    begins_if setting.rules next seat now.entered author chair _ (step-placed setting now entry (after-placed setting entries))
    (seats_next setting entries entry l) there refl refl (still (due_on_return now seat) (length now.deeds) (length next.deeds)
    (due_within now seat) (stays_step setting now entry).deeds) refl first in
    stepped (λ (w : Showing). Begins author seat (length entries) (w.due seat) (replay control_line w seat) w) setting entries entry
    (subst (λ (n : ℕ). Begins author seat n (due_at next seat) (replay control_line (shown setting.rules next) seat) (shown setting.rules next)) (entered-is setting entries)
    (subst (λ (n : ℕ). Begins author seat now.entered n (replay control_line (shown setting.rules next) seat) (shown setting.rules next)) (sym due) begins))
  where
    still : (a b c : ℕ) → a ≤ b → b ≤ c → a ≤ c
    still a b c h k = omega arith

-- What is pending for a held seat, by its progress.
line_or_none : (rules : Rules) (deeds : List Deed) (seat k : ℕ) → (if nat_lt k (length deeds) then line_at rules deeds seat k else []) ≡ line_at rules deeds seat k
line_or_none rules deeds seat k = by (nat_lt k (length deeds)) refl
  where
    by : (b : Bool) → nat_lt k (length deeds) ≡ b → (if b then line_at rules deeds seat k else []) ≡ line_at rules deeds seat k
    by true e = refl
    by false e = sym (no_line_behind rules seat k deeds (ltb-false k (length deeds) e))

pub waiting_is : (rules : Rules) (now : After) (seat : ℕ) (chair : Chair) → slice_get now.chairs seat ≡ Some chair →
    waiting (shown rules now) seat ≡ pending (lines_for rules seat now.deeds) chair.progress
unfolding pending
waiting_is rules now seat chair e =
    ap (λ (o : Option Chair). if option_map_or (λ (c : Chair). not (c.progress.refused == 0)) o false then [] else
    (if nat_lt (option_map_or (λ (c : Chair). c.progress.due) o 0) (length now.deeds) then line_at rules now.deeds seat (option_map_or (λ (c : Chair). c.progress.due) o 0) else [])) e
    ∙ by (chair.progress.refused == 0)
  where
    by : (fresh : Bool) → (if not fresh then [] else (if nat_lt chair.progress.due (length now.deeds) then line_at rules now.deeds seat chair.progress.due else []))
        ≡ (if fresh then unwrap_or (slice_get (lines_for rules seat now.deeds) chair.progress.due) [] else [])
    by true = line_or_none rules now.deeds seat chair.progress.due
    by false = refl

-- A connection is told what was pending, and then a reply.
adds_if : (rules : Rules) (now next : After) (seat : ℕ) (old new : Chair) (reply : List ℕ) → Placed now → Placed next →
    slice_get now.chairs seat ≡ Some old → slice_get next.chairs seat ≡ Some new → new.place ≡ old.place
    → new.progress.told ≡ old.progress.told ++ pending (lines_for rules seat now.deeds) old.progress ++ reply → Adds seat reply (shown rules now) (shown rules next)
adds_if rules now next seat old new reply k kn e f at t place s =
    let here = seat_there place seat now.chairs old e s in
    let told : told_at now.chairs place ≡ old.progress.told = told-is place now.chairs seat old (k.once place) e here.1 in
    let due : option_map_or (waiting (shown rules now)) (seat_at now.chairs place) [] ≡ pending (lines_for rules seat now.deeds) old.progress =
    ap (λ (o : Option ℕ). option_map_or (waiting (shown rules now)) o []) s ∙ waiting_is rules now seat old e in
    told-is place next.chairs seat new (kn.once place) f (ap (λ (p : ℕ). p == place) at ∙ here.1) ∙ t
    ∙ (λ i. (sym told) i ++ (sym due) i ++ reply)

-- A seat goes on, is asked again, or leaves.
kept_seat : (now next : After) (seat : ℕ) (old new : Chair) (place : ℕ) → Placed next → slice_get now.chairs seat ≡ Some old →
    slice_get next.chairs seat ≡ Some new → new.place ≡ old.place → new.author ≡ old.author → seat_at now.chairs place ≡ Some seat
    → seat_at next.chairs place ≡ Some seat
kept_seat now next seat old new place kn e f at a s =
    let here = seat_there place seat now.chairs old e s in
    seat-is place next.chairs seat new (kn.once place) f (ap is_some a ∙ here.0) (ap (λ (p : ℕ). p == place) at ∙ here.1)

present_same : (now next : After) (seat : ℕ) (old new : Chair) → slice_get now.chairs seat ≡ Some old → slice_get next.chairs seat ≡ Some new →
    new.author ≡ old.author → author_at next seat ≡ author_at now seat
present_same now next seat old new e f a =
    ap (λ (o : Option Chair). option_map_or (λ (c : Chair). c.author) o None) f ∙ a ∙ sym (ap (λ (o : Option Chair). option_map_or (λ (c : Chair). c.author) o None) e)

goes_on_if : (rules : Rules) (now next : After) (seat : ℕ) (old new : Chair) → Placed next → slice_get now.chairs seat ≡ Some old →
    slice_get next.chairs seat ≡ Some new → new.place ≡ old.place → new.author ≡ old.author
    → new.progress.due ≡ old.progress.due + 1 → (new.progress.refused == 0) ≡ true → GoesOn seat (shown rules now) (shown rules next)
goes_on_if rules now next seat old new kn e f at a d r = record {
  present = present_same now next seat old new e f a;
  due = ap (λ (o : Option Chair). option_map_or (λ (c : Chair). c.progress.due) o 0) f ∙ d
      ∙ ap (λ (n : ℕ). n + 1) (sym (ap (λ (o : Option Chair). option_map_or (λ (c : Chair). c.progress.due) o 0) e));
  is_told = ap (λ (o : Option Chair). option_map_or (λ (c : Chair). not (c.progress.refused == 0)) o false) f ∙ ap not r;
  seat_of = λ place s. kept_seat now next seat old new place kn e f at a s;
}

asked_again_if : (rules : Rules) (now next : After) (seat : ℕ) (old new : Chair) → Placed next → slice_get now.chairs seat ≡ Some old →
    slice_get next.chairs seat ≡ Some new → new.place ≡ old.place → new.author ≡ old.author
    → new.progress.due ≡ old.progress.due → (new.progress.refused == 0) ≡ false → IsAskedAgain seat (shown rules now) (shown rules next)
asked_again_if rules now next seat old new kn e f at a d r = record {
  present = present_same now next seat old new e f a;
  due = ap (λ (o : Option Chair). option_map_or (λ (c : Chair). c.progress.due) o 0) f ∙ d ∙ sym (ap (λ (o : Option Chair). option_map_or (λ (c : Chair). c.progress.due) o 0) e);
  is_told = ap (λ (o : Option Chair). option_map_or (λ (c : Chair). not (c.progress.refused == 0)) o false) f ∙ ap not r;
  seat_of = λ place s. kept_seat now next seat old new place kn e f at a s;
}

leaves_if : (rules : Rules) (now next : After) (seat : ℕ) (old new : Chair) → Placed now → slice_get now.chairs seat ≡ Some old →
    next.chairs ≡ slice_set now.chairs seat new → new.author ≡ None → Leaves seat (shown rules now) (shown rules next)
leaves_if rules now next seat old new k e set a =
    let there : slice_get next.chairs seat ≡ Some new = ap (λ (cs : List Chair). slice_get cs seat) set ∙ slice_get-set_at now.chairs seat new old e in
    record {
      present = ap (λ (o : Option Chair). option_map_or (λ (c : Chair). c.author) o None) there ∙ a;
      no_seat = λ place s. nobody-at place next.chairs (λ j d f. elim (eqb_tells seat j) [
        | inl same ↦ ap (is_connected place) (same_Some d new (sym f ∙ ap (slice_get next.chairs) (sym same.1) ∙ there)) ∙ ap (λ (o : Option ℕ). is_some o && new.place == place) a
        | inr other ↦ on_off (is_present d) (d.place == place) (apart-at place now.chairs seat j old d (k.once place) other.1 e
            (sym (slice_get-set_other now.chairs seat j new other.1) ∙ ap (λ (cs : List Chair). slice_get cs j) (sym set) ∙ f) (seat_there place seat now.chairs old e s).1)
      ]);
    }

no_reply : (a b : List ℕ) → a ++ b ≡ a ++ b ++ []
no_reply a b = sym (append-nil (a ++ b))

not_fresh : (n : ℕ) → (n + 1 == 0) ≡ false
not_fresh n = elim (eqb_tells (n + 1) 0) [ inl s ↦ absurd (more n s.1) | inr s ↦ s.0 ]
  where
    more : (n : ℕ) → n + 1 ≡ 0 → ⊥
    more n e = omega arith

answers_if : (rules : Rules) (now next : After) (seat : ℕ) (old : Chair) (v : Verdict) → Placed now → Placed next →
    slice_get now.chairs seat ≡ Some old → next.chairs ≡ slice_set now.chairs seat (said_chair (lines_for rules seat now.deeds) v old)
    → Answers control_line (heard_of v) seat (shown rules now) (shown rules next)
answers_if rules now next seat old v k kn e set = by v set (ap (λ (cs : List Chair). slice_get cs seat) set ∙ slice_get-set_at now.chairs seat
    (said_chair (lines_for rules seat now.deeds) v old) old e)
  where
    lines : List (List ℕ)
    lines = lines_for rules seat now.deeds

    by : (w : Verdict) → next.chairs ≡ slice_set now.chairs seat (said_chair (lines_for rules seat now.deeds) w old) →
        slice_get next.chairs seat ≡ Some (said_chair (lines_for rules seat now.deeds) w old)
        → Answers control_line (heard_of w) seat (shown rules now) (shown rules next)
    by Taken set f = (
      goes_on_if rules now next seat old _ kn e f refl refl refl refl,
      adds_if rules now next seat old _ [] k kn e f refl
          (no_reply old.progress.told (pending (lines_for rules seat now.deeds) old.progress)),
    )
    by Late set f = (
      goes_on_if rules now next seat old _ kn e f refl refl refl refl,
      adds_if rules now next seat old _ [] k kn e f refl
          (no_reply old.progress.told (pending (lines_for rules seat now.deeds) old.progress)),
    )
    by (Refused rule) set f = (asked_again_if rules now next seat old _ kn e f refl refl refl (not_fresh old.progress.refused), adds_if rules now next seat old _ (error_text rule) k kn e f refl refl)
    by (Closing rule) set f = (leaves_if rules now next seat old _ k e set refl, adds_if rules now next seat old _ (error_text rule) k kn e f refl refl)

pub answers_go_by_verdict : AnswersGoByVerdict
answers_go_by_verdict setting entries author seat answer l =
    let now : After = after setting entries in
    let entry : Entry Answer = Said author seat answer in
    let c = held_here (slice_get now.chairs seat) (may_say now author) (and_parts _ _ (last_permitted setting entries entry l)).1 in
    let v : Verdict = verdict_on setting.rules now.deeds seat answer c.0.progress in
    let told : hears_of setting entries seat answer ≡ heard_of v =
    ap (λ (o : Option Chair). option_map_or heard_of (option_map (λ (chair : Chair). verdict_on setting.rules now.deeds seat answer chair.progress) o) heard.NoMemory) c.1 in
    stepped (Answers control_line (hears_of setting entries seat answer) seat (shown setting.rules now)) setting entries entry
    (subst (λ (h : Heard Rule). Answers control_line h seat (shown setting.rules now) (shown setting.rules (step setting now entry))) (sym told)
    (answers_if setting.rules now (step setting now entry) seat c.0 v (after-placed setting entries)
    (step-placed setting now entry (after-placed setting entries)) c.1 (said-chairs setting now author seat answer c.0 c.1)))

pub seats_leave : SeatsLeave
seats_leave setting entries author seat l =
    let now : After = after setting entries in
    let entry : Entry Answer = Gone author seat in
    let next : After = step setting now entry in
    let c = held_here (slice_get now.chairs seat) (is_present_by author) (last_permitted setting entries entry l) in
    let chair : Chair = gone_chair (lines_for setting.rules seat now.deeds) c.0 in
    let set : next.chairs ≡ slice_set now.chairs seat chair = gone-chairs setting now author seat c.0 c.1 in
    let there : slice_get next.chairs seat ≡ Some chair = ap (λ (cs : List Chair). slice_get cs seat) set ∙ slice_get-set_at now.chairs seat chair c.0 c.1 in
    stepped (λ (w : Showing). Leaves seat (shown setting.rules now) w × Adds seat [] (shown setting.rules now) w) setting entries entry (
      leaves_if setting.rules now next seat c.0 chair (after-placed setting entries) c.1 set refl,
      adds_if setting.rules now next seat c.0 chair [] (after-placed setting entries) (step-placed setting now entry (after-placed setting entries))
          c.1 there refl (no_reply c.0.progress.told (pending (lines_for setting.rules seat now.deeds) c.0.progress)),
    )
