-- Any order of answers lies in the window: what a seat says is heard as it would be alone, since nobody else changes its prompts, and
-- the window stays open while a seat has something to say.
use Rattle.std.proofs.Common.{◌≡◌, ◌≢◌, ℕ, ◌+◌, ◌==◌, ◌&&◌, not, inl, inr, List, [], ◌∷◌, ◌++◌, length, Bool, true, false, refl, ap, ◌∙◌, sym, subst, append-nil}
use Rattle.std.specs.Prelude.{if◌then◌else◌, Option, Some, None, option_map, slice_get, slice_set, nat_lt}
use Rattle.std.specs.Option.{option_map_or}
use Rattle.std.specs.List.{list_all}
use Rattle.std.proofs.lemmas.Bool.{and_parts, and_from, eq-eqb, not-true}
use Rattle.std.proofs.lemmas.Bool.Decides.{eqb_tells}
use Rattle.mj_ports.specs.declared.entry.Entry.{Entry}
use Rattle.mj_ports.specs.declared.entry.Entry.TheVariants.{Sat, Back, Said, Gone, Expired}
use Rattle.mj_deeds.specs.declared.answer.Answer.{Answer}
use Rattle.mj_deeds.specs.declared.deed.Deed.{Deed}
use Rattle.mj_deeds.specs.Answers.{is_in_form}
use Rattle.mj_wall.specs.declared.setting.Setting.{Setting}
use Rattle.mj_rules.specs.Outcome.{outcome}
use Rattle.mj_history.specs.After.{After, Chair, Progress, Verdict, Taken, Late, Refused, Closing, verdict_on, progress_after, lines_for, answers_in, after_said, own_part, next_deed, step, after}
use Rattle.mj_history.specs.Legal.{is_open, is_present_by, may_say, can_say, is_permitted}
use Rattle.mj_history.specs.Shown.{due_at, verdict_at}
use Rattle.mj_history.specs.Order.{is_acceptance, is_closing, accepted, answers_in_window}
use Rattle.mj_history.specs.Windows.{said_by, is_said_by_present, refused_at, judged, accepted_alone, are_heard, CanBeSaid, accepted_of, LieIn, AnyOrderLiesIn, AnyOrderIsFree}
use Rattle.mj_history.proofs.Places.{slice_get-set_at, slice_get-set_other}
use Rattle.mj_history.proofs.Fitting.{own_deeds}
use Rattle.mj_history.proofs.Entered.{said_chair, listed}
use Rattle.mj_history.proofs.Seats.{AreSeats, own_seats, step_seats, legal_seats}
use Rattle.mj_history.proofs.Filled.{AreFilled, AreFilledBy, own_filled, step_filled, legal_filled, not_closed}
use Rattle.mj_history.proofs.Order.{author_by, opened, followed, next_follows, step_is, order_is_free}

-- The verdict on what a seat says next.
abbrev verdict_now : Setting → After → ℕ → Answer → Verdict
verdict_now setting now who answer = judged setting.rules now.deeds who (due_at now who) (refused_at now who) answer

abbrev next_due : Bool → ℕ → ℕ
next_due b due = if b then due + 1 else due

abbrev next_refused : Bool → ℕ → ℕ
next_refused b refused = if b then 0 else refused + 1

-- What an answer that isn't refused for good changes of the prompts.
record Goes (setting : Setting) (now own : After) (who : ℕ) (answer : Answer) : Type 0 where
  present : (author seat : ℕ) → option_map_or (is_present_by author) (slice_get own.chairs seat) false ≡ option_map_or (is_present_by author) (slice_get now.chairs seat) false
  due : due_at own who ≡ next_due (is_acceptance (verdict_now setting now who answer)) (due_at now who)
  refused : refused_at own who ≡ next_refused (is_acceptance (verdict_now setting now who answer)) (refused_at now who)
  others_due : (seat : ℕ) → who ≢ seat → due_at own seat ≡ due_at now seat
  others_refused : (seat : ℕ) → who ≢ seat → refused_at own seat ≡ refused_at now seat

abbrev due_in : Option Chair → ℕ
due_in o = option_map_or (λ (c : Chair). c.progress.due) o 0

abbrev refused_in : Option Chair → ℕ
refused_in o = option_map_or (λ (c : Chair). c.progress.refused) o 0

progress_due : (lines : List (List ℕ)) (v : Verdict) (p : Progress) → (progress_after lines v p).due ≡ next_due (is_acceptance v) p.due
progress_due lines Taken p = refl
progress_due lines Late p = refl
progress_due lines (Refused rule) p = refl
progress_due lines (Closing rule) p = refl

progress_refused : (lines : List (List ℕ)) (v : Verdict) (p : Progress) → (progress_after lines v p).refused ≡ next_refused (is_acceptance v) p.refused
progress_refused lines Taken p = refl
progress_refused lines Late p = refl
progress_refused lines (Refused rule) p = refl
progress_refused lines (Closing rule) p = refl

said_goes : (setting : Setting) (now : After) (who : ℕ) (answer : Answer) (chair : Chair) → slice_get now.chairs who ≡ Some chair → is_closing (verdict_now setting now who answer) ≡ false
    → Goes setting now (option_map_or (after_said setting.rules now who answer) (Some chair) now) who answer
unfolding after_said
said_goes setting now who answer chair e stays = record {
  present = λ author seat. elim (eqb_tells who seat) [
    | inl p ↦ subst (λ (k : ℕ). present_in author (slice_get set k) ≡ present_in author (slice_get now.chairs k)) p.1
        (ap (present_in author) there ∙ ap (λ (o : Option ℕ). option_map_or (λ by. by == author) o false) (author_by lines v chair stays_so) ∙ sym (ap (present_in author) e))
    | inr p ↦ ap (present_in author) (slice_get-set_other now.chairs who seat new p.1)
  ];
  due = ap due_in there ∙ progress_due lines v chair.progress ∙ (λ i. next_due (is_acceptance (sym judged_is i)) (due_in (sym e i)));
  refused = ap refused_in there ∙ progress_refused lines v chair.progress ∙ (λ i. next_refused (is_acceptance (sym judged_is i)) (refused_in (sym e i)));
  others_due = λ seat ne. ap due_in (slice_get-set_other now.chairs who seat new ne);
  others_refused = λ seat ne. ap refused_in (slice_get-set_other now.chairs who seat new ne);
}
  where
    present_in : ℕ → Option Chair → Bool
    present_in author o = option_map_or (is_present_by author) o false

    lines : List (List ℕ)
    lines = lines_for setting.rules who now.deeds

    v : Verdict
    v = verdict_on setting.rules now.deeds who answer chair.progress

    new : Chair
    new = said_chair (lines_for setting.rules who now.deeds) (verdict_on setting.rules now.deeds who answer chair.progress) chair

    set : List Chair
    set = slice_set now.chairs who new

    there : slice_get (slice_set now.chairs who new) who ≡ Some new
    there = slice_get-set_at now.chairs who new chair e

    judged_is : verdict_now setting now who answer ≡ verdict_on setting.rules now.deeds who answer chair.progress
    judged_is = ap (λ (o : Option Chair). judged setting.rules now.deeds who (due_in o) (refused_in o) answer) e

    stays_so : is_closing (verdict_on setting.rules now.deeds who answer chair.progress) ≡ false
    stays_so = ap is_closing (sym judged_is) ∙ stays

-- What is said of a seat in the first of some entries, and in the others.
said_own : (author who : ℕ) (answer : Answer) (more : List (Entry Answer)) → said_by who (Said author who answer ∷ more) ≡ answer ∷ said_by who more
said_own author who answer more = ap (λ (b : Bool). (if b then answer ∷ [] else []) ++ said_by who more) (eq-eqb who who refl)

said_other : (author who seat : ℕ) (answer : Answer) (more : List (Entry Answer)) → (who == seat) ≡ false → said_by seat (Said author who answer ∷ more) ≡ said_by seat more
said_other author who seat answer more e = ap (λ (b : Bool). (if b then answer ∷ [] else []) ++ said_by seat more) e

by_next : {A : Type 0} (f : ℕ → ℕ → A) (b : Bool) (due refused : ℕ) → (if b then f (due + 1) 0 else f due (refused + 1)) ≡ f (next_due b due) (next_refused b refused)
by_next f true due refused = refl
by_next f false due refused = refl

-- What is heard of the first answer of a seat, and of the others.
record HearsFirst (setting : Setting) (now : After) (who : ℕ) (answer : Answer) (answers : List Answer) : Type 0 where
  near : nat_lt (due_at now who) (length now.deeds) ≡ true
  stays : is_closing (verdict_now setting now who answer) ≡ false
  rest : are_heard setting.rules now.deeds who (next_due (is_acceptance (verdict_now setting now who answer)) (due_at now who))
      (next_refused (is_acceptance (verdict_now setting now who answer)) (refused_at now who)) answers ≡ true

hears_first : (setting : Setting) (now : After) (who : ℕ) (answer : Answer) (answers : List Answer) → are_heard setting.rules now.deeds who
    (due_at now who) (refused_at now who) (answer ∷ answers) ≡ true → HearsFirst setting now who answer answers
hears_first setting now who answer answers h =
    let outer = and_parts (nat_lt (due_at now who) (length now.deeds) && not (is_closing (verdict_now setting now who answer))) _ h in
    let inner = and_parts (nat_lt (due_at now who) (length now.deeds)) (not (is_closing (verdict_now setting now who answer))) outer.0 in
    record {
      near = inner.0;
      stays = not-true (is_closing (verdict_now setting now who answer)) inner.1;
      rest = sym (by_next (λ (due refused : ℕ). are_heard setting.rules now.deeds who due refused answers)
          (is_acceptance (verdict_now setting now who answer)) (due_at now who) (refused_at now who)) ∙ outer.1;
    }

-- The other entries could be said after the first.
said_on : (setting : Setting) (now own : After) (author who : ℕ) (answer : Answer) (more : List (Entry Answer)) → own.deeds ≡ now.deeds →
    Goes setting now own who answer → HearsFirst setting now who answer (said_by who more)
    → CanBeSaid setting now (Said author who answer ∷ more) → CanBeSaid setting own more
said_on setting now own author who answer more same goes first can = record {
  present = ap (λ (test : Entry Answer → Bool). list_all test more) (λ i entry. present_same entry i)
      ∙ (and_parts (is_said_by_present now (Said author who answer)) (list_all (is_said_by_present now) more) can.present).1;
  heard = λ seat. elim (eqb_tells who seat) [
    | inl p ↦ subst (λ (k : ℕ). are_heard setting.rules own.deeds k (due_at own k) (refused_at own k) (said_by k more) ≡ true) p.1
        ((λ i. are_heard setting.rules (same i) who (goes.due i) (goes.refused i) (said_by who more)) ∙ first.rest)
    | inr p ↦ (λ i. are_heard setting.rules (same i) seat (goes.others_due seat p.1 i) (goes.others_refused seat p.1 i) (sym (said_other author who seat answer more p.0) i)) ∙ can.heard seat
  ];
}
  where
    present_same : (entry : Entry Answer) → is_said_by_present own entry ≡ is_said_by_present now entry
    present_same (Said by seat said) = ap (λ (b : Bool). is_in_form said && b) (goes.present by seat)
    present_same (Sat by name key) = refl
    present_same (Back by seat) = refl
    present_same (Gone by seat) = refl
    present_same (Expired by window t1 t2) = refl

-- Where deeds and seats are the same, the same could be said.
said_still : (setting : Setting) (now next : After) (entries : List (Entry Answer)) → next.deeds ≡ now.deeds → next.chairs ≡ now.chairs → CanBeSaid setting now entries → CanBeSaid setting next entries
said_still setting now next entries d c can = record {
  present = ap (λ (test : Entry Answer → Bool). list_all test entries) (λ i entry. present_same entry i) ∙ can.present;
  heard = λ seat. (λ i. are_heard setting.rules (d i) seat (due_in (slice_get (c i) seat)) (refused_in (slice_get (c i) seat)) (said_by seat entries)) ∙ can.heard seat;
}
  where
    present_same : (entry : Entry Answer) → is_said_by_present next entry ≡ is_said_by_present now entry
    present_same (Said by seat said) = ap (λ (cs : List Chair). is_in_form said && option_map_or (is_present_by by) (slice_get cs seat) false) c
    present_same (Sat by name key) = refl
    present_same (Back by seat) = refl
    present_same (Gone by seat) = refl
    present_same (Expired by window t1 t2) = refl

-- While something could be said, the window isn't closed.
may_speak : (now : After) (author : ℕ) (o : Option Chair) → option_map_or (is_present_by author) o false ≡ true → nat_lt (due_in o) (length now.deeds)
    ≡ true → option_map_or (may_say now author) o false ≡ true
unfolding may_say
may_speak now author None p n = cc
may_speak now author (Some chair) p n = and_from (is_present_by author chair) (nat_lt chair.progress.due (length now.deeds)) p n

first_may : (setting : Setting) (now : After) (author who : ℕ) (answer : Answer) (more : List (Entry Answer)) →
    CanBeSaid setting now (Said author who answer ∷ more) → (is_in_form answer ≡ true) × (can_say now author who ≡ true)
first_may setting now author who answer more can =
    let first = hears_first setting now who answer (said_by who more)
    (ap (are_heard setting.rules now.deeds who (due_at now who) (refused_at now who)) (sym (said_own author who answer more)) ∙ can.heard who) in
    let parts = and_parts (is_in_form answer) _ (and_parts (is_said_by_present now (Said author who answer)) (list_all (is_said_by_present now) more) can.present).0 in
    (parts.0, may_speak now author (slice_get now.chairs who) parts.1 first.near)

still_open : (setting : Setting) (now : After) (entry : Entry Answer) (more : List (Entry Answer)) → AreSeats now.chairs → AreFilled now →
    CanBeSaid setting now (entry ∷ more) → followed setting now ≡ None
still_open setting now (Said author who answer) more seats filled can =
    ap (λ (b : Bool). if b then outcome setting.rules setting.walls now.deeds (answers_in setting.rules now.deeds now.slots) else None)
    (not_closed now author who seats filled (first_may setting now author who answer more can).1)
still_open setting now (Sat author name key) more seats filled can = absurd (never can.present)
  where
    never : false ≡ true → ⊥
    never e = cc
still_open setting now (Back author who) more seats filled can = absurd (never can.present)
  where
    never : false ≡ true → ⊥
    never e = cc
still_open setting now (Gone author who) more seats filled can = absurd (never can.present)
  where
    never : false ≡ true → ⊥
    never e = cc
still_open setting now (Expired author window t1 t2) more seats filled can = absurd (never can.present)
  where
    never : false ≡ true → ⊥
    never e = cc

-- the first entry, and those after it

own_said : (setting : Setting) (now : After) (author who : ℕ) (answer : Answer) (chair : Chair) → slice_get now.chairs who ≡ Some chair →
    own_part setting now (Said author who answer) ≡ option_map_or (after_said setting.rules now who answer) (Some chair) now
unfolding own_part
own_said setting now author who answer chair e = ap (λ (o : Option Chair). option_map_or (after_said setting.rules now who answer) o now) e

held : (o : Option Chair) (test : Chair → Bool) → option_map_or test o false ≡ true → (chair : Chair) × (o ≡ Some chair)
held None test h = cc
held (Some chair) test h = (chair, refl)

verdict_is : (setting : Setting) (now : After) (who : ℕ) (answer : Answer) (test : Verdict → Bool) (chair : Chair) → slice_get now.chairs who ≡ Some chair
    → option_map_or test (verdict_at setting.rules now who answer) false ≡ test (verdict_now setting now who answer)
verdict_is setting now who answer test chair e = by (slice_get now.chairs who) e
  where
    by : (o : Option Chair) → o ≡ Some chair
        → option_map_or test (option_map (λ (c : Chair). verdict_on setting.rules now.deeds who answer c.progress) o) false ≡ test (judged setting.rules now.deeds who (due_in o) (refused_in o) answer)
    by None e = cc
    by (Some c) e = refl

-- What is accepted of the first answer of a seat, and of the others.
first_accepted : (f : ℕ → ℕ → List Answer) (b : Bool) (answer : Answer) (due refused : ℕ) →
    (if b then answer ∷ f (due + 1) 0 else f due (refused + 1)) ≡ (if b then answer ∷ [] else []) ++ f (next_due b due) (next_refused b refused)
first_accepted f true answer due refused = refl
first_accepted f false answer due refused = refl

record Starts (setting : Setting) (window : ℕ) (now own : After) (author who : ℕ) (answer : Answer) (more : List (Entry Answer)) : Type 0 where
  answers : answers_in_window setting window now (Said author who answer) ≡ true
  can : CanBeSaid setting own more
  accepted : (seat : ℕ) → accepted_of setting now seat (Said author who answer ∷ more) ≡ accepted setting seat now (Said author who answer) ++ accepted_of setting own seat more

starts : (setting : Setting) (window : ℕ) (now : After) (author who : ℕ) (answer : Answer) (more : List (Entry Answer)) →
    is_open now.deeds window ≡ true → CanBeSaid setting now (Said author who answer ∷ more)
    → Starts setting window now (own_part setting now (Said author who answer)) author who answer more
starts setting window now author who answer more opens can = record {
  answers = and_from (is_permitted setting now (Said author who answer) && is_open now.deeds window) _
      (and_from (is_permitted setting now (Said author who answer)) (is_open now.deeds window) (and_from (is_in_form answer) (can_say now author who) may.0 may.1) opens)
      (ap not (verdict_is setting now who answer is_closing there.0 there.1 ∙ first.stays));
  can = said_on setting now own author who answer more (own_deeds setting now (Said author who answer)) goes first can;
  accepted = λ seat. elim (eqb_tells who seat) [
    | inl p ↦ subst (λ (k : ℕ). accepted_of setting now k (Said author who answer ∷ more) ≡ accepted setting k now (Said author who answer) ++ accepted_of setting own k more) p.1
        (ap (accepted_alone setting.rules now.deeds who (due_at now who) (refused_at now who)) (said_own author who answer more)
        ∙ first_accepted (λ (due refused : ℕ). accepted_alone setting.rules now.deeds who due refused (said_by who more))
        (is_acceptance (verdict_now setting now who answer)) answer (due_at now who) (refused_at now who)
        ∙ (λ i. sym own_accepted i ++ accepted_alone setting.rules (sym (own_deeds setting now (Said author who answer)) i) who (sym goes.due i) (sym goes.refused i) (said_by who more)))
    | inr p ↦ (λ i. accepted_alone setting.rules (sym (own_deeds setting now (Said author who answer)) i) seat (sym (goes.others_due seat p.1) i)
        (sym (goes.others_refused seat p.1) i) (said_other author who seat answer more p.0 i))
        ∙ ap (λ (b : Bool). (if b && option_map_or is_acceptance (verdict_at setting.rules now who answer) false then answer ∷ [] else []) ++ accepted_of setting own seat more) (sym p.0)
  ];
}
  where
    own : After
    own = own_part setting now (Said author who answer)

    may : (is_in_form answer ≡ true) × (can_say now author who ≡ true)
    may = first_may setting now author who answer more can

    there : (chair : Chair) × (slice_get now.chairs who ≡ Some chair)
    there = held (slice_get now.chairs who) (may_say now author) (first_may setting now author who answer more can).1

    first : HearsFirst setting now who answer (said_by who more)
    first = hears_first setting now who answer (said_by who more) (ap (are_heard setting.rules now.deeds who (due_at now who) (refused_at now who))
        (sym (said_own author who answer more)) ∙ can.heard who)

    goes : Goes setting now (own_part setting now (Said author who answer)) who answer
    goes = subst (λ (a : After). Goes setting now a who answer) (sym (own_said setting now author who answer there.0 there.1)) (said_goes setting now who answer there.0 there.1 first.stays)

    own_accepted : accepted setting who now (Said author who answer) ≡ (if is_acceptance (verdict_now setting now who answer) then answer ∷ [] else [])
    own_accepted = (λ i. if eq-eqb who who refl i && verdict_is setting now who answer is_acceptance there.0 there.1 i then answer ∷ [] else [])

-- After an answer in the window nothing has come while there is more to say.
record IsIdle (own next : After) : Type 0 where
  deeds : next.deeds ≡ own.deeds
  chairs : next.chairs ≡ own.chairs

idle : (setting : Setting) (window : ℕ) (now : After) (entry second : Entry Answer) (more : List (Entry Answer)) → AreSeats now.chairs →
    AreFilled now → is_open now.deeds window ≡ true → answers_in_window setting window now entry ≡ true
    → is_permitted setting now entry ≡ true → CanBeSaid setting (own_part setting now entry) (second ∷ more) → IsIdle (own_part setting now entry) (step setting now entry)
idle setting window now entry second more seats filled opens answers p can =
    let own : After = own_part setting now entry in
    let begun : (length own.deeds == 0) ≡ false = ap (λ (ds : List Deed). length ds == 0) (own_deeds setting now entry) ∙ (opened now.deeds window opens).0 in
    let own_full : AreFilled own = subst (λ (ds : List Deed). AreFilledBy (length ds) own.chairs own.slots) (sym (own_deeds setting now entry)) (own_filled setting now entry p seats filled) in
    let none : next_deed setting own entry ≡ None = next_follows setting window now own entry answers begun ∙ still_open setting own second more (own_seats setting now entry p seats) own_full can in
    let s = step_is setting now entry in
    record {
      deeds = s.deeds ∙ ap (λ (o : Option Deed). own.deeds ++ listed o) none ∙ append-nil own.deeds;
      chairs = s.chairs;
    }

lie_from : (setting : Setting) (window : ℕ) (now : After) (entries : List (Entry Answer)) → AreSeats now.chairs → AreFilled now →
    is_open now.deeds window ≡ true → CanBeSaid setting now entries → LieIn setting window now entries
lie_from setting window now [] seats filled opens can = record { all = refl; accepted = λ seat. refl }
lie_from setting window now (Said author who answer ∷ []) seats filled opens can =
    let first = starts setting window now author who answer [] opens can in
    record {
      all = and_from (answers_in_window setting window now (Said author who answer)) true first.answers refl;
      accepted = λ seat. sym (first.accepted seat);
    }
lie_from setting window now (Said author who answer ∷ second ∷ more) seats filled opens can =
    let entry : Entry Answer = Said author who answer in
    let first = starts setting window now author who answer (second ∷ more) opens can in
    let own : After = own_part setting now entry in
    let next : After = step setting now entry in
    let p : is_permitted setting now entry ≡ true = (and_parts (is_permitted setting now entry) (is_open now.deeds window) (and_parts _ _ first.answers).0).0 in
    let still : IsIdle own next = idle setting window now entry second more seats filled opens first.answers p first.can in
    let later : LieIn setting window next (second ∷ more) =
    lie_from setting window next (second ∷ more) (step_seats setting now entry p seats) (step_filled setting now entry p seats filled)
    (ap (λ (ds : List Deed). is_open ds window) (still.deeds ∙ own_deeds setting now entry) ∙ opens) (said_still setting own next (second ∷ more) still.deeds still.chairs first.can) in
    record {
      all = and_from (answers_in_window setting window now entry) _ first.answers later.all;
      accepted = λ seat.
          ap (λ (said : List Answer). accepted setting seat now entry ++ said)
          (later.accepted seat ∙ (λ i. accepted_alone setting.rules (still.deeds i) seat (due_in (slice_get (still.chairs i) seat))
          (refused_in (slice_get (still.chairs i) seat)) (said_by seat (second ∷ more))))
          ∙ sym (first.accepted seat);
    }
lie_from setting window now (Sat author name key ∷ more) seats filled opens can = absurd (never can.present)
  where
    never : false ≡ true → ⊥
    never e = cc
lie_from setting window now (Back author who ∷ more) seats filled opens can = absurd (never can.present)
  where
    never : false ≡ true → ⊥
    never e = cc
lie_from setting window now (Gone author who ∷ more) seats filled opens can = absurd (never can.present)
  where
    never : false ≡ true → ⊥
    never e = cc
lie_from setting window now (Expired author closed t1 t2 ∷ more) seats filled opens can = absurd (never can.present)
  where
    never : false ≡ true → ⊥
    never e = cc

pub any_order_lies_in : AnyOrderLiesIn
any_order_lies_in setting entries others window legal opens can = lie_from setting window (after setting entries) others
    (legal_seats setting entries legal) (legal_filled setting entries legal) opens can

pub any_order_is_free : AnyOrderIsFree
any_order_is_free setting entries some others window legal opens all can same =
    let lie : LieIn setting window (after setting entries) others = any_order_lies_in setting entries others window legal opens can in
    record {
      all = lie.all;
      same = order_is_free setting entries some others window legal all lie.all (λ seat. same seat ∙ sym (lie.accepted seat));
    }
