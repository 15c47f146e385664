-- The law of order: after answers in one window, what a seat comes to follows from its own accepted answers.
use Rattle.std.proofs.Common.{◌≡◌, ℕ, zero, suc, ◌+◌, ◌<◌, ◌≤◌, ◌==◌, ◌&&◌, not, inl, inr, List, [], ◌∷◌, ◌++◌, length, map, Bool, true, false, refl, ap, ◌∙◌, sym, subst, arith, append-nil}
use Rattle.std.specs.Prelude.{if◌then◌else◌, Option, Some, None, is_some, unwrap_or, option_map, slice_get, slice_set, nat_lt}
use Rattle.std.specs.Option.{option_map_or}
use Rattle.std.proofs.lemmas.Bool.{and_parts, not-true, eqb-true}
use Rattle.std.proofs.lemmas.Bool.Decides.{eqb_tells}
use Rattle.std.proofs.lemmas.List.{length-append}
use Rattle.std.proofs.lemmas.Option.{same_Some, slice_get-map, slice_get_within}
use Rattle.mj_ports.specs.declared.entry.Entry.{Entry}
use Rattle.mj_ports.specs.declared.entry.Entry.TheVariants.{Sat, Back, Said, Gone, Expired}
use Rattle.mj_deeds.specs.declared.four.Four.{Four}
use Rattle.mj_deeds.specs.declared.answer.Answer.{Answer}
use Rattle.mj_deeds.specs.declared.deed.Deed.{Deed}
use Rattle.mj_deeds.specs.declared.deed.Deed.TheVariants.{StartGame}
use Rattle.mj_deeds.specs.Answers.{is_in_form}
use Rattle.mj_deeds.specs.Four.{at_seat}
use Rattle.mj_wall.specs.declared.setting.Rules.{Rules}
use Rattle.mj_wall.specs.declared.setting.Setting.{Setting}
use Rattle.mj_window.specs.Slots.{closes}
use Rattle.mj_rules.specs.Broken.{broken_rule}
use Rattle.mj_rules.specs.Outcome.{outcome}
use Rattle.mj_history.specs.After.{After, Chair, Progress, Verdict, Taken, Late, Refused, Closing, verdict_on, progress_after, slots_after, lines_for}
use Rattle.mj_history.specs.After.{is_present, names_of, answers_in, after_said, own_part, next_deed, with_deed, step, after_from, after, before_all}
use Rattle.mj_history.specs.Legal.{is_open, is_over, can_say, is_permitted}
use Rattle.mj_history.specs.Sitting.{author_at}
use Rattle.mj_history.specs.Shown.{due_at}
use Rattle.mj_history.specs.Order.{is_acceptance, is_closing, accepted, accepted_from, answers_in_window, all_answer, IsSameGame, OrderIsFree}
use Rattle.mj_history.proofs.Places.{slice_get-set_at, slice_get-set_other, slot-put_at}
use Rattle.mj_history.proofs.Fitting.{own_deeds}
use Rattle.mj_history.proofs.Filled.{others_slot}
use Rattle.mj_history.proofs.Entered.{said_chair, taken_at, late_at, listed, step-chairs, step-deeds}
use Rattle.mj_history.proofs.Seats.{AreSeats, step_seats, legal_seats}
use Rattle.mj_history.proofs.Entries.{after_from-list}
use Rattle.mj_history.proofs.Filled.{AreFilled, below_four, legal_filled, not_closed}

-- What the accepted answers of a seat make of its slot, after so many deeds and from its due number on.
abbrev slot_behind : ℕ → ℕ → Option Answer → List Answer → Option Answer
slot_behind n due slot [] = slot
slot_behind n due slot (answer ∷ answers) = slot_behind n (due + 1) (if nat_lt (due + 1) n then slot else Some answer) answers

slot-more : (n due : ℕ) (slot : Option Answer) (answers more : List Answer) → slot_behind n due slot (answers ++ more) ≡ slot_behind n (due + length answers) (slot_behind n due slot answers) more
slot-more n due slot [] more = ap (λ (k : ℕ). slot_behind n k slot more) (none due)
  where
    none : (k : ℕ) → k ≡ k + 0
    none k = omega arith
slot-more n due slot (answer ∷ answers) more =
    let next : Option Answer = if nat_lt (due + 1) n then slot else Some answer in
    slot-more n (due + 1) next answers more
    ∙ ap (λ (k : ℕ). slot_behind n k (slot_behind n (due + 1) next answers) more) (one due (length answers))
  where
    one : (k m : ℕ) → k + 1 + m ≡ k + suc m
    one k m = omega arith

-- By whom the seats are present.
abbrev authors : List Chair → List (Option ℕ)
authors chairs = map (λ (chair : Chair). chair.author) chairs

presence-is : (chairs : List Chair) → map is_present chairs ≡ map (λ (author : Option ℕ). is_some author) (authors chairs)
presence-is [] = refl
presence-is (chair ∷ chairs) = ap (λ (bs : List Bool). is_present chair ∷ bs) (presence-is chairs)

author-is : (now : After) (seat : ℕ) → author_at now seat ≡ unwrap_or (slice_get (authors now.chairs) seat) None
author-is now seat = by (slice_get now.chairs seat) ∙ ap (λ (o : Option (Option ℕ)). unwrap_or o None) (sym (slice_get-map (λ (chair : Chair). chair.author) now.chairs seat))
  where
    by : (o : Option Chair) → option_map_or (λ (chair : Chair). chair.author) o None ≡ unwrap_or (option_map (λ (chair : Chair). chair.author) o) None
    by None = refl
    by (Some chair) = refl

authors-set : (chairs : List Chair) (seat : ℕ) (old new : Chair) → slice_get chairs seat ≡ Some old → new.author ≡ old.author → authors (slice_set chairs seat new) ≡ authors chairs
authors-set [] seat old new e same = refl
authors-set (first ∷ chairs) zero old new e same = ap (λ (author : Option ℕ). author ∷ authors chairs) (same ∙ ap (λ (c : Chair). c.author) (same_Some old first (sym e)))
authors-set (first ∷ chairs) (suc seat) old new e same = ap (λ (others : List (Option ℕ)). first.author ∷ others) (authors-set chairs seat old new e same)

-- The seats go on by these accepted answers of each, without a deed.
record Moves (now next : After) (answers : ℕ → List Answer) : Type 0 where
  deeds : next.deeds ≡ now.deeds
  authors : authors next.chairs ≡ authors now.chairs
  due : (seat : ℕ) → due_at next seat ≡ due_at now seat + length (answers seat)
  slot : (seat : ℕ) → seat < 4 → at_seat next.slots seat ≡ slot_behind (length now.deeds) (due_at now seat) (at_seat now.slots seat) (answers seat)

moves_as : (now next : After) (answers others : ℕ → List Answer) → ((seat : ℕ) → answers seat ≡ others seat) → Moves now next answers → Moves now next others
moves_as now next answers others same m = record {
  deeds = m.deeds;
  authors = m.authors;
  due = λ seat. m.due seat ∙ ap (λ (said : List Answer). due_at now seat + length said) (same seat);
  slot = λ seat small. m.slot seat small ∙ ap (slot_behind (length now.deeds) (due_at now seat) (at_seat now.slots seat)) (same seat);
}

moves_on : (now mid next : After) (answers more : ℕ → List Answer) → Moves now mid answers → Moves mid next more → Moves now next (λ seat. answers seat ++ more seat)
moves_on now mid next answers more m k = record {
  deeds = k.deeds ∙ m.deeds;
  authors = k.authors ∙ m.authors;
  due = λ seat. sum (due_at next seat) (due_at mid seat) (due_at now seat) (length (answers seat)) (length (more seat)) _ (k.due seat) (m.due seat) (length-append (answers seat) (more seat));
  slot = λ seat small. k.slot seat small
      ∙ (λ i. slot_behind (length (m.deeds i)) (m.due seat i) (m.slot seat small i) (more seat))
      ∙ sym (slot-more (length now.deeds) (due_at now seat) (at_seat now.slots seat) (answers seat) (more seat));
}
  where
    sum : (a b c x y z : ℕ) → a ≡ b + y → b ≡ c + x → z ≡ x + y → a ≡ c + z
    sum a b c x y z e f g = omega arith

-- What a verdict changes of the due number and of the slot.
abbrev answer_if : Bool → Answer → List Answer
answer_if b answer = if b then answer ∷ [] else []

due_by : (lines : List (List ℕ)) (v : Verdict) (p : Progress) (answer : Answer) → (progress_after lines v p).due ≡ p.due + length (answer_if (is_acceptance v) answer)
due_by lines Taken p answer = refl
due_by lines Late p answer = refl
due_by lines (Refused rule) p answer = omega arith
due_by lines (Closing rule) p answer = omega arith

slot_by : (n due seat : ℕ) (slots : Four (Option Answer)) (v : Verdict) (answer : Answer) → seat < 4 → (v ≡ Taken → nat_lt (due + 1) n ≡ false) → (v ≡ Late → nat_lt (due + 1) n ≡ true)
    → at_seat (slots_after v slots seat answer) seat ≡ slot_behind n due (at_seat slots seat) (answer_if (is_acceptance v) answer)
slot_by n due seat slots Taken answer small t l = slot-put_at slots seat answer small ∙ ap (λ (b : Bool). if b then at_seat slots seat else Some answer) (sym (t refl))
slot_by n due seat slots Late answer small t l = ap (λ (b : Bool). if b then at_seat slots seat else Some answer) (sym (l refl))
slot_by n due seat slots (Refused rule) answer small t l = refl
slot_by n due seat slots (Closing rule) answer small t l = refl

pub author_by : (lines : List (List ℕ)) (v : Verdict) (chair : Chair) → is_closing v ≡ false → (said_chair lines v chair).author ≡ chair.author
author_by lines Taken chair h = refl
author_by lines Late chair h = refl
author_by lines (Refused rule) chair h = refl
author_by lines (Closing rule) chair h = cc

-- One answer.
abbrev with_said : (rules : Rules) → After → ℕ → Answer → Chair → Verdict → After
with_said rules now seat answer chair v = record {
  entered = now.entered;
  deeds = now.deeds;
  chairs = slice_set now.chairs seat (said_chair (lines_for rules seat now.deeds) v chair);
  slots = slots_after v now.slots seat answer;
}

none_more : (n : ℕ) → n ≡ n + 0
none_more n = omega arith

not_said : (b c : Bool) (answer : Answer) → b ≡ false → answer_if (b && c) answer ≡ []
not_said b c answer e = ap (λ (a : Bool). answer_if (a && c) answer) e

is_said : (b c : Bool) (answer : Answer) → b ≡ true → answer_if (b && c) answer ≡ answer_if c answer
is_said b c answer e = ap (λ (a : Bool). answer_if (a && c) answer) e

held_moves : (rules : Rules) (now : After) (who : ℕ) (answer : Answer) (chair : Chair) (v : Verdict) → slice_get now.chairs who ≡ Some chair → length now.chairs ≤ 4 → is_closing v ≡ false
    → (v ≡ Taken → nat_lt (chair.progress.due + 1) (length now.deeds) ≡ false) → (v ≡ Late → nat_lt (chair.progress.due + 1) (length now.deeds) ≡ true)
    → Moves now (with_said rules now who answer chair v) (λ seat. answer_if (who == seat && is_acceptance v) answer)
held_moves rules now who answer chair v e few stays t l = record {
  deeds = refl;
  authors = authors-set now.chairs who chair new e (author_by lines v chair stays);
  due = λ seat. elim (eqb_tells who seat) [
    | inl p ↦ subst (λ (k : ℕ). due_at next k ≡ due_at now k + length (answer_if (is_acceptance v) answer)) p.1 own_due
        ∙ ap (λ (said : List Answer). due_at now seat + length said) (sym (is_said (who == seat) (is_acceptance v) answer p.0))
    | inr p ↦ ap (λ (o : Option Chair). option_map_or (λ (c : Chair). c.progress.due) o 0) (slice_get-set_other now.chairs who seat new p.1) ∙ none_more (due_at now seat)
        ∙ ap (λ (said : List Answer). due_at now seat + length said) (sym (not_said (who == seat) (is_acceptance v) answer p.0))
  ];
  slot = λ seat small. elim (eqb_tells who seat) [
    | inl p ↦ subst (λ (k : ℕ). at_seat next.slots k ≡ slot_behind n (due_at now k) (at_seat now.slots k) (answer_if (is_acceptance v) answer)) p.1 own_slot
        ∙ ap (slot_behind n (due_at now seat) (at_seat now.slots seat)) (sym (is_said (who == seat) (is_acceptance v) answer p.0))
    | inr p ↦ others_slot now.slots who seat answer v known small p.1 ∙ ap (slot_behind n (due_at now seat) (at_seat now.slots seat)) (sym (not_said (who == seat) (is_acceptance v) answer p.0))
  ];
}
  where
    lines : List (List ℕ)
    lines = lines_for rules who now.deeds

    n : ℕ
    n = length now.deeds

    new : Chair
    new = said_chair (lines_for rules who now.deeds) v chair

    next : After
    next = with_said rules now who answer chair v

    known : who < 4
    known = below_four who (length now.chairs) (slice_get_within now.chairs who chair e) few

    due_is : due_at now who ≡ chair.progress.due
    due_is = ap (λ (o : Option Chair). option_map_or (λ (c : Chair). c.progress.due) o 0) e

    own_due : due_at next who ≡ due_at now who + length (answer_if (is_acceptance v) answer)
    own_due = ap (λ (o : Option Chair). option_map_or (λ (c : Chair). c.progress.due) o 0) (slice_get-set_at now.chairs who new chair e)
        ∙ due_by lines v chair.progress answer ∙ ap (λ (k : ℕ). k + length (answer_if (is_acceptance v) answer)) (sym due_is)

    own_slot : at_seat next.slots who ≡ slot_behind n (due_at now who) (at_seat now.slots who) (answer_if (is_acceptance v) answer)
    own_slot = slot_by n chair.progress.due who now.slots v answer known t l ∙ ap (λ (k : ℕ). slot_behind n k (at_seat now.slots who) (answer_if (is_acceptance v) answer)) (sym due_is)

-- An answer of a seat that isn't held changes nothing.
idle_moves : (now : After) (answers : ℕ → List Answer) → ((seat : ℕ) → answers seat ≡ []) → Moves now now answers
idle_moves now answers none = record {
  deeds = refl;
  authors = refl;
  due = λ seat. none_more (due_at now seat) ∙ ap (λ (said : List Answer). due_at now seat + length said) (sym (none seat));
  slot = λ seat small. ap (slot_behind (length now.deeds) (due_at now seat) (at_seat now.slots seat)) (sym (none seat));
}

never_said : (b : Bool) (answer : Answer) → answer_if (b && false) answer ≡ []
never_said true answer = refl
never_said false answer = refl

said_moves : (rules : Rules) (now : After) (who : ℕ) (answer : Answer) (held : Option Chair) → slice_get now.chairs who ≡ held → length now.chairs ≤ 4
    → option_map_or is_closing (option_map (λ (chair : Chair). verdict_on rules now.deeds who answer chair.progress) held) false ≡ false
    → Moves now (option_map_or (after_said rules now who answer) held now)
    (λ seat. answer_if (who == seat && option_map_or is_acceptance (option_map (λ (chair : Chair). verdict_on rules now.deeds who answer chair.progress) held) false) answer)
unfolding after_said
said_moves rules now who answer None e few stays = idle_moves now _ (λ seat. never_said (who == seat) answer)
said_moves rules now who answer (Some chair) e few stays =
    held_moves rules now who answer chair (verdict_on rules now.deeds who answer chair.progress) e few stays
    (taken_at chair.progress.due chair.progress.refused (length now.deeds) (broken_rule rules now.deeds who answer))
    (late_at chair.progress.due chair.progress.refused (length now.deeds) (broken_rule rules now.deeds who answer))

answer_moves : (setting : Setting) (window : ℕ) (now : After) (entry : Entry Answer) → length now.chairs ≤ 4 → answers_in_window setting window now
    entry ≡ true → Moves now (own_part setting now entry) (λ seat. accepted setting seat now entry)
unfolding own_part
answer_moves setting window now (Said author seat answer) few h = said_moves setting.rules now seat answer (slice_get now.chairs seat) refl few (not-true _ (and_parts _ _ h).1)
answer_moves setting window now (Sat author name key) few h = cc
answer_moves setting window now (Back author seat) few h = cc
answer_moves setting window now (Gone author seat) few h = cc
answer_moves setting window now (Expired author window_now t1 t2) few h = cc

answer_permitted : (setting : Setting) (window : ℕ) (now : After) (entry : Entry Answer) → answers_in_window setting window now entry ≡ true →
    (is_permitted setting now entry ≡ true) × (is_open now.deeds window ≡ true)
answer_permitted setting window now (Said author seat answer) h = and_parts (is_permitted setting now (Said author seat answer)) (is_open now.deeds window) (and_parts _ _ h).0
answer_permitted setting window now (Sat author name key) h = cc
answer_permitted setting window now (Back author seat) h = cc
answer_permitted setting window now (Gone author seat) h = cc
answer_permitted setting window now (Expired author window_now t1 t2) h = cc

-- The open window is that of the newest deed.
pub opened : (deeds : List Deed) (window : ℕ) → is_open deeds window ≡ true → ((length deeds == 0) ≡ false) × (window + 1 ≡ length deeds)
opened deeds window h =
    let parts = and_parts (not (length deeds == 0) && not (is_over deeds)) (window + 1 == length deeds) h in
    (not-true _ (and_parts (not (length deeds == 0)) (not (is_over deeds)) parts.0).0, eqb-true (window + 1) (length deeds) parts.1)

-- The deed that follows an answer, by the deeds, who is present and the slots.
abbrev pub following : Setting → List Deed → List Bool → Four (Option Answer) → Option Deed
following setting deeds presence slots = if closes slots presence then outcome setting.rules setting.walls deeds (answers_in setting.rules deeds slots) else None

abbrev pub followed : Setting → After → Option Deed
followed setting now = following setting now.deeds (map is_present now.chairs) now.slots

pub next_follows : (setting : Setting) (window : ℕ) (now next : After) (entry : Entry Answer) → answers_in_window setting window now entry ≡ true →
    (length next.deeds == 0) ≡ false → next_deed setting next entry ≡ followed setting next
unfolding next_deed
next_follows setting window now next (Said author seat answer) h begun =
    ap (λ (b : Bool). if b then (if length next.chairs == 4 then Some (StartGame (names_of next.chairs)) else None) else followed setting next) begun
next_follows setting window now next (Sat author name key) h begun = cc
next_follows setting window now next (Back author seat) h begun = cc
next_follows setting window now next (Gone author seat) h begun = cc
next_follows setting window now next (Expired author window_now t1 t2) h begun = cc

-- A step is its own part and its deed.
pub record IsStep (now next : After) (added : Option Deed) : Type 0 where
  pub deeds : next.deeds ≡ now.deeds ++ listed added
  pub chairs : next.chairs ≡ now.chairs
  pub slots : next.slots ≡ (with_deed now added).slots

pub step_is : (setting : Setting) (now : After) (entry : Entry Answer) → IsStep (own_part setting now entry) (step setting now entry) (next_deed setting (own_part setting now entry) entry)
unfolding step
step_is setting now entry = record {
  deeds = step-deeds setting now entry ∙ ap (λ (ds : List Deed). ds ++ listed (next_deed setting (own_part setting now entry) entry)) (sym (own_deeds setting now entry));
  chairs = step-chairs setting now entry;
  slots = refl;
}

no_deed : (deeds others : List Deed) (o : Option Deed) → others ≡ deeds ++ listed o → length others ≡ length deeds → o ≡ None
no_deed deeds others None e l = refl
no_deed deeds others (Some deed) e l = absurd (longer (length others) (length deeds) (ap (λ (ds : List Deed). length ds) e ∙ length-append deeds (deed ∷ [])) l)
  where
    longer : (a b : ℕ) → a ≡ b + 1 → a ≡ b → ⊥
    longer a b e f = omega arith

-- Where no deed is added, the step has what the own part has.
idle_step : (now mid next : After) (answers : ℕ → List Answer) (added : Option Deed) → Moves now mid answers → IsStep mid next added → length next.deeds ≡ length now.deeds → Moves now next answers
idle_step now mid next answers added m s l =
    let none : added ≡ None = no_deed mid.deeds next.deeds added s.deeds (l ∙ ap (λ (ds : List Deed). length ds) (sym m.deeds)) in
    let slots : next.slots ≡ mid.slots = s.slots ∙ ap (λ (o : Option Deed). (with_deed mid o).slots) none in
    record {
      deeds = s.deeds ∙ ap (λ (o : Option Deed). mid.deeds ++ listed o) none ∙ append-nil mid.deeds ∙ m.deeds;
      authors = ap authors s.chairs ∙ m.authors;
      due = λ seat. ap (λ (cs : List Chair). option_map_or (λ (c : Chair). c.progress.due) (slice_get cs seat) 0) s.chairs ∙ m.due seat;
      slot = λ seat small. ap (λ (fs : Four (Option Answer)). at_seat fs seat) slots ∙ m.slot seat small;
    }

-- Where entries end that answer in one window: after the seats' own parts, the deed follows that the last of them adds.
record Ends (setting : Setting) (now : After) (entries : List (Entry Answer)) : Type 0 where
  rest : After
  moves : Moves now rest (λ seat. accepted_from setting seat now entries)
  last : IsStep rest (after_from setting now entries) (followed setting rest)

ends : (setting : Setting) (window : ℕ) (now : After) (entry : Entry Answer) (entries : List (Entry Answer)) → AreSeats now.chairs →
    all_answer setting window now (entry ∷ entries) ≡ true → Ends setting now (entry ∷ entries)
ends setting window now entry [] seats h =
    let answers = (and_parts (answers_in_window setting window now entry) true h).0 in
    let own : After = own_part setting now entry in
    let begun : (length own.deeds == 0) ≡ false = ap (λ (ds : List Deed). length ds == 0) (own_deeds setting now entry)
    ∙ (opened now.deeds window (answer_permitted setting window now entry answers).1).0 in
    record {
      rest = own;
      moves = moves_as now own (λ seat. accepted setting seat now entry) _ (λ seat. sym (append-nil (accepted setting seat now entry))) (answer_moves setting window now entry seats.few answers);
      last = subst (λ (o : Option Deed). IsStep own (step setting now entry) o) (next_follows setting window now own entry answers begun) (step_is setting now entry);
    }
ends setting window now entry (second ∷ entries) seats h =
    let parts = and_parts (answers_in_window setting window now entry) (all_answer setting window (step setting now entry) (second ∷ entries)) h in
    let allowed = answer_permitted setting window now entry parts.0 in
    let own : After = own_part setting now entry in
    let next : After = step setting now entry in
    let later = answer_permitted setting window next second (and_parts (answers_in_window setting window next second) _ parts.1).0 in
    let same : length next.deeds ≡ length now.deeds = sym (opened next.deeds window later.1).1 ∙ (opened now.deeds window allowed.1).1 in
    let more : Ends setting next (second ∷ entries) = ends setting window next second entries (step_seats setting now entry allowed.0 seats) parts.1 in
    record {
      rest = more.rest;
      moves = moves_on now next more.rest (λ seat. accepted setting seat now entry) (λ seat. accepted_from setting seat next (second ∷ entries))
          (idle_step now own next (λ seat. accepted setting seat now entry) (next_deed setting own entry)
          (answer_moves setting window now entry seats.few parts.0) (step_is setting now entry) same) more.moves;
      last = more.last;
    }

-- Equal accepted answers have an equal end: deeds, authors, what is due and slots.
record IsSameRest (now other : After) : Type 0 where
  deeds : now.deeds ≡ other.deeds
  authors : authors now.chairs ≡ authors other.chairs
  due : (seat : ℕ) → due_at now seat ≡ due_at other seat
  slots : now.slots ≡ other.slots

four_is : {A : Type 0} (some other : Four A) → ((seat : ℕ) → seat < 4 → at_seat some seat ≡ at_seat other seat) → some ≡ other
four_is some other h = λ i. record { first = h 0 (omega arith) i; second = h 1 (omega arith) i; third = h 2 (omega arith) i; fourth = h 3 (omega arith) i }

same_rest : (now some other : After) (answers others : ℕ → List Answer) → Moves now some answers → Moves now other others → ((seat : ℕ) → answers seat ≡ others seat) → IsSameRest some other
same_rest now some other answers others m k same = record {
  deeds = m.deeds ∙ sym k.deeds;
  authors = m.authors ∙ sym k.authors;
  due = λ seat. m.due seat ∙ ap (λ (said : List Answer). due_at now seat + length said) (same seat) ∙ sym (k.due seat);
  slots = four_is some.slots other.slots (λ seat small. m.slot seat small ∙ ap (slot_behind (length now.deeds) (due_at now seat) (at_seat now.slots seat)) (same seat) ∙ sym (k.slot seat small));
}

same_followed : (setting : Setting) (now other : After) → IsSameRest now other → followed setting now ≡ followed setting other
same_followed setting now other s =
    let presence : map is_present now.chairs ≡ map is_present other.chairs =
    presence-is now.chairs ∙ ap (λ (by : List (Option ℕ)). map (λ (author : Option ℕ). is_some author) by) s.authors ∙ sym (presence-is other.chairs) in
    (λ i. following setting (s.deeds i) (presence i) (s.slots i))

added_slots : (now other : After) (added : Option Deed) → now.slots ≡ other.slots → (with_deed now added).slots ≡ (with_deed other added).slots
added_slots now other None e = e
added_slots now other (Some deed) e = refl

same_due : (now next : After) (seat : ℕ) → next.chairs ≡ now.chairs → due_at next seat ≡ due_at now seat
same_due now next seat e = ap (λ (cs : List Chair). option_map_or (λ (c : Chair). c.progress.due) (slice_get cs seat) 0) e

same_authors : (now next other last : After) → next.chairs ≡ now.chairs → last.chairs ≡ other.chairs → authors now.chairs ≡ authors other.chairs →
    (seat : ℕ) → author_at next seat ≡ author_at last seat
same_authors now next other last e f s seat =
    author-is next seat ∙ ap (λ (by : List (Option ℕ)). unwrap_or (slice_get by seat) None) (ap authors e ∙ s ∙ sym (ap authors f)) ∙ sym (author-is last seat)

same_game : (setting : Setting) (now next other last : After) (some added : Option Deed) → IsSameRest now other → IsStep now next some → IsStep other last added → some ≡ added → IsSameGame next last
same_game setting now next other last some added s k l e = record {
  deeds = k.deeds ∙ (λ i. s.deeds i ++ listed (e i)) ∙ sym l.deeds;
  slots = k.slots ∙ ap (λ (o : Option Deed). (with_deed now o).slots) e ∙ added_slots now other added s.slots ∙ sym l.slots;
  due = λ seat. same_due now next seat k.chairs ∙ s.due seat ∙ sym (same_due other last seat l.chairs);
  present = same_authors now next other last k.chairs l.chairs s.authors;
}

-- Refused answers alone add no deed: the first of them is of a seat that hasn't answered.
first_open : (setting : Setting) (window : ℕ) (now : After) (entry : Entry Answer) → AreSeats now.chairs → AreFilled now →
    answers_in_window setting window now entry ≡ true → followed setting now ≡ None
first_open setting window now (Said author seat answer) seats filled h =
    let may : can_say now author seat ≡ true = (and_parts (is_in_form answer) (can_say now author seat) (answer_permitted setting window now (Said author seat answer) h).0).1 in
    ap (λ (b : Bool). if b then outcome setting.rules setting.walls now.deeds (answers_in setting.rules now.deeds now.slots) else None) (not_closed now author seat seats filled may)
first_open setting window now (Sat author name key) seats filled h = cc
first_open setting window now (Back author seat) seats filled h = cc
first_open setting window now (Gone author seat) seats filled h = cc
first_open setting window now (Expired author window_now t1 t2) seats filled h = cc

no_step : (now : After) → IsStep now now None
no_step now = record { deeds = sym (append-nil now.deeds); chairs = refl; slots = refl }

turned : (now other : After) → IsSameGame now other → IsSameGame other now
turned now other s = record { deeds = sym s.deeds; slots = sym s.slots; due = λ seat. sym (s.due seat); present = λ seat. sym (s.present seat) }

none_taken : (setting : Setting) (window : ℕ) (now : After) (entry : Entry Answer) (entries : List (Entry Answer)) → AreSeats now.chairs →
    AreFilled now → all_answer setting window now (entry ∷ entries) ≡ true
    → ((seat : ℕ) → accepted_from setting seat now [] ≡ accepted_from setting seat now (entry ∷ entries)) → IsSameGame now (after_from setting now (entry ∷ entries))
none_taken setting window now entry entries seats filled h same =
    let there : Ends setting now (entry ∷ entries) = ends setting window now entry entries seats h in
    let idle : Moves now now (λ seat. accepted_from setting seat now []) = idle_moves now (λ seat. accepted_from setting seat now []) (λ seat. refl) in
    let s : IsSameRest now there.rest = same_rest now now there.rest _ _ idle there.moves same in
    let none : followed setting now ≡ None = first_open setting window now entry seats filled (and_parts (answers_in_window setting window now entry) _ h).0 in
    same_game setting now now there.rest (after_from setting now (entry ∷ entries)) None (followed setting there.rest) s (no_step now) there.last (sym none ∙ same_followed setting now there.rest s)

free_from : (setting : Setting) (window : ℕ) (now : After) (some others : List (Entry Answer)) → AreSeats now.chairs → AreFilled now →
    all_answer setting window now some ≡ true → all_answer setting window now others ≡ true
    → ((seat : ℕ) → accepted_from setting seat now some ≡ accepted_from setting seat now others) → IsSameGame (after_from setting now some) (after_from setting now others)
free_from setting window now [] [] seats filled h k same = record { deeds = refl; slots = refl; due = λ seat. refl; present = λ seat. refl }
free_from setting window now [] (other ∷ others) seats filled h k same = none_taken setting window now other others seats filled k same
free_from setting window now (entry ∷ entries) [] seats filled h k same = turned now (after_from setting now (entry ∷ entries))
    (none_taken setting window now entry entries seats filled h (λ seat. sym (same seat)))
free_from setting window now (entry ∷ entries) (other ∷ others) seats filled h k same =
    let here : Ends setting now (entry ∷ entries) = ends setting window now entry entries seats h in
    let there : Ends setting now (other ∷ others) = ends setting window now other others seats k in
    let s : IsSameRest here.rest there.rest = same_rest now here.rest there.rest _ _ here.moves there.moves same in
    same_game setting here.rest (after_from setting now (entry ∷ entries)) there.rest (after_from setting now (other ∷ others))
    (followed setting here.rest) (followed setting there.rest) s here.last there.last
    (same_followed setting here.rest there.rest s)

pub order_is_free : OrderIsFree
order_is_free setting entries some others window legal h k same =
    let now : After = after setting entries in
    let free : IsSameGame (after_from setting now some) (after_from setting now others) =
    free_from setting window now some others (legal_seats setting entries legal) (legal_filled setting entries legal) h k same in
    subst (λ (a : After). IsSameGame a (after setting (entries ++ others))) (sym (after_from-list setting before_all entries some))
    (subst (λ (a : After). IsSameGame (after_from setting now some) a) (sym (after_from-list setting before_all entries others)) free)
