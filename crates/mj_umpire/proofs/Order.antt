-- What is true of every legal game in play: four seats at most, and four once it has begun; the slot of a seat is empty as
-- long as its due deed exists; no seat waits for a deed after the next one, or had more refused answers than it may.
use Rattle.std.proofs.Common.{◌≡◌, ◌≢◌, ℕ, zero, suc, ◌+◌, ◌-◌, ◌<◌, ◌≤◌, ◌==◌, not, inl, inr, List, [], ◌∷◌, ◌++◌, length, map, Bool, true, false, refl, ap, ◌∙◌, sym, subst, arith}
use Rattle.std.specs.Prelude.{if◌then◌else◌, Option, Some, None, is_some, option_map, slice_get, slice_set, nat_lt}
use Rattle.std.specs.Option.{option_map_or}
use Rattle.std.specs.List.{list_any}
use Rattle.std.proofs.lemmas.Bool.{and_parts, true≢false, ltb-true}
use Rattle.std.proofs.lemmas.Bool.Decides.{eqb_tells}
use Rattle.std.proofs.lemmas.List.{length-append, length-set}
use Rattle.std.proofs.lemmas.Option.{slice_get_within, slice_get-map}
use Rattle.mj_ports.specs.declared.entry.Entry.{Entry}
use Rattle.mj_ports.specs.declared.entry.Entry.TheVariants.{Sat, Back, Said, Gone, Expired}
use Rattle.mj_ports.specs.Names.{is_name}
use Rattle.mj_deeds.specs.declared.four.Four.{Four}
use Rattle.mj_deeds.specs.declared.rule.Rule.{Rule}
use Rattle.mj_deeds.specs.declared.deed.Deed.{Deed}
use Rattle.mj_deeds.specs.declared.answer.Answer.{Answer}
use Rattle.mj_deeds.specs.Answers.{is_in_form}
use Rattle.mj_deeds.specs.Four.{at_seat}
use Rattle.mj_wall.specs.declared.setting.Setting.{Setting}
use Rattle.mj_window.specs.Slots.{empty_slots, put_at}
use Rattle.mj_rules.specs.Broken.{broken_rule}
use Rattle.mj_wall.specs.declared.setting.Rules.{Rules}
use Rattle.mj_history.specs.After.{After, Chair, Verdict, Taken, Late, Refused, Closing, verdict, progress_after, author_after, slots_after, lines_for}
use Rattle.mj_history.specs.After.{after_said, after_gone, after_back, new_chair, own_part, next_deed, with_deed, step, before_all, after_from, after}
use Rattle.mj_history.specs.Legal.{has_name, can_sit, is_present_by, may_say, can_say, can_return, is_permitted, all_permitted, IsLegal}
use Rattle.mj_history.proofs.Places.{slice_get-set_at, slice_get-set_other}
use Rattle.mj_umpire.specs.Inner.Untold.{untold_chair, untold}
use Rattle.mj_umpire.specs.Inner.States.{is_due, IsOpen, IsPatient, IsPatientAt, IsInOrder}
use Rattle.mj_umpire.proofs.Steps.{next-waits, next-starts}

-- So far as an entry has changed its own seat's part.
record IsMidway (now : After) : Type 0 where
  few : length now.chairs ≤ 4
  begun : (length now.deeds == 0) ≡ false → (length now.chairs == 4) ≡ true
  empty : IsOpen now
  patient : (seat : ℕ) → IsPatientAt now.deeds (slice_get now.chairs seat)

-- Then the deed is added.
none_in : (seat : ℕ) → at_seat empty_slots seat ≡ None
none_in seat = none (seat == 0) (seat == 1) (seat == 2)
  where
    none : (a b c : Bool) → (if a then None else (if b then None else (if c then None else None))) ≡ (let nobody : Option Answer = None in nobody)
    none true b c = refl
    none false true c = refl
    none false false true = refl
    none false false false = refl

patient_more : (deeds : List Deed) (deed : Deed) (o : Option Chair) → IsPatientAt deeds o → IsPatientAt (deeds ++ deed ∷ []) o
patient_more deeds deed None p = p
patient_more deeds deed (Some chair) p = record { due = more chair.progress.due (length deeds) (length (deeds ++ deed ∷ [])) (length-append deeds (deed ∷ [])) p.due; refused = p.refused }
  where
    more : (due n m : ℕ) → m ≡ n + 1 → due ≤ n → due ≤ m
    more due n m e h = omega arith

not_none : (deeds : List Deed) (deed : Deed) → (length (deeds ++ deed ∷ []) == 0) ≡ false
not_none [] deed = refl
not_none (d ∷ deeds) deed = more (length (deeds ++ deed ∷ []))
  where
    more : (n : ℕ) → (suc n == 0) ≡ false
    more n = grind arith

deed_in_order : (now : After) (added : Option Deed) → IsMidway now → ((length now.deeds == 0) ≡ true → (length now.chairs == 4) ≡ is_some added) → IsInOrder (with_deed now added)
deed_in_order now None m h = record { few = m.few; started = by (length now.deeds == 0) refl; empty = m.empty; patient = m.patient }
  where
    by : (none : Bool) → (length now.deeds == 0) ≡ none → (length now.chairs == 4) ≡ not none
    by true e = h e
    by false e = m.begun e
deed_in_order now (Some deed) m h = record {
  few = m.few;
  started = by (length now.deeds == 0) refl ∙ ap not (sym (not_none now.deeds deed));
  empty = λ seat due. none_in seat;
  patient = λ seat. patient_more now.deeds deed (slice_get now.chairs seat) (m.patient seat);
}
  where
    by : (none : Bool) → (length now.deeds == 0) ≡ none → (length now.chairs == 4) ≡ true
    by true e = h e
    by false e = m.begun e

next_starts : (setting : Setting) (now : After) (entry : Entry Answer) → (length now.deeds == 0) ≡ true → (length now.chairs == 4) ≡ is_some (next_deed setting now entry)
next_starts setting now entry d = by (length now.chairs == 4) refl
  where
    by : (four : Bool) → (length now.chairs == 4) ≡ four → (length now.chairs == 4) ≡ is_some (next_deed setting now entry)
    by true c = c ∙ ap is_some (sym (next-starts setting now entry d c))
    by false c = c ∙ ap is_some (sym (next-waits setting now entry d c))

-- A seat changes.
record Changes (now : After) (seat : ℕ) (old new : Chair) (slots : Four (Option Answer)) : Type 0 where
  held : slice_get now.chairs seat ≡ Some old
  slot : nat_lt new.progress.due (length now.deeds) ≡ true → at_seat slots seat ≡ None
  others : (other : ℕ) → other < 4 → seat ≢ other → at_seat slots other ≡ at_seat now.slots other
  patient : IsPatient now.deeds new

abbrev with_chair : After → ℕ → Chair → Four (Option Answer) → After
with_chair now seat new slots = record { entered = now.entered; deeds = now.deeds; chairs = slice_set now.chairs seat new; slots = slots }

abbrev is_asked : List Deed → Option Chair → Bool
is_asked deeds o = option_map_or (λ (chair : Chair). nat_lt chair.progress.due (length deeds)) o false

asked_held : (deeds : List Deed) (o : Option Chair) → is_asked deeds o ≡ true → (chair : Chair) × (o ≡ Some chair)
asked_held deeds None h = cc
asked_held deeds (Some chair) h = (chair, refl)

due_within : (now : After) (seat : ℕ) → is_due now seat ≡ true → seat < length now.chairs
due_within now seat h =
    let k = asked_held now.deeds (slice_get now.chairs seat) h in
    slice_get_within now.chairs seat k.0 k.1

below_four : (n m : ℕ) → n < m → m ≤ 4 → n < 4
below_four n m h k = omega arith

chair_in_order : (now : After) (seat : ℕ) (old new : Chair) (slots : Four (Option Answer)) → IsInOrder now → Changes now seat old new slots → IsMidway (with_chair now seat new slots)
chair_in_order now seat old new slots o c = record {
  few = subst (λ (n : ℕ). n ≤ 4) (sym (length-set now.chairs seat new)) o.few;
  begun = λ e. ap (λ (n : ℕ). n == 4) (length-set now.chairs seat new) ∙ o.started ∙ ap not e;
  empty = λ other due. elim (eqb_tells seat other) [
    | inl p ↦ subst (λ (n : ℕ). at_seat slots n ≡ None) p.1 (c.slot (own (subst (λ (n : ℕ). is_due (with_chair now seat new slots) n ≡ true) (sym p.1) due)))
    | inr p ↦ c.others other (below_four other (length now.chairs) (due_within now other (apart other p.1 due)) o.few) p.1 ∙ o.empty other (apart other p.1 due)
  ];
  patient = λ other. elim (eqb_tells seat other) [
    | inl p ↦ subst (λ (n : ℕ). IsPatientAt now.deeds (slice_get (slice_set now.chairs seat new) n)) p.1
        (subst (IsPatientAt now.deeds) (sym (slice_get-set_at now.chairs seat new old c.held)) c.patient)
    | inr p ↦ subst (IsPatientAt now.deeds) (sym (slice_get-set_other now.chairs seat other new p.1)) (o.patient other)
  ];
}
  where
    own : is_due (with_chair now seat new slots) seat ≡ true → nat_lt new.progress.due (length now.deeds) ≡ true
    own h = sym (ap (is_asked now.deeds) (slice_get-set_at now.chairs seat new old c.held)) ∙ h

    apart : (other : ℕ) → seat ≢ other → is_due (with_chair now seat new slots) other ≡ true → is_due now other ≡ true
    apart other ne h = sym (ap (is_asked now.deeds) (slice_get-set_other now.chairs seat other new ne)) ∙ h

-- A held seat of a game in order.
patient_at : (now : After) (seat : ℕ) (chair : Chair) → IsInOrder now → slice_get now.chairs seat ≡ Some chair → IsPatient now.deeds chair
patient_at now seat chair o e = subst (IsPatientAt now.deeds) e (o.patient seat)

open_at : (now : After) (seat : ℕ) (chair : Chair) → IsInOrder now → slice_get now.chairs seat ≡ Some chair → nat_lt chair.progress.due (length now.deeds) ≡ true → at_seat now.slots seat ≡ None
open_at now seat chair o e h = o.empty seat (ap (is_asked now.deeds) e ∙ h)

-- What a seat says.
put_other : (slots : Four (Option Answer)) (seat other : ℕ) (answer : Answer) → seat < 4 → other < 4 → seat ≢ other → at_seat (put_at slots seat answer) other ≡ at_seat slots other
put_other slots zero zero answer s o ne = absurd (ne refl)
put_other slots zero (suc zero) answer s o ne = refl
put_other slots zero (suc (suc zero)) answer s o ne = refl
put_other slots zero (suc (suc (suc zero))) answer s o ne = refl
put_other slots zero (suc (suc (suc (suc other)))) answer s o ne = absurd (omega arith)
put_other slots (suc zero) zero answer s o ne = refl
put_other slots (suc zero) (suc zero) answer s o ne = absurd (ne refl)
put_other slots (suc zero) (suc (suc zero)) answer s o ne = refl
put_other slots (suc zero) (suc (suc (suc zero))) answer s o ne = refl
put_other slots (suc zero) (suc (suc (suc (suc other)))) answer s o ne = absurd (omega arith)
put_other slots (suc (suc zero)) zero answer s o ne = refl
put_other slots (suc (suc zero)) (suc zero) answer s o ne = refl
put_other slots (suc (suc zero)) (suc (suc zero)) answer s o ne = absurd (ne refl)
put_other slots (suc (suc zero)) (suc (suc (suc zero))) answer s o ne = refl
put_other slots (suc (suc zero)) (suc (suc (suc (suc other)))) answer s o ne = absurd (omega arith)
put_other slots (suc (suc (suc zero))) zero answer s o ne = refl
put_other slots (suc (suc (suc zero))) (suc zero) answer s o ne = refl
put_other slots (suc (suc (suc zero))) (suc (suc zero)) answer s o ne = refl
put_other slots (suc (suc (suc zero))) (suc (suc (suc zero))) answer s o ne = absurd (ne refl)
put_other slots (suc (suc (suc zero))) (suc (suc (suc (suc other)))) answer s o ne = absurd (omega arith)
put_other slots (suc (suc (suc (suc seat)))) other answer s o ne = absurd (omega arith)

abbrev said_chair : List (List ℕ) → Verdict → Chair → Chair
said_chair lines v chair = record chair { author = author_after v chair.author; progress = progress_after lines v chair.progress }

abbrev SaidChanges : (rules : Rules) → After → ℕ → Answer → Chair → Verdict → Type 0
SaidChanges rules now seat answer chair v = Changes now seat chair (said_chair (lines_for rules seat now.deeds) v chair) (slots_after v now.slots seat answer)

said_changes : (rules : Rules) (now : After) (seat : ℕ) (answer : Answer) (chair : Chair) (rule : Option Rule) → IsInOrder now →
    slice_get now.chairs seat ≡ Some chair → nat_lt chair.progress.due (length now.deeds) ≡ true
    → SaidChanges rules now seat answer chair (verdict chair.progress.due chair.progress.refused (length now.deeds) rule)
said_changes rules now seat answer chair rule o e h = by rule
  where
    goes_on : (due n : ℕ) → nat_lt due n ≡ true → due + 1 ≤ n
    goes_on due n h = let k : due < n = ltb-true due n h in omega arith

    one_more : (refused : ℕ) → nat_lt refused 15 ≡ true → refused + 1 ≤ 15
    one_more refused h = let k : refused < 15 = ltb-true refused 15 h in omega arith

    nothing : (n : ℕ) → 0 ≤ n
    nothing n = omega arith

    slot : at_seat now.slots seat ≡ None
    slot = open_at now seat chair o e h

    small : seat < 4
    small = below_four seat (length now.chairs) (slice_get_within now.chairs seat chair e) o.few

    late : SaidChanges rules now seat answer chair Late
    late = record { held = e; slot = λ _. slot; others = λ other k ne. refl; patient = record { due = goes_on chair.progress.due (length now.deeds) h; refused = λ _. nothing 15 } }

    taken : nat_lt (chair.progress.due + 1) (length now.deeds) ≡ false → SaidChanges rules now seat answer chair Taken
    taken f = record {
      held = e;
      slot = λ t. absurd (true≢false (sym t ∙ f));
      others = λ other k ne. put_other now.slots seat other answer small k ne;
      patient = record { due = goes_on chair.progress.due (length now.deeds) h; refused = λ _. nothing 15 };
    }

    refused : (rule : Rule) → nat_lt chair.progress.refused 15 ≡ true → SaidChanges rules now seat answer chair (Refused rule)
    refused rule r = record {
      held = e;
      slot = λ _. slot;
      others = λ other k ne. refl;
      patient = record {
        due = (patient_at now seat chair o e).due;
        refused = λ _. one_more chair.progress.refused r;
      };
    }

    closing : (rule : Rule) → SaidChanges rules now seat answer chair (Closing rule)
    closing rule = record { held = e; slot = λ _. slot; others = λ other k ne. refl; patient = record { due = (patient_at now seat chair o e).due; refused = λ t. absurd (true≢false (sym t)) } }

    no_rule : (b : Bool) → nat_lt (chair.progress.due + 1) (length now.deeds) ≡ b → SaidChanges rules now seat answer chair (if b then Late else Taken)
    no_rule true f = late
    no_rule false f = taken f

    room : (rule : Rule) (b : Bool) → nat_lt chair.progress.refused 15 ≡ b → SaidChanges rules now seat answer chair (if b then Refused rule else Closing rule)
    room rule true f = refused rule f
    room rule false f = closing rule

    some_rule : (rule : Rule) (b : Bool) → SaidChanges rules now seat answer chair (if b then Late else (if nat_lt chair.progress.refused 15 then Refused rule else Closing rule))
    some_rule rule true = late
    some_rule rule false = room rule (nat_lt chair.progress.refused 15) refl

    by : (rule : Option Rule) → SaidChanges rules now seat answer chair (verdict chair.progress.due chair.progress.refused (length now.deeds) rule)
    by None = no_rule (nat_lt (chair.progress.due + 1) (length now.deeds)) refl
    by (Some rule) = some_rule rule (nat_lt (chair.progress.due + 1) (length now.deeds))

said_midway : (setting : Setting) (now : After) (author seat : ℕ) (answer : Answer) (held : Option Chair) → IsInOrder now →
    slice_get now.chairs seat ≡ held → option_map_or (may_say now author) held false ≡ true
    → IsMidway (option_map_or (after_said setting.rules now seat answer) held now)
unfolding after_said may_say
said_midway setting now author seat answer None o e p = cc
said_midway setting now author seat answer (Some chair) o e p =
    chair_in_order now seat chair _ _ o (said_changes setting.rules now seat answer chair (broken_rule setting.rules now.deeds seat answer) o e
    (and_parts (is_present_by author chair) (nat_lt chair.progress.due (length now.deeds)) p).1)

-- A seat that leaves.
gone_midway : (rules : Rules) (now : After) (author seat : ℕ) (held : Option Chair) → IsInOrder now → slice_get now.chairs seat ≡ held → option_map_or (is_present_by author) held false ≡ true
    → IsMidway (option_map_or (after_gone rules now seat) held now)
unfolding after_gone
gone_midway rules now author seat None o e p = cc
gone_midway rules now author seat (Some chair) o e p = chair_in_order now seat chair _ now.slots o (record {
  held = e;
  slot = λ h. open_at now seat chair o e h;
  others = λ other k ne. refl;
  patient = record { due = (patient_at now seat chair o e).due; refused = λ t. absurd (true≢false (sym t)) };
})

-- A seat that comes back.
back_due : (slot : Option Answer) (n : ℕ) → (if is_some slot then n else n - 1) ≤ n
back_due None n = omega arith
back_due (Some answer) n = omega arith

back_open : (slot : Option Answer) (n : ℕ) → nat_lt (if is_some slot then n else n - 1) n ≡ true → slot ≡ None
back_open None n h = refl
back_open (Some answer) n h = let k : n < n = ltb-true n n h in absurd (omega arith)

back_midway : (rules : Rules) (now : After) (author seat : ℕ) (held : Option Chair) → IsInOrder now → slice_get now.chairs seat ≡ held → option_map_or (can_return now) held false ≡ true
    → IsMidway (option_map_or (after_back rules now author seat) held now)
unfolding after_back
back_midway rules now author seat None o e p = cc
back_midway rules now author seat (Some chair) o e p = chair_in_order now seat chair _ now.slots o (record {
  held = e;
  slot = λ h. back_open (at_seat now.slots seat) (length now.deeds) h;
  others = λ other k ne. refl;
  patient = record { due = back_due (at_seat now.slots seat) (length now.deeds); refused = λ t. omega arith };
})

-- A seat that is taken.
patient_append : (deeds : List Deed) (chairs : List Chair) (new : Chair) (seat : ℕ) → IsPatient deeds new →
    ((s : ℕ) → IsPatientAt deeds (slice_get chairs s)) → IsPatientAt deeds (slice_get (chairs ++ new ∷ []) seat)
patient_append deeds [] new zero p h = p
patient_append deeds [] new (suc seat) p h = h 0
patient_append deeds (chair ∷ chairs) new zero p h = h 0
patient_append deeds (chair ∷ chairs) new (suc seat) p h = patient_append deeds chairs new seat p (λ s. h (suc s))

unbegun_open : (now : After) → (length now.deeds == 0) ≡ true → IsOpen now
unbegun_open now d seat h = absurd (begun (slice_get now.chairs seat) h)
  where
    none_due : (due n : ℕ) → (n == 0) ≡ true → nat_lt due n ≡ true → ⊥
    none_due due zero e k = let l : due < 0 = ltb-true due 0 k in omega arith
    none_due due (suc n) e k = grind (arith, e)

    begun : (o : Option Chair) → is_asked now.deeds o ≡ true → ⊥
    begun None k = cc
    begun (Some chair) k = none_due chair.progress.due (length now.deeds) d k

sat_midway : (now : After) (author : ℕ) (name : List ℕ) (key : Option (List ℕ)) → IsInOrder now → can_sit now.chairs name ≡ true →
    IsMidway (record now { chairs = now.chairs ++ new_chair now.entered author name key ∷ [] })
unfolding can_sit
sat_midway now author name key o p =
    let new : Chair = new_chair now.entered author name key in
    let few : nat_lt (length now.chairs) 4 ≡ true = (and_parts (nat_lt (length now.chairs) 4) (not (list_any (has_name name) now.chairs)) p).0 in
    let unbegun : (length now.deeds == 0) ≡ true = early (length now.deeds == 0) (length now.chairs) o.started few in
    record {
      few = one_more (length now.chairs) (length (now.chairs ++ new ∷ [])) (length-append now.chairs (new ∷ [])) few;
      begun = λ e. absurd (true≢false (sym unbegun ∙ e));
      empty = unbegun_open (record now { chairs = now.chairs ++ new ∷ [] }) unbegun;
      patient = λ seat. patient_append now.deeds now.chairs new seat (record { due = nothing (length now.deeds); refused = λ _. nothing 15 }) o.patient;
    }
  where
    nothing : (n : ℕ) → 0 ≤ n
    nothing n = omega arith

    one_more : (n m : ℕ) → m ≡ n + 1 → nat_lt n 4 ≡ true → m ≤ 4
    one_more n m e h = let k : n < 4 = ltb-true n 4 h in omega arith

    early : (none : Bool) (n : ℕ) → (n == 4) ≡ not none → nat_lt n 4 ≡ true → none ≡ true
    early true n e h = refl
    early false n e h = let k : n < 4 = ltb-true n 4 h in grind (arith, e)

own_midway : (setting : Setting) (now : After) (entry : Entry Answer) → is_permitted setting now entry ≡ true → IsInOrder now → IsMidway (own_part setting now entry)
unfolding own_part
own_midway setting now (Sat author name key) p o = sat_midway now author name key o (and_parts (is_name name) (can_sit now.chairs name) p).1
own_midway setting now (Said author seat answer) p o = said_midway setting now author seat answer (slice_get now.chairs seat) o refl (and_parts (is_in_form answer) (can_say now author seat) p).1
own_midway setting now (Back author seat) p o = back_midway setting.rules now author seat (slice_get now.chairs seat) o refl p
own_midway setting now (Gone author seat) p o = gone_midway setting.rules now author seat (slice_get now.chairs seat) o refl p
own_midway setting now (Expired author window t1 t2) p o = record { few = o.few; begun = λ e. o.started ∙ ap not e; empty = o.empty; patient = o.patient }

pub step-in-order : (setting : Setting) (now : After) (entry : Entry Answer) → is_permitted setting now entry ≡ true → IsInOrder now → IsInOrder (step setting now entry)
unfolding step
step-in-order setting now entry p o =
    let m : IsMidway (own_part setting now entry) = own_midway setting now entry p o in
    let n : IsInOrder (with_deed (own_part setting now entry) (next_deed setting (own_part setting now entry) entry)) =
    deed_in_order (own_part setting now entry) (next_deed setting (own_part setting now entry) entry) m (next_starts setting (own_part setting now entry) entry) in
    record { few = n.few; started = n.started; empty = n.empty; patient = n.patient }

pub start-in-order : IsInOrder before_all
start-in-order = record { few = omega arith; started = refl; empty = unbegun_open before_all refl; patient = λ seat. nobody seat }
  where
    nobody : (seat : ℕ) → IsPatientAt [] (slice_get [] seat)
    nobody seat = _

order_from : (setting : Setting) (now : After) (entries : List (Entry Answer)) → all_permitted setting now entries ≡ true → IsInOrder now → IsInOrder (after_from setting now entries)
order_from setting now [] p o = o
order_from setting now (entry ∷ entries) p o =
    let parts = and_parts (is_permitted setting now entry) (all_permitted setting (step setting now entry) entries) p in
    order_from setting (step setting now entry) entries parts.1 (step-in-order setting now entry parts.0 o)

pub legal-in-order : (setting : Setting) (entries : List (Entry Answer)) → IsLegal setting entries → IsInOrder (after setting entries)
legal-in-order setting entries legal = order_from setting before_all entries legal.permitted start-in-order

-- It is so whatever the connections were told.
asked_untold : (deeds : List Deed) (o : Option Chair) → is_asked deeds (option_map untold_chair o) ≡ is_asked deeds o
asked_untold deeds None = refl
asked_untold deeds (Some chair) = refl

due_untold : (now : After) (seat : ℕ) → is_due (untold now) seat ≡ is_due now seat
due_untold now seat = ap (is_asked now.deeds) (slice_get-map untold_chair now.chairs seat) ∙ asked_untold now.deeds (slice_get now.chairs seat)

patient_untold : (deeds : List Deed) (o : Option Chair) → IsPatientAt deeds o → IsPatientAt deeds (option_map untold_chair o)
patient_untold deeds None p = p
patient_untold deeds (Some chair) p = record { due = p.due; refused = p.refused }

patient_told : (deeds : List Deed) (o : Option Chair) → IsPatientAt deeds (option_map untold_chair o) → IsPatientAt deeds o
patient_told deeds None p = p
patient_told deeds (Some chair) p = record { due = p.due; refused = p.refused }

length_untold : (chairs : List Chair) → length (map untold_chair chairs) ≡ length chairs
length_untold [] = refl
length_untold (chair ∷ chairs) = ap suc (length_untold chairs)

order_untold : (now : After) → IsInOrder now → IsInOrder (untold now)
order_untold now o = record {
  few = subst (λ (n : ℕ). n ≤ 4) (sym (length_untold now.chairs)) o.few;
  started = ap (λ (n : ℕ). n == 4) (length_untold now.chairs) ∙ o.started;
  empty = λ seat h. o.empty seat (sym (due_untold now seat) ∙ h);
  patient = λ seat. subst (IsPatientAt now.deeds) (sym (slice_get-map untold_chair now.chairs seat)) (patient_untold now.deeds (slice_get now.chairs seat) (o.patient seat));
}

order_told : (now : After) → IsInOrder (untold now) → IsInOrder now
order_told now o = record {
  few = subst (λ (n : ℕ). n ≤ 4) (length_untold now.chairs) o.few;
  started = ap (λ (n : ℕ). n == 4) (sym (length_untold now.chairs)) ∙ o.started;
  empty = λ seat h. o.empty seat (due_untold now seat ∙ h);
  patient = λ seat. patient_told now.deeds (slice_get now.chairs seat) (subst (IsPatientAt now.deeds) (slice_get-map untold_chair now.chairs seat) (o.patient seat));
}

pub order-same : (now other : After) → untold now ≡ untold other → IsInOrder other → IsInOrder now
order-same now other e o = order_told now (subst IsInOrder (sym e) (order_untold other o))
