-- In a legal game an answer in a slot is of a held seat that waits for a later deed, so a seat that may answer to the newest
-- deed keeps its window open.
use Rattle.std.proofs.Common.{◌≡◌, ◌≢◌, ℕ, zero, suc, ◌+◌, ◌-◌, ◌<◌, ◌≤◌, ◌&&◌, ◌||◌, not, inl, inr, List, [], ◌∷◌, ◌++◌, length, map, Bool, true, false, refl, true≢false, ap, ◌∙◌, sym, subst, arith}
use Rattle.std.specs.Prelude.{if◌then◌else◌, Option, Some, None, is_some, option_map, slice_get, slice_set, nat_lt}
use Rattle.std.specs.Option.{option_map_or}
use Rattle.std.proofs.lemmas.Bool.{and_parts, not-true, ltb-true}
use Rattle.std.proofs.lemmas.Bool.Decides.{eqb_tells}
use Rattle.std.proofs.lemmas.Option.{same_Some, slice_get-map, slice_get_within}
use Rattle.mj_ports.specs.declared.entry.Entry.{Entry}
use Rattle.mj_ports.specs.declared.entry.Entry.TheVariants.{Sat, Back, Said, Gone, Expired}
use Rattle.mj_deeds.specs.declared.four.Four.{Four}
use Rattle.mj_deeds.specs.declared.answer.Answer.{Answer}
use Rattle.mj_deeds.specs.declared.deed.Deed.{Deed}
use Rattle.mj_deeds.specs.Answers.{is_in_form}
use Rattle.mj_deeds.specs.Four.{at_seat}
use Rattle.mj_wall.specs.declared.setting.Rules.{Rules}
use Rattle.mj_wall.specs.declared.setting.Setting.{Setting}
use Rattle.mj_window.specs.Slots.{empty_slots, is_waited_for, closes}
use Rattle.mj_rules.specs.Broken.{broken_rule}
use Rattle.mj_history.specs.After.{After, Chair, Verdict, Taken, Late, Refused, Closing, verdict_on, slots_after, lines_for, is_present, after_said}
use Rattle.mj_history.specs.After.{after_gone, after_back, new_chair, own_part, next_deed, with_deed, step, after_from, after, before_all}
use Rattle.mj_history.specs.Legal.{IsLegal, is_present_by, may_say, can_say, is_permitted, all_permitted}
use Rattle.mj_history.proofs.Places.{slice_get-set_at, slice_get-set_other, slice_get-append_other, slot-empty, slot-put_other}
use Rattle.mj_history.proofs.Entered.{said_chair, gone_chair, back_chair, taken_at}
use Rattle.mj_history.proofs.Fitting.{own_deeds}
use Rattle.mj_history.proofs.Seats.{AreSeats, step_seats, no_seats}
use Rattle.mj_history.proofs.Seated.{present_is}
use Rattle.mj_history.proofs.Moves.{held_here}

-- an answer of one seat leaves the slots of the others
pub others_slot : (slots : Four (Option Answer)) (who seat : ℕ) (answer : Answer) (v : Verdict) → who < 4 → seat < 4 → who ≢ seat → at_seat (slots_after v slots who answer) seat ≡ at_seat slots seat
others_slot slots who seat answer Taken known small ne = slot-put_other slots who seat answer known small ne
others_slot slots who seat answer Late known small ne = refl
others_slot slots who seat answer (Refused rule) known small ne = refl
others_slot slots who seat answer (Closing rule) known small ne = refl

-- A held seat waits for a deed that isn't there.
abbrev is_past : ℕ → Option Chair → Bool
is_past n o = option_map_or (λ (chair : Chair). not (nat_lt chair.progress.due n)) o false

abbrev pub AreFilledBy : ℕ → List Chair → Four (Option Answer) → Type 0
AreFilledBy n chairs slots = (seat : ℕ) → seat < 4 → is_some (at_seat slots seat) ≡ true → is_past n (slice_get chairs seat) ≡ true

abbrev pub AreFilled : After → Type 0
AreFilled now = AreFilledBy (length now.deeds) now.chairs now.slots

-- A seat changes.
filled_set : (n : ℕ) (chairs : List Chair) (slots others : Four (Option Answer)) (who : ℕ) (old new : Chair) → slice_get chairs who ≡ Some old → AreFilledBy n chairs slots
    → ((seat : ℕ) → seat < 4 → who ≢ seat → at_seat others seat ≡ at_seat slots seat) →
    (is_some (at_seat others who) ≡ true → nat_lt new.progress.due n ≡ false) → AreFilledBy n (slice_set chairs who new) others
filled_set n chairs slots others who old new e filled apart own seat small s = elim (eqb_tells who seat) [
  | inl p ↦ subst (λ (k : ℕ). is_past n (slice_get (slice_set chairs who new) k) ≡ true) p.1
      (ap (is_past n) (slice_get-set_at chairs who new old e) ∙ ap not (own (subst (λ (k : ℕ). is_some (at_seat others k) ≡ true) (sym p.1) s)))
  | inr p ↦ ap (is_past n) (slice_get-set_other chairs who seat new p.1) ∙ filled seat small (sym (ap is_some (apart seat small p.1)) ∙ s)
]

held_past : (n : ℕ) (o : Option Chair) → is_past n o ≡ true → (chair : Chair) × (o ≡ Some chair)
held_past n None h = cc
held_past n (Some chair) h = (chair, refl)

pub below_four : (n m : ℕ) → n < m → m ≤ 4 → n < 4
below_four n m h k = omega arith

pub past_at : (n : ℕ) (chairs : List Chair) (slots : Four (Option Answer)) (seat : ℕ) (chair : Chair) → slice_get chairs seat ≡ Some chair →
    length chairs ≤ 4 → AreFilledBy n chairs slots → is_some (at_seat slots seat) ≡ true → nat_lt chair.progress.due n ≡ false
past_at n chairs slots seat chair e few filled s =
    not-true (nat_lt chair.progress.due n) (sym (ap (is_past n) e) ∙ filled seat (below_four seat (length chairs) (slice_get_within chairs seat chair e) few) s)

-- A seat is taken.
sat_filled : (n : ℕ) (chairs : List Chair) (slots : Four (Option Answer)) (new : Chair) → AreFilledBy n chairs slots → AreFilledBy n (chairs ++ new ∷ []) slots
sat_filled n chairs slots new filled seat small s =
    let held = held_past n (slice_get chairs seat) (filled seat small s) in
    ap (is_past n) (slice_get-append_other chairs new seat (apart seat (length chairs) (slice_get_within chairs seat held.0 held.1))) ∙ filled seat small s
  where
    apart : (k m : ℕ) → k < m → k ≢ m
    apart k m h e = omega arith

-- A seat answers.
own_past : (lines : List (List ℕ)) (n : ℕ) (slots : Four (Option Answer)) (seat : ℕ) (answer : Answer) (chair : Chair) (v : Verdict) → (v ≡ Taken → nat_lt (chair.progress.due + 1) n ≡ false)
    → (is_some (at_seat slots seat) ≡ true → ⊥) → is_some (at_seat (slots_after v slots seat answer) seat) ≡ true → nat_lt (said_chair lines v chair).progress.due n ≡ false
own_past lines n slots seat answer chair Taken t none s = t refl
own_past lines n slots seat answer chair Late t none s = absurd (none s)
own_past lines n slots seat answer chair (Refused rule) t none s = absurd (none s)
own_past lines n slots seat answer chair (Closing rule) t none s = absurd (none s)

said_filled : (rules : Rules) (now : After) (author seat : ℕ) (answer : Answer) (held : Option Chair) → slice_get now.chairs seat ≡ held →
    length now.chairs ≤ 4 → option_map_or (may_say now author) held false ≡ true → AreFilled now
    → AreFilledBy (length now.deeds) (option_map_or (after_said rules now seat answer) held now).chairs (option_map_or (after_said rules now seat answer) held now).slots
unfolding after_said may_say
said_filled rules now author seat answer None e few may filled = cc
said_filled rules now author seat answer (Some chair) e few may filled =
    let v : Verdict = verdict_on rules now.deeds seat answer chair.progress in
    let near : nat_lt chair.progress.due (length now.deeds) ≡ true = (and_parts (is_present_by author chair) (nat_lt chair.progress.due (length now.deeds)) may).1 in
    filled_set (length now.deeds) now.chairs now.slots (slots_after v now.slots seat answer) seat chair (said_chair (lines_for rules seat now.deeds) v chair) e filled
    (λ other small ne. others_slot now.slots seat other answer v (below_four seat (length now.chairs) (slice_get_within now.chairs seat chair e) few) small ne)
    (own_past (lines_for rules seat now.deeds) (length now.deeds) now.slots seat answer chair v
    (taken_at chair.progress.due chair.progress.refused (length now.deeds) (broken_rule rules now.deeds seat answer))
    (λ s. true≢false (sym near ∙ past_at (length now.deeds) now.chairs now.slots seat chair e few filled s)))

-- A seat leaves.
gone_filled : (rules : Rules) (now : After) (seat : ℕ) (held : Option Chair) → slice_get now.chairs seat ≡ held → length now.chairs ≤ 4 → AreFilled now
    → AreFilledBy (length now.deeds) (option_map_or (after_gone rules now seat) held now).chairs (option_map_or (after_gone rules now seat) held now).slots
unfolding after_gone
gone_filled rules now seat None e few filled = filled
gone_filled rules now seat (Some chair) e few filled =
    filled_set (length now.deeds) now.chairs now.slots now.slots seat chair (gone_chair (lines_for rules seat now.deeds) chair) e filled (λ other small ne. refl)
    (past_at (length now.deeds) now.chairs now.slots seat chair e few filled)

-- A seat comes back.
never_less : (n : ℕ) → nat_lt n n ≡ false
never_less n = by (nat_lt n n) refl
  where
    apart : (k : ℕ) → k < k → ⊥
    apart k h = omega arith

    by : (b : Bool) → nat_lt n n ≡ b → nat_lt n n ≡ false
    by true h = absurd (apart n (ltb-true n n h))
    by false h = h

back_filled : (rules : Rules) (now : After) (author seat : ℕ) (held : Option Chair) → slice_get now.chairs seat ≡ held → AreFilled now
    → AreFilledBy (length now.deeds) (option_map_or (after_back rules now author seat) held now).chairs (option_map_or (after_back rules now author seat) held now).slots
unfolding after_back
back_filled rules now author seat None e filled = filled
back_filled rules now author seat (Some chair) e filled =
    filled_set (length now.deeds) now.chairs now.slots now.slots seat chair (back_chair rules now author seat chair) e filled (λ other small ne. refl)
    (λ s. ap (λ (b : Bool). nat_lt (if b then length now.deeds else length now.deeds - 1) (length now.deeds)) s ∙ never_less (length now.deeds))

-- An entry.
pub own_filled : (setting : Setting) (now : After) (entry : Entry Answer) → is_permitted setting now entry ≡ true → AreSeats now.chairs → AreFilled now
    → AreFilledBy (length now.deeds) (own_part setting now entry).chairs (own_part setting now entry).slots
unfolding own_part
own_filled setting now (Sat author name key) p seats filled = sat_filled (length now.deeds) now.chairs now.slots (new_chair now.entered author name key) filled
own_filled setting now (Said author seat answer) p seats filled = said_filled setting.rules now author seat answer (slice_get now.chairs seat) refl
    seats.few (and_parts (is_in_form answer) (can_say now author seat) p).1 filled
own_filled setting now (Back author seat) p seats filled = back_filled setting.rules now author seat (slice_get now.chairs seat) refl filled
own_filled setting now (Gone author seat) p seats filled = gone_filled setting.rules now seat (slice_get now.chairs seat) refl seats.few filled
own_filled setting now (Expired author window t1 t2) p seats filled = filled

none_filled : (n : ℕ) (chairs : List Chair) → AreFilledBy n chairs empty_slots
none_filled n chairs seat small s = absurd (true≢false (sym s ∙ ap is_some (slot-empty seat)))

deed_filled : (now : After) (added : Option Deed) → AreFilled now → AreFilled (with_deed now added)
deed_filled now None filled = filled
deed_filled now (Some deed) filled = none_filled (length (now.deeds ++ deed ∷ [])) now.chairs

pub nothing_filled : AreFilled before_all
nothing_filled = none_filled 0 []

pub step_filled : (setting : Setting) (now : After) (entry : Entry Answer) → is_permitted setting now entry ≡ true → AreSeats now.chairs → AreFilled now → AreFilled (step setting now entry)
unfolding step
step_filled setting now entry p seats filled =
    let own : After = own_part setting now entry in
    deed_filled own (next_deed setting own entry)
    (subst (λ (ds : List Deed). AreFilledBy (length ds) own.chairs own.slots) (sym (own_deeds setting now entry)) (own_filled setting now entry p seats filled))

-- A whole game.
game_filled : (setting : Setting) (now : After) (entries : List (Entry Answer)) → all_permitted setting now entries ≡ true → AreSeats now.chairs →
    AreFilled now → AreFilled (after_from setting now entries)
game_filled setting now [] p seats filled = filled
game_filled setting now (entry ∷ entries) p seats filled =
    let parts = and_parts (is_permitted setting now entry) (all_permitted setting (step setting now entry) entries) p in
    game_filled setting (step setting now entry) entries parts.1 (step_seats setting now entry parts.0 seats) (step_filled setting now entry parts.0 seats filled)

pub legal_filled : (setting : Setting) (entries : List (Entry Answer)) → IsLegal setting entries → AreFilled (after setting entries)
legal_filled setting entries legal = game_filled setting before_all entries legal.permitted no_seats nothing_filled

-- A present seat whose slot is empty keeps its window open.
waits : (p s : Bool) → p ≡ true → s ≡ false → (p && not s) ≡ true
waits true false e f = refl
waits true true e f = cc
waits false s e f = cc

shut : (some : Bool) (a b c d : Bool) → (a || b || c || d) ≡ true → (some && not (a || b || c || d)) ≡ false
shut true a b c d h = ap not h
shut false a b c d h = refl

or_first : (a b c d : Bool) → a ≡ true → (a || b || c || d) ≡ true
or_first true b c d h = refl
or_first false b c d h = cc

or_second : (a b c d : Bool) → b ≡ true → (a || b || c || d) ≡ true
or_second true b c d h = refl
or_second false true c d h = refl
or_second false false c d h = cc

or_third : (a b c d : Bool) → c ≡ true → (a || b || c || d) ≡ true
or_third true b c d h = refl
or_third false true c d h = refl
or_third false false true d h = refl
or_third false false false d h = cc

or_fourth : (a b c d : Bool) → d ≡ true → (a || b || c || d) ≡ true
or_fourth true b c d h = refl
or_fourth false true c d h = refl
or_fourth false false true d h = refl
or_fourth false false false d h = h

keeps_open : (slots : Four (Option Answer)) (presence : List Bool) (seat : ℕ) → slice_get presence seat ≡ Some true → is_some (at_seat slots seat) ≡ false → closes slots presence ≡ false
keeps_open slots [] seat e s = refl
keeps_open slots (a ∷ []) seat e s = refl
keeps_open slots (a ∷ b ∷ []) seat e s = refl
keeps_open slots (a ∷ b ∷ c ∷ []) seat e s = refl
keeps_open slots (a ∷ b ∷ c ∷ d ∷ []) zero e s =
    shut (a || b || c || d) (is_waited_for a slots.first) (is_waited_for b slots.second) (is_waited_for c slots.third) (is_waited_for d slots.fourth)
    (or_first (is_waited_for a slots.first) (is_waited_for b slots.second) (is_waited_for c slots.third) (is_waited_for d slots.fourth) (waits a (is_some slots.first) (same_Some a true e) s))
keeps_open slots (a ∷ b ∷ c ∷ d ∷ []) (suc zero) e s =
    shut (a || b || c || d) (is_waited_for a slots.first) (is_waited_for b slots.second) (is_waited_for c slots.third) (is_waited_for d slots.fourth)
    (or_second (is_waited_for a slots.first) (is_waited_for b slots.second) (is_waited_for c slots.third) (is_waited_for d slots.fourth) (waits b (is_some slots.second) (same_Some b true e) s))
keeps_open slots (a ∷ b ∷ c ∷ d ∷ []) (suc (suc zero)) e s =
    shut (a || b || c || d) (is_waited_for a slots.first) (is_waited_for b slots.second) (is_waited_for c slots.third) (is_waited_for d slots.fourth)
    (or_third (is_waited_for a slots.first) (is_waited_for b slots.second) (is_waited_for c slots.third) (is_waited_for d slots.fourth) (waits c (is_some slots.third) (same_Some c true e) s))
keeps_open slots (a ∷ b ∷ c ∷ d ∷ []) (suc (suc (suc zero))) e s =
    shut (a || b || c || d) (is_waited_for a slots.first) (is_waited_for b slots.second) (is_waited_for c slots.third) (is_waited_for d slots.fourth)
    (or_fourth (is_waited_for a slots.first) (is_waited_for b slots.second) (is_waited_for c slots.third) (is_waited_for d slots.fourth) (waits d (is_some slots.fourth) (same_Some d true e) s))
keeps_open slots (a ∷ b ∷ c ∷ d ∷ []) (suc (suc (suc (suc seat)))) e s = cc
keeps_open slots (a ∷ b ∷ c ∷ d ∷ f ∷ more) seat e s = refl

may_answer : (now : After) (author seat : ℕ) (held : Option Chair) → option_map_or (may_say now author) held false ≡ true →
    (option_map is_present held ≡ Some true) × (is_past (length now.deeds) held ≡ false)
unfolding may_say
may_answer now author seat None h = cc
may_answer now author seat (Some chair) h =
    let parts = and_parts (is_present_by author chair) (nat_lt chair.progress.due (length now.deeds)) h in
    (ap (λ (b : Bool). Some b) (present_is author chair parts.0), ap not parts.1)

not_some : (b : Bool) → (b ≡ true → ⊥) → b ≡ false
not_some true h = absurd (h refl)
not_some false h = refl

pub not_closed : (now : After) (author seat : ℕ) → AreSeats now.chairs → AreFilled now → can_say now author seat ≡ true → closes now.slots (map is_present now.chairs) ≡ false
not_closed now author seat seats filled may =
    let held = held_here (slice_get now.chairs seat) (may_say now author) may in
    let k = may_answer now author seat (slice_get now.chairs seat) may in
    let small : seat < 4 = below_four seat (length now.chairs) (slice_get_within now.chairs seat held.0 held.1) seats.few in
    keeps_open now.slots (map is_present now.chairs) seat (slice_get-map is_present now.chairs seat ∙ k.0)
    (not_some (is_some (at_seat now.slots seat)) (λ s. true≢false (sym (filled seat small s) ∙ k.1)))
