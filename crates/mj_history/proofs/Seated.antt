-- The laws by which a game is one that workers play by entries.
use Rattle.std.proofs.Common.{◌≡◌, ℕ, ◌<◌, ◌≤◌, ◌==◌, ◌&&◌, inl, inr, List, [], ◌∷◌, ◌++◌, length, Bool, true, false, true≢false, refl, ap, ◌∙◌, sym, subst, arith, append-nil}
use Rattle.std.specs.Prelude.{if◌then◌else◌, Option, Some, None, is_some, slice_get, slice_set, nat_lt}
use Rattle.std.specs.Option.{option_map_or}
use Rattle.std.proofs.lemmas.Bool.{and_parts, and_from}
use Rattle.std.proofs.lemmas.Bool.Decides.{eqb_tells}
use Rattle.std.proofs.lemmas.List.{length-append}
use Rattle.mj_ports.specs.declared.entry.Entry.{Entry}
use Rattle.mj_ports.specs.declared.entry.Entry.TheVariants.{Sat, Back, Said, Gone, Expired}
use Rattle.mj_ports.specs.declared.sitting.JoinLine.{JoinLine}
use Rattle.mj_ports.specs.declared.sitting.SitRefused.TheVariants.{Over}
use Rattle.mj_ports.specs.SeatCalls.{IsRefused}
use Rattle.mj_seating.specs.declared.desk.Placed.{Placed}
use Rattle.mj_seating.specs.declared.desk.Placed.TheVariants as places
use Rattle.mj_ports.specs.Seats.{Showing, Stays, StaysEnded}
use Rattle.mj_deeds.specs.declared.answer.Answer.{Answer}
use Rattle.mj_deeds.specs.declared.deed.Deed.{Deed}
use Rattle.mj_wall.specs.declared.setting.Rules.{Rules}
use Rattle.mj_wall.specs.declared.setting.Setting.{Setting}
use Rattle.mj_history.specs.After.{After, Chair, is_present, after_said, after_gone, after_back, new_chair, own_part, next_deed, step, after, before_all}
use Rattle.mj_history.specs.Legal.{IsLegal, is_over, is_present_by, may_say, is_permitted, all_permitted, has_ground}
use Rattle.mj_history.specs.Shown.{shown, shown_of, line_at, seat_at, told_at, sit_answer}
use Rattle.mj_forms.specs.AnswerForms.{join_of}
use Rattle.mj_history.specs.Sitting.{placing}
use Rattle.mj_history.specs.Seated.{BeginningsAreLegal, LinesStay, EndedConnectionsStay, SeatsAreClosed}
use Rattle.mj_history.proofs.Entries.{after-append, all_permitted-append}
use Rattle.mj_history.proofs.Fitting.{own_deeds}
use Rattle.mj_history.proofs.Connections.{not-connected, nobody-set, nobody-append, told-set, told-append, told-elsewhere, told-again-elsewhere}
use Rattle.mj_history.proofs.Ended.{no_more}
use Rattle.mj_history.proofs.LinesGrow.{line_kept}
use Rattle.mj_history.proofs.Entered.{step-chairs, step-deeds, listed, entered-is, back_chair}

-- A law of one step, at entries of which the last is the step.
pub stepped : (P : Showing → Type 0) (setting : Setting) (entries : List (Entry Answer)) (entry : Entry Answer) →
    P (shown setting.rules (step setting (after setting entries) entry)) → P (shown_of setting (entries ++ entry ∷ []))
stepped P setting entries entry p = subst (λ (now : After). P (shown setting.rules now)) (sym (after-append setting entries entry)) p

-- Beginnings.
ground_before : (walls : List (List ℕ)) (entries more : List (Entry Answer)) → has_ground walls (entries ++ more) ≡ true → has_ground walls entries ≡ true
ground_before walls [] more h = refl
ground_before walls (entry ∷ entries) more h = h

permitted_before : (setting : Setting) (now : After) (entries more : List (Entry Answer)) → all_permitted setting now (entries ++ more) ≡ true → all_permitted setting now entries ≡ true
permitted_before setting now [] more h = refl
permitted_before setting now (entry ∷ entries) more h =
    let parts = and_parts (is_permitted setting now entry) (all_permitted setting (step setting now entry) (entries ++ more)) h in
    and_from (is_permitted setting now entry) _ parts.0 (permitted_before setting (step setting now entry) entries more parts.1)

pub beginnings_are_legal : BeginningsAreLegal
beginnings_are_legal setting entries more l = record {
  few = l.few;
  whole = l.whole;
  ground = ground_before setting.walls entries more l.ground;
  permitted = permitted_before setting before_all entries more l.permitted;
}

pub last_permitted : (setting : Setting) (entries : List (Entry Answer)) (entry : Entry Answer) → IsLegal setting (entries ++ entry ∷ []) → is_permitted setting (after setting entries) entry ≡ true
last_permitted setting entries entry l =
    (and_parts (all_permitted setting before_all entries) (is_permitted setting (after setting entries) entry) (sym (all_permitted-append setting before_all entries entry) ∙ l.permitted)).1

-- Lines stay, and the end of the game.
more_deeds : (deeds more : List Deed) → length deeds ≤ length (deeds ++ more)
more_deeds deeds more = omega (arith, length-append deeds more)

over_deeds : (setting : Setting) (now : After) (entry : Entry Answer) → is_over now.deeds ≡ true → (step setting now entry).deeds ≡ now.deeds
over_deeds setting now entry h =
    step-deeds setting now entry
    ∙ ap (λ (o : Option Deed). now.deeds ++ listed o) (no_more setting (own_part setting now entry) entry (ap is_over (own_deeds setting now entry) ∙ h))
    ∙ append-nil now.deeds

pub stays_step : (setting : Setting) (now : After) (entry : Entry Answer) → Stays (shown setting.rules now) (shown setting.rules (step setting now entry))
stays_step setting now entry =
    let more : List Deed = listed (next_deed setting (own_part setting now entry) entry) in
    record {
      deeds = subst (λ (ds : List Deed). length now.deeds ≤ length ds) (sym (step-deeds setting now entry)) (more_deeds now.deeds more);
      text = λ seat k h. ap (λ (ds : List Deed). line_at setting.rules ds seat k) (step-deeds setting now entry)
          ∙ line_kept setting.rules seat k now.deeds more h;
      over = λ h. ap is_over (over_deeds setting now entry h) ∙ h;
      no_deed = λ h. ap (λ (ds : List Deed). length ds) (over_deeds setting now entry h);
    }

pub lines_stay : LinesStay
lines_stay setting entries entry l = stepped (Stays (shown_of setting entries)) setting entries entry (stays_step setting (after setting entries) entry)

-- A connection that has ended.
record EndsAt (place : ℕ) (chairs others : List Chair) : Type 0 where
  no_seat : seat_at others place ≡ None
  told : told_at others place ≡ told_at chairs place

not_at : (place n : ℕ) → place < n → (n == place) ≡ false
not_at place n h = elim (eqb_tells n place) [ inl s ↦ absurd (apart place n h s.1) | inr s ↦ s.0 ]
  where
    apart : (p n : ℕ) → p < n → n ≡ p → ⊥
    apart p n h e = omega arith

off_place : (a b : Bool) → a ≡ true → (a && b) ≡ false → b ≡ false
off_place true b e h = h
off_place false b e h = cc

pub on_off : (a b : Bool) → b ≡ false → (a && b) ≡ false
on_off true b e = e
on_off false b e = refl

-- A present seat changes, which keeps its connection.
kept_ended : (place : ℕ) (chairs : List Chair) (seat : ℕ) (old new : Chair) → seat_at chairs place ≡ None → slice_get chairs seat ≡ Some old →
    is_present old ≡ true → new.place ≡ old.place → new.earlier ≡ old.earlier → EndsAt place chairs (slice_set chairs seat new)
kept_ended place chairs seat old new n e here at early =
    let off : (old.place == place) ≡ false = off_place (is_present old) (old.place == place) here (not-connected place chairs seat old n e) in
    record {
      no_seat = nobody-set place chairs seat old new n e (on_off (is_present new) (new.place == place) (ap (λ (p : ℕ). p == place) at ∙ off));
      told = told-set place chairs seat old new e (told-elsewhere place old new early at off);
    }

pub present_is : (author : ℕ) (chair : Chair) → is_present_by author chair ≡ true → is_present chair ≡ true
present_is author chair h = by chair.author h
  where
    by : (o : Option ℕ) → option_map_or (λ (one : ℕ). one == author) o false ≡ true → is_some o ≡ true
    by None k = cc
    by (Some one) k = refl

pub said_present : (now : After) (author : ℕ) (chair : Chair) → may_say now author chair ≡ true → is_present_by author chair ≡ true
unfolding may_say
said_present now author chair h = (and_parts (is_present_by author chair) (nat_lt chair.progress.due (length now.deeds)) h).0

said_ended : (rules : Rules) (now : After) (author seat place : ℕ) (answer : Answer) (held : Option Chair) → slice_get now.chairs seat ≡ held →
    option_map_or (may_say now author) held false ≡ true → seat_at now.chairs place ≡ None
    → EndsAt place now.chairs (option_map_or (after_said rules now seat answer) held now).chairs
unfolding after_said
said_ended rules now author seat place answer None e p n = cc
said_ended rules now author seat place answer (Some chair) e p n = kept_ended place now.chairs seat chair _ n e (present_is author chair (said_present now author chair p)) refl refl

gone_ended : (rules : Rules) (now : After) (author seat place : ℕ) (held : Option Chair) → slice_get now.chairs seat ≡ held →
    option_map_or (is_present_by author) held false ≡ true → seat_at now.chairs place ≡ None
    → EndsAt place now.chairs (option_map_or (after_gone rules now seat) held now).chairs
unfolding after_gone
gone_ended rules now author seat place None e p n = cc
gone_ended rules now author seat place (Some chair) e p n = kept_ended place now.chairs seat chair _ n e (present_is author chair p) refl refl

back_ended : (rules : Rules) (now : After) (author seat place : ℕ) (held : Option Chair) → slice_get now.chairs seat ≡ held → place < now.entered → seat_at now.chairs place ≡ None
    → EndsAt place now.chairs (option_map_or (after_back rules now author seat) held now).chairs
unfolding after_back
back_ended rules now author seat place None e near n = record { no_seat = n; told = refl }
back_ended rules now author seat place (Some chair) e near n = record {
  no_seat = nobody-set place now.chairs seat chair _ n e (on_off true (now.entered == place) (not_at place now.entered near));
  told = told-set place now.chairs seat chair _ e (told-again-elsewhere place chair (back_chair rules now author seat chair) refl (not_at place now.entered near));
}

untold_new : (place n : ℕ) (told : List ℕ) → place < n → ([] ++ (if n == place then told else [])) ≡ []
untold_new place n told near = ap (λ (b : Bool). [] ++ (if b then told else [])) (not_at place n near)

own_ended : (setting : Setting) (now : After) (entry : Entry Answer) (place : ℕ) → is_permitted setting now entry ≡ true → place < now.entered →
    seat_at now.chairs place ≡ None → EndsAt place now.chairs (own_part setting now entry).chairs
unfolding own_part
own_ended setting now (Sat author name key) place p near n = record {
  no_seat = nobody-append place now.chairs (new_chair now.entered author name key) n (on_off true (now.entered == place) (not_at place now.entered near));
  told = told-append place now.chairs (new_chair now.entered author name key) (untold_new place now.entered _ near);
}
own_ended setting now (Said author seat answer) place p near n = said_ended setting.rules now author seat place answer (slice_get now.chairs seat) refl (and_parts _ _ p).1 n
own_ended setting now (Back author seat) place p near n = back_ended setting.rules now author seat place (slice_get now.chairs seat) refl near n
own_ended setting now (Gone author seat) place p near n = gone_ended setting.rules now author seat place (slice_get now.chairs seat) refl p n
own_ended setting now (Expired author window t1 t2) place p near n = record { no_seat = n; told = refl }

ended_step : (setting : Setting) (now : After) (entry : Entry Answer) (place : ℕ) → is_permitted setting now entry ≡ true → place < now.entered →
    seat_at now.chairs place ≡ None → StaysEnded place (shown setting.rules now) (shown setting.rules (step setting now entry))
ended_step setting now entry place p near n =
    let own : EndsAt place now.chairs (own_part setting now entry).chairs = own_ended setting now entry place p near n in
    let changed : EndsAt place now.chairs (step setting now entry).chairs = subst (λ (cs : List Chair). EndsAt place now.chairs cs) (sym (step-chairs setting now entry)) own in
    record { no_seat = changed.no_seat; told = changed.told }

pub ended_connections_stay : EndedConnectionsStay
ended_connections_stay setting entries entry place l near n =
    stepped (StaysEnded place (shown_of setting entries)) setting entries entry
    (ended_step setting (after setting entries) entry place (last_permitted setting entries entry l) (subst (λ (m : ℕ). place < m) (sym (entered-is setting entries)) near) n)

-- The end closes the seats.
refused_if : (b : Bool) (place : Placed) → b ≡ true → IsRefused (sit_answer (if b then places.Refused Over else place))
refused_if true place over = tt
refused_if false place over = absurd (true≢false (sym over))

refused_at : (now : After) (join : Option JoinLine) → is_over now.deeds ≡ true → IsRefused (sit_answer (placing now join))
unfolding placing
refused_at now None over = tt
refused_at now (Some join) over = refused_if (is_over now.deeds) _ over

pub seats_are_closed : SeatsAreClosed
seats_are_closed setting entries text over = refused_at (after setting entries) (join_of text) over
