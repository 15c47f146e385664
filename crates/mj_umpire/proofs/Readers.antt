-- What the readers of an umpire return.
use Rattle.std.proofs.Common.{◌≡◌, ℕ, ◌-◌, ◌≤◌, ◌==◌, ◌&&◌, not, inl, inr, List, [], ◌++◌, length, Bool, true, false, refl, ap, ◌∙◌, sym, subst, arith, append-nil}
use Rattle.std.specs.Prelude.{if◌then◌else◌, Option, Some, None, is_some, option_map, slice_get, nat_lt, Result, OnOk}
use Rattle.std.specs.Option.{option_eq}
use Rattle.std.proofs.lemmas.Bool.{eq-eqb}
use Rattle.std.proofs.lemmas.Bool.Decides.{eqb_tells}
use Rattle.std.proofs.lemmas.Option.{same_Some}
use Rattle.std.specs.declared.alloc.AllocError.{AllocError}
use Rattle.mj_bytes.specs.Adds.{Adds}
use Rattle.mj_ports.specs.declared.entry.Entry.{Entry}
use Rattle.mj_ports.specs.declared.sitting.SitRefused.TheVariants.{BadName}
use Rattle.mj_seating.specs.declared.desk.Placed.TheVariants as places
use Rattle.mj_history.specs.Sitting.{placing}
use Rattle.mj_forms.specs.AnswerForms.{join_of}
use Rattle.mj_deeds.specs.declared.deed.Deed.{Deed}
use Rattle.mj_deeds.specs.declared.answer.Answer.{Answer}
use Rattle.mj_wall.specs.declared.setting.Setting.{Setting}
use Rattle.mj_history.specs.After.{After, after}
use Rattle.mj_history.specs.Legal.{Game, is_over, is_open, can_say}
use Rattle.mj_umpire.specs.Calls.{after_of, open_window, may_say_at, pending_at, author_of_seat}
use Rattle.mj_umpire.specs.Inner.States.{Position, now_of, player_in}
use Rattle.mj_umpire.specs.Inner.Kept.{IsKept}
use Rattle.mj_umpire.specs.declared.chair.Chair.{Chair as Player}
use Rattle.mj_umpire.proofs.Games.{bad-name, is_the_open, stale, game, kept-deeds, reads-some, reads-none, asked-can, pending-stale}

-- The open window of so few deeds has a small number.
pub window-few : (deeds : List Deed) (window : ℕ) → Some window ≡ open_window deeds → length deeds ≤ 60002 → window ≤ 60002
window-few deeds window e few = by (length deeds == 0) (is_over deeds) e
  where
    less : (n w : ℕ) → n - 1 ≡ w → n ≤ 60002 → w ≤ 60002
    less n w e h = omega arith

    by : (none over : Bool) → Some window ≡ (if not none && not over then Some (length deeds - 1) else None) → window ≤ 60002
    by true over e = cc
    by false true e = cc
    by false false e = less (length deeds) window (sym (same_Some window (length deeds - 1) e)) few

-- Whether a seat may say something.
pub asked-here : (setting : Setting) (entries : List (Entry Answer)) (state : Position) (seat : ℕ) (held : Player) (due count : ℕ) →
    IsKept setting entries state → Some held ≡ option_map player_in (slice_get (now_of state).chairs seat)
    → is_some held.author ≡ true → due ≡ held.due → count ≡ length state.deeds → nat_lt due count ≡ may_say_at (game setting entries) seat
asked-here setting entries state seat held due count k e a d l =
    (λ i. nat_lt (d i) (l i)) ∙ ap (λ (ds : List Deed). nat_lt held.due (length ds)) (kept-deeds setting entries state k)
    ∙ ap (λ (b : Bool). b && nat_lt held.due (length (after setting entries).deeds)) (sym a)
    ∙ reads-some (λ (p : Player). is_some p.author && nat_lt p.due (length (after setting entries).deeds)) false setting entries state seat held k e

pub asked-away : (setting : Setting) (entries : List (Entry Answer)) (state : Position) (seat : ℕ) (held : Player) → IsKept setting entries state →
    Some held ≡ option_map player_in (slice_get (now_of state).chairs seat)
    → is_some held.author ≡ false → false ≡ may_say_at (game setting entries) seat
asked-away setting entries state seat held k e a =
    ap (λ (b : Bool). b && nat_lt held.due (length (after setting entries).deeds)) (sym a)
    ∙ reads-some (λ (p : Player). is_some p.author && nat_lt p.due (length (after setting entries).deeds)) false setting entries state seat held k e

pub asked-none : (setting : Setting) (entries : List (Entry Answer)) (state : Position) (seat : ℕ) → IsKept setting entries state → None ≡ option_map player_in (slice_get (now_of state).chairs seat)
    → false ≡ may_say_at (game setting entries) seat
asked-none setting entries state seat k e = reads-none (λ (p : Player). is_some p.author && nat_lt p.due (length (after setting entries).deeds)) false setting entries state seat k e

pub asked-may : (g : Game) (seat : ℕ) (b : Bool) → b ≡ may_say_at g seat → b ≡ true → (author : ℕ) → author_of_seat g seat ≡ Some author → can_say (after_of g) author seat ≡ true
asked-may g seat b e t author a = asked-can g author seat (sym e ∙ t) a

-- Nothing is written where nothing is pending.
pub adds-none : (old piece : List ℕ) → piece ≡ [] → Adds old old piece
adds-none old piece e = record { is = sym (append-nil old) ∙ ap (λ (l : List ℕ). old ++ l) (sym e) }

pub pending-away : (setting : Setting) (entries : List (Entry Answer)) (state : Position) (seat : ℕ) (held : Player) → IsKept setting entries state →
    Some held ≡ option_map player_in (slice_get (now_of state).chairs seat)
    → is_some held.author ≡ false → pending_at (game setting entries) seat ≡ []
pending-away setting entries state seat held k e a = pending-stale setting entries state seat held k e (ap (λ (b : Bool). b && held.refused == 0) a)

pub pending-told : (setting : Setting) (entries : List (Entry Answer)) (state : Position) (seat : ℕ) (held : Player) → IsKept setting entries state →
    Some held ≡ option_map player_in (slice_get (now_of state).chairs seat)
    → (held.refused == 0) ≡ false → pending_at (game setting entries) seat ≡ []
pending-told setting entries state seat held k e r = pending-stale setting entries state seat held k e (off (is_some held.author) (held.refused == 0) r)
  where
    off : (a b : Bool) → b ≡ false → (a && b) ≡ false
    off true b h = h
    off false b h = refl

-- A line that is no join gets no seat.
pub no-join : (now : After) (text : List ℕ) → None ≡ join_of text → placing now (join_of text) ≡ places.Refused BadName
no-join now text e = ap (placing now) (sym e) ∙ bad-name now

-- The window that is asked for is the open one.
same-window : (o : Option ℕ) (window : ℕ) → false ≡ not (option_eq (λ (a b : ℕ). a == b) o (Some window)) → o ≡ Some window
same-window None window e = cc
same-window (Some number) window e = elim (eqb_tells number window) [ inl p ↦ ap (λ (n : ℕ). Some n) p.1 | inr p ↦ other (number == window) p.0 e ]
  where
    other : (b : Bool) → b ≡ false → false ≡ not b → Some number ≡ Some window
    other true f g = cc
    other false f g = cc

pub opened : (o : Option ℕ) (deeds : List Deed) (window : ℕ) → false ≡ not (option_eq (λ (a b : ℕ). a == b) o (Some window)) → o ≡ open_window deeds → is_open deeds window ≡ true
opened o deeds window e f = is_the_open deeds window (sym f ∙ same-window o window e)

pub unopened : (o : Option ℕ) (deeds : List Deed) (window : ℕ) → true ≡ not (option_eq (λ (a b : ℕ). a == b) o (Some window)) → o ≡ open_window deeds → is_open deeds window ≡ false
unopened o deeds window e f = stale deeds window (λ same. other o e (f ∙ same))
  where
    differ : (b : Bool) → b ≡ true → true ≡ not b → ⊥
    differ true f g = cc
    differ false f g = cc

    other : (o : Option ℕ) → true ≡ not (option_eq (λ (a b : ℕ). a == b) o (Some window)) → o ≡ Some window → ⊥
    other None e h = cc
    other (Some number) e h = differ (number == window) (eq-eqb number window (same_Some number window h)) e

-- What was written is the piece, by another name of it.
pub adds-same : (result : Result (Unit {0}) AllocError) (old new piece other : List ℕ) → piece ≡ other → OnOk result (Adds old new other) → OnOk result (Adds old new piece)
adds-same result old new piece other e h = subst (λ (p : List ℕ). OnOk result (Adds old new p)) (sym e) h
