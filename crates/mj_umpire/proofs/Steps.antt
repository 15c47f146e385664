-- What a state does is what the entries come to.
use Rattle.std.proofs.Common.{◌≡◌, ℕ, ◌+◌, ◌-◌, ◌==◌, ◌&&◌, ◌||◌, not, List, [], ◌∷◌, ◌++◌, length, map, Bool, true, false, refl, ap, ◌∙◌, sym}
use Rattle.std.specs.Prelude.{if◌then◌else◌, Option, Some, None, is_some, slice_get, slice_set}
use Rattle.std.specs.Option.{option_map_or}
use Rattle.std.proofs.lemmas.List.{map-append, map-set}
use Rattle.mj_ports.specs.declared.entry.Entry.{Entry}
use Rattle.mj_ports.specs.declared.entry.Entry.TheVariants.{Sat, Back, Said, Gone}
use Rattle.mj_ports.specs.declared.sitting.JoinLine.{JoinLine}
use Rattle.mj_seating.specs.Sitting.{Occupant, changed_at, new_held, came_back, gone}
use Rattle.mj_deeds.specs.declared.four.Four.{Four}
use Rattle.mj_deeds.specs.declared.deed.Deed.{Deed}
use Rattle.mj_deeds.specs.declared.deed.Deed.TheVariants.{StartGame}
use Rattle.mj_deeds.specs.declared.answer.Answer.{Answer}
use Rattle.mj_deeds.specs.Facts.{newest}
use Rattle.mj_wall.specs.declared.setting.Rules.{Rules}
use Rattle.mj_wall.specs.declared.setting.Setting.{Setting}
use Rattle.mj_window.specs.Slots.{closes}
use Rattle.mj_rules.specs.Outcome.{outcome, goes_on}
use Rattle.mj_history.specs.After.{After, Chair, Verdict, Taken, Late, Refused, Closing, verdict_on, progress_after, author_after, slots_after, lines_for, after_said}
use Rattle.mj_history.specs.After.{after_gone, after_back, due_on_return, new_chair, own_part, names_of, answers_in, is_present, is_expiry, next_deed, with_deed}
use Rattle.mj_umpire.specs.Calls.{open_window}
use Rattle.mj_umpire.specs.Inner.Untold.{untold_chair, untold}
use Rattle.mj_umpire.specs.Inner.States.{Position, chair_of, chairs_of, progress_of, player_of, now_of, Steps, changed, desk_after, with_next}
use Rattle.mj_umpire.specs.declared.chair.Chair.{Chair as Player}
use Rattle.mj_umpire.proofs.Same.{pieces, moved-same, step-is}
use Rattle.mj_umpire.proofs.Seats.{chairs_of-get, chairs_of-set, chairs_of-append, changed-is, held_after, desk_after-is}

-- A state that has changed as its seat's part of an entry does, and then has the next deed, has made the step.
with_next-now : (p : Position) (deed : Option Deed) → now_of (with_next p deed) ≡ with_deed (now_of p) deed
with_next-now p None = refl
with_next-now p (Some deed) = refl

with_next-rules : (p : Position) (deed : Option Deed) → (with_next p deed).rules ≡ p.rules
with_next-rules p None = refl
with_next-rules p (Some deed) = refl

pub makes-step : (setting : Setting) (old middle new : Position) (entry : Entry Answer) → middle.rules ≡ old.rules → untold (now_of middle) ≡ untold (own_part setting (now_of old) entry)
    → new ≡ with_next middle (next_deed setting (now_of middle) entry) → Steps setting old new entry
makes-step setting old middle new entry r own e = record {
  rules = ap (λ (p : Position). p.rules) e ∙ with_next-rules middle (next_deed setting (now_of middle) entry) ∙ r;
  stepped =
      ap (λ (p : Position). untold (now_of p)) e ∙ ap untold (with_next-now middle (next_deed setting (now_of middle) entry))
      ∙ moved-same setting (now_of middle) (own_part setting (now_of old) entry) entry own ∙ sym (step-is setting (now_of old) entry);
}

-- Seats put together as the entry changes them.
untold-set : (chairs : List Chair) (seat : ℕ) (chair other : Chair) → untold_chair chair ≡ untold_chair other →
    map untold_chair (slice_set chairs seat chair) ≡ map untold_chair (slice_set chairs seat other)
untold-set chairs seat chair other e =
    map-set untold_chair chairs seat chair ∙ ap (λ (c : Chair). slice_set (map untold_chair chairs) seat c) e ∙ sym (map-set untold_chair chairs seat other)

put-untold : (desk after_desk : List Occupant) (players : List Player) (seat : ℕ) (h : Occupant) (p : Player) (other : Chair) →
    after_desk ≡ slice_set desk seat h → untold_chair (chair_of h p) ≡ untold_chair other
    → map untold_chair (chairs_of after_desk (slice_set players seat p)) ≡ map untold_chair (slice_set (chairs_of desk players) seat other)
put-untold desk after_desk players seat h p other d e =
    ap (λ (ds : List Occupant). map untold_chair (chairs_of ds (slice_set players seat p))) d
    ∙ ap (map untold_chair) (chairs_of-set desk players seat h p)
    ∙ untold-set (chairs_of desk players) seat (chair_of h p) other e

-- A seat says something.
said-chair : (lines : List (List ℕ)) (v : Verdict) (h : Occupant) (p : Player) →
    untold_chair (chair_of (held_after v h) (player_of (author_after v p.author) (progress_after lines v (progress_of p))))
    ≡ untold_chair (record (chair_of h p) { author = author_after v p.author; progress = progress_after lines v (progress_of p) })
said-chair lines Taken h p = refl
said-chair lines Late h p = refl
said-chair lines (Refused rule) h p = refl
said-chair lines (Closing rule) h p = refl

said-at : (setting : Setting) (now : After) (author seat : ℕ) (answer : Answer) (chair : Chair) → slice_get now.chairs seat ≡ Some chair →
    own_part setting now (Said author seat answer) ≡ after_said setting.rules now seat answer chair
unfolding own_part
said-at setting now author seat answer chair e = ap (λ (o : Option Chair). option_map_or (after_said setting.rules now seat answer) o now) e

said-is : (rules : Rules) (now : After) (seat : ℕ) (answer : Answer) (chair : Chair) (v : Verdict) → v ≡ verdict_on rules now.deeds seat answer chair.progress
    → untold (after_said rules now seat answer chair) ≡ pieces now.deeds
    (map untold_chair (slice_set now.chairs seat (record chair { author = author_after v chair.author; progress = progress_after (lines_for rules seat now.deeds) v chair.progress })))
    (slots_after v now.slots seat answer)
unfolding after_said
said-is rules now seat answer chair v e =
    ap (λ (w : Verdict). pieces now.deeds
    (map untold_chair (slice_set now.chairs seat (record chair { author = author_after w chair.author; progress = progress_after (lines_for rules seat now.deeds) w chair.progress })))
    (slots_after w now.slots seat answer)) (sym e)

pub said-own : (setting : Setting) (old : Position) (author seat : ℕ) (answer : Answer) (h : Occupant) (p next : Player) (v : Verdict) (slots : Four (Option Answer))
    → slice_get old.desk seat ≡ Some h → slice_get old.players seat ≡ Some p → v ≡ verdict_on setting.rules old.deeds seat answer (progress_of p)
    → ((lines : List (List ℕ)) → next ≡ player_of (author_after v p.author) (progress_after lines v (progress_of p))) → slots ≡ slots_after v old.slots seat answer
    → untold (now_of (changed old (desk_after v old.desk seat) (slice_set old.players seat next) slots)) ≡ untold (own_part setting (now_of old) (Said author seat answer))
said-own setting old author seat answer h p next v slots d c judged on filled =
    let lines : List (List ℕ) = lines_for setting.rules seat old.deeds in
    let came : Chair = record (chair_of h p) { author = author_after v p.author; progress = progress_after lines v (progress_of p) } in
    let same : untold_chair (chair_of (held_after v h) next) ≡ untold_chair came = ap (λ (q : Player). untold_chair (chair_of (held_after v h) q)) (on lines) ∙ said-chair lines v h p in
    ap (λ (cs : List Chair). pieces old.deeds cs slots) (put-untold old.desk (desk_after v old.desk seat) old.players seat (held_after v h) next came (desk_after-is v old.desk seat h d) same)
    ∙ ap (pieces old.deeds (map untold_chair (slice_set (chairs_of old.desk old.players) seat came))) filled
    ∙ sym (said-is setting.rules (now_of old) seat answer (chair_of h p) v judged)
    ∙ ap untold (sym (said-at setting (now_of old) author seat answer (chair_of h p) (chairs_of-get old.desk old.players seat h p d c)))

-- A seat leaves.
gone-at : (setting : Setting) (now : After) (author seat : ℕ) (chair : Chair) → slice_get now.chairs seat ≡ Some chair →
    own_part setting now (Gone author seat) ≡ after_gone setting.rules now seat chair
unfolding own_part
gone-at setting now author seat chair e = ap (λ (o : Option Chair). option_map_or (after_gone setting.rules now seat) o now) e

gone-is : (rules : Rules) (now : After) (seat : ℕ) (chair : Chair) → untold (after_gone rules now seat chair) ≡ pieces now.deeds
    (map untold_chair (slice_set now.chairs seat (untold_chair (record chair { author = None })))) now.slots
unfolding after_gone
gone-is rules now seat chair = ap (λ (cs : List Chair). pieces now.deeds cs now.slots) (untold-set now.chairs seat _ _ refl)

pub gone-own : (setting : Setting) (old : Position) (author seat : ℕ) (h : Occupant) (p : Player) → slice_get old.desk seat ≡ Some h → slice_get old.players seat ≡ Some p
    → untold (now_of (changed old (changed_at old.desk seat gone) (slice_set old.players seat (record { author = None; due = p.due; refused = p.refused })) old.slots))
    ≡ untold (own_part setting (now_of old) (Gone author seat))
gone-own setting old author seat h p d c =
    let left : Player = record { author = None; due = p.due; refused = p.refused } in
    ap (λ (cs : List Chair). pieces old.deeds cs old.slots)
    (put-untold old.desk (changed_at old.desk seat gone) old.players seat (gone h) left (untold_chair (record (chair_of h p) { author = None })) (changed-is old.desk seat gone h d) refl)
    ∙ sym (gone-is setting.rules (now_of old) seat (chair_of h p))
    ∙ ap untold (sym (gone-at setting (now_of old) author seat (chair_of h p) (chairs_of-get old.desk old.players seat h p d c)))

-- A seat comes back.
back-at : (setting : Setting) (now : After) (author seat : ℕ) (chair : Chair) → slice_get now.chairs seat ≡ Some chair →
    own_part setting now (Back author seat) ≡ after_back setting.rules now author seat chair
unfolding own_part
back-at setting now author seat chair e = ap (λ (o : Option Chair). option_map_or (after_back setting.rules now author seat) o now) e

abbrev back_chair : After → ℕ → ℕ → Chair → Chair
back_chair now author seat chair = record {
  author = Some author;
  name = chair.name;
  key = chair.key;
  returns = chair.returns + 1;
  place = 0;
  progress = record { due = due_on_return now seat; refused = 0; told = [] };
  earlier = [];
}

back-is : (rules : Rules) (now : After) (author seat : ℕ) (chair : Chair) → untold (after_back rules now author seat chair) ≡ pieces now.deeds
    (map untold_chair (slice_set now.chairs seat (back_chair now author seat chair))) now.slots
unfolding after_back
back-is rules now author seat chair = ap (λ (cs : List Chair). pieces now.deeds cs now.slots) (untold-set now.chairs seat _ _ refl)

pub back-own : (setting : Setting) (old : Position) (author seat : ℕ) (h : Occupant) (p : Player) → slice_get old.desk seat ≡ Some h → slice_get old.players seat ≡ Some p
    → untold (now_of (changed old (changed_at old.desk seat came_back) (slice_set old.players seat (record { author = Some author; due = due_on_return (now_of old) seat; refused = 0 })) old.slots))
    ≡ untold (own_part setting (now_of old) (Back author seat))
back-own setting old author seat h p d c =
    let here : Player = record { author = Some author; due = due_on_return (now_of old) seat; refused = 0 } in
    ap (λ (cs : List Chair). pieces old.deeds cs old.slots)
    (put-untold old.desk (changed_at old.desk seat came_back) old.players seat (came_back h) here (back_chair (now_of old) author seat (chair_of h p)) (changed-is old.desk seat came_back h d) refl)
    ∙ sym (back-is setting.rules (now_of old) author seat (chair_of h p))
    ∙ ap untold (sym (back-at setting (now_of old) author seat (chair_of h p) (chairs_of-get old.desk old.players seat h p d c)))

-- A seat is taken.
abbrev pub first_player : ℕ → Player
first_player author = record { author = Some author; due = 0; refused = 0 }

sat-is : (setting : Setting) (now : After) (author : ℕ) (join : JoinLine) → untold (own_part setting now (Sat author join.name join.key)) ≡ pieces
    now.deeds (map untold_chair (now.chairs ++ new_chair now.entered author join.name join.key ∷ [])) now.slots
unfolding own_part
sat-is setting now author join = refl

append-untold : (chairs : List Chair) (chair other : Chair) → untold_chair chair ≡ untold_chair other → map untold_chair (chairs ++ chair ∷ []) ≡ map untold_chair (chairs ++ other ∷ [])
append-untold chairs chair other e =
    map-append untold_chair chairs (chair ∷ []) ∙ ap (λ (c : Chair). map untold_chair chairs ++ c ∷ []) e ∙ sym (map-append untold_chair chairs (other ∷ []))

pub sat-own : (setting : Setting) (old : Position) (author : ℕ) (join : JoinLine) → length old.players ≡ length old.desk
    → untold (now_of (changed old (old.desk ++ new_held join ∷ []) (old.players ++ first_player author ∷ []) old.slots)) ≡ untold (own_part setting (now_of old) (Sat author join.name join.key))
sat-own setting old author join e =
    ap (λ (cs : List Chair). pieces old.deeds cs old.slots)
    (ap (map untold_chair) (chairs_of-append old.desk old.players (new_held join) (first_player author) e)
    ∙ append-untold (chairs_of old.desk old.players) (chair_of (new_held join) (first_player author)) (new_chair 0 author join.name join.key) refl)
    ∙ sym (sat-is setting (now_of old) author join)

-- The next deed: before the game nothing, until four seats are held, and then its start.
pub next-waits : (setting : Setting) (now : After) (entry : Entry Answer) → (length now.deeds == 0) ≡ true → (length now.chairs == 4) ≡ false → next_deed setting now entry ≡ None
unfolding next_deed
next-waits setting now entry d c = rw (d, c)

pub next-starts : (setting : Setting) (now : After) (entry : Entry Answer) → (length now.deeds == 0) ≡ true → (length now.chairs == 4) ≡ true →
    next_deed setting now entry ≡ Some (StartGame (names_of now.chairs))
unfolding next_deed
next-starts setting now entry d c = rw (d, c)

-- Afterwards the window on the newest deed decides.
pub next-plays : (setting : Setting) (now : After) (entry : Entry Answer) (closed : Bool) → (length now.deeds == 0) ≡ false → (is_expiry entry || closes now.slots (map is_present now.chairs)) ≡ closed
    → next_deed setting now entry ≡ (if closed then outcome setting.rules setting.walls now.deeds (answers_in setting.rules now.deeds now.slots) else None)
unfolding next_deed
next-plays setting now entry closed d c = rw (d, c)

pub by_closing : (a b c : Bool) → a ≡ false → b ≡ c → (a || b) ≡ c
by_closing a b c e f = rw (e, f)

-- The game is over, or not begun, where no window is open.
pub no-window : (deeds : List Deed) → is_some (open_window deeds) ≡ false → (length deeds == 0) ≡ false → goes_on (newest deeds) ≡ false
no-window deeds h d = by (length deeds == 0) (goes_on (newest deeds)) (length deeds - 1) d h
  where
    by : (none on : Bool) (n : ℕ) → none ≡ false → is_some (if not none && not (not none && not on) then Some n else None) ≡ false → on ≡ false
    by true on n e k = cc
    by false true n e k = cc
    by false false n e k = refl
