-- What the connections were told, and where they began, changes nothing else.
use Rattle.std.proofs.Common.{◌≡◌, ℕ, zero, suc, ◌==◌, ◌||◌, List, [], ◌∷◌, ◌++◌, length, map, Bool, refl, ap, ◌∙◌, sym, subst}
use Rattle.std.specs.Prelude.{if◌then◌else◌, Option, Some, None, slice_get, slice_set, option_map}
use Rattle.std.specs.Option.{option_map_or}
use Rattle.std.proofs.lemmas.List.{map-set, map-append}
use Rattle.std.proofs.lemmas.Option.{slice_get-map}
use Rattle.mj_ports.specs.declared.entry.Entry.{Entry}
use Rattle.mj_ports.specs.declared.entry.Entry.TheVariants.{Sat, Back, Said, Gone, Expired}
use Rattle.mj_deeds.specs.declared.four.Four.{Four}
use Rattle.mj_deeds.specs.declared.deed.Deed.{Deed}
use Rattle.mj_deeds.specs.declared.deed.Deed.TheVariants.{StartGame}
use Rattle.mj_deeds.specs.declared.answer.Answer.{Answer}
use Rattle.mj_wall.specs.declared.setting.Rules.{Rules}
use Rattle.mj_wall.specs.declared.setting.Setting.{Setting}
use Rattle.mj_window.specs.Slots.{closes}
use Rattle.mj_rules.specs.Outcome.{outcome}
use Rattle.mj_history.specs.After.{After, Chair, Verdict, Taken, Late, Refused, Closing, verdict_on, progress_after, author_after, slots_after, lines_for, after_said}
use Rattle.mj_history.specs.After.{after_gone, after_back, new_chair, own_part, name_at, names_of, answers_in, is_present, is_expiry, next_deed, with_deed, step}
use Rattle.mj_history.specs.Laws.{CanGoOn}
use Rattle.mj_history.specs.Sitting.{held_of}
use Rattle.mj_seating.specs.Sitting.{Occupant}
use Rattle.mj_umpire.specs.Inner.Untold.{untold_chair, untold}

abbrev pub pieces : List Deed → List Chair → Four (Option Answer) → After
pieces deeds chairs slots = record { entered = 0; deeds = deeds; chairs = chairs; slots = slots }

untold-twice : (chairs : List Chair) → map untold_chair (map untold_chair chairs) ≡ map untold_chair chairs
untold-twice [] = refl
untold-twice (chair ∷ chairs) = ap (λ (cs : List Chair). untold_chair chair ∷ cs) (untold-twice chairs)

name_at-untold : (chairs : List Chair) (seat : ℕ) → name_at (map untold_chair chairs) seat ≡ name_at chairs seat
name_at-untold [] seat = refl
name_at-untold (chair ∷ chairs) zero = refl
name_at-untold (chair ∷ chairs) (suc seat) = name_at-untold chairs seat

names_of-untold : (chairs : List Chair) → names_of (map untold_chair chairs) ≡ names_of chairs
names_of-untold chairs = rw (name_at-untold chairs 0, name_at-untold chairs 1, name_at-untold chairs 2, name_at-untold chairs 3)

present-untold : (chairs : List Chair) → map is_present (map untold_chair chairs) ≡ map is_present chairs
present-untold [] = refl
present-untold (chair ∷ chairs) = ap (λ (bs : List Bool). is_present chair ∷ bs) (present-untold chairs)

length-untold : (chairs : List Chair) → length (map untold_chair chairs) ≡ length chairs
length-untold [] = refl
length-untold (chair ∷ chairs) = ap suc (length-untold chairs)

pub names_of-same : (chairs others : List Chair) → map untold_chair chairs ≡ map untold_chair others → names_of chairs ≡ names_of others
names_of-same chairs others e = sym (names_of-untold chairs) ∙ ap names_of e ∙ names_of-untold others

pub present-same : (chairs others : List Chair) → map untold_chair chairs ≡ map untold_chair others → map is_present chairs ≡ map is_present others
present-same chairs others e = sym (present-untold chairs) ∙ ap (map is_present) e ∙ present-untold others

pub length-same : (chairs others : List Chair) → map untold_chair chairs ≡ map untold_chair others → length chairs ≡ length others
length-same chairs others e = sym (length-untold chairs) ∙ ap length e ∙ length-untold others

-- The next deed, by the parts that it is made of.
abbrev next_by : Setting → Entry Answer → List Deed → ℕ → Four (List ℕ) → List Bool → Four (Option Answer) → Option Deed
next_by setting entry deeds many names presence slots =
    if length deeds == 0
    then (if many == 4 then Some (StartGame names) else None)
    else (if is_expiry entry || closes slots presence then outcome setting.rules setting.walls deeds (answers_in setting.rules deeds slots) else None)

next_deed-is : (setting : Setting) (now : After) (entry : Entry Answer) → next_deed setting now entry ≡ next_by setting entry now.deeds
    (length now.chairs) (names_of now.chairs) (map is_present now.chairs) now.slots
unfolding next_deed
next_deed-is setting now entry = refl

pub next_deed-same : (setting : Setting) (now other : After) (entry : Entry Answer) → untold now ≡ untold other → next_deed setting now entry ≡ next_deed setting other entry
next_deed-same setting now other entry e =
    let deeds : now.deeds ≡ other.deeds = ap (λ (n : After). n.deeds) e in
    let slots : now.slots ≡ other.slots = ap (λ (n : After). n.slots) e in
    let chairs : map untold_chair now.chairs ≡ map untold_chair other.chairs = ap (λ (n : After). n.chairs) e in
    let many : length now.chairs ≡ length other.chairs = length-same now.chairs other.chairs chairs in
    let names : names_of now.chairs ≡ names_of other.chairs = names_of-same now.chairs other.chairs chairs in
    let presence : map is_present now.chairs ≡ map is_present other.chairs = present-same now.chairs other.chairs chairs in
    next_deed-is setting now entry ∙ (λ i. next_by setting entry (deeds i) (many i) (names i) (presence i) (slots i)) ∙ sym (next_deed-is setting other entry)

with_deed-untold : (now : After) (deed : Option Deed) → untold (with_deed now deed) ≡ with_deed (untold now) deed
with_deed-untold now None = refl
with_deed-untold now (Some deed) = refl

pub with_deed-same : (now other : After) (deed : Option Deed) → untold now ≡ untold other → untold (with_deed now deed) ≡ untold (with_deed other deed)
with_deed-same now other deed e = with_deed-untold now deed ∙ ap (λ (n : After). with_deed n deed) e ∙ sym (with_deed-untold other deed)

-- A seat that is changed, told or untold.
set-untold : (chairs : List Chair) (seat : ℕ) (chair other : Chair) → untold_chair chair ≡ untold_chair other →
    map untold_chair (slice_set (map untold_chair chairs) seat chair) ≡ map untold_chair (slice_set chairs seat other)
set-untold chairs seat chair other e =
    map-set untold_chair (map untold_chair chairs) seat chair
    ∙ ap (λ (cs : List Chair). slice_set cs seat (untold_chair chair)) (untold-twice chairs)
    ∙ ap (λ (c : Chair). slice_set (map untold_chair chairs) seat c) e
    ∙ sym (map-set untold_chair chairs seat other)

said-untold : (lines : List (List ℕ)) (v : Verdict) (chair : Chair) →
    untold_chair (record (untold_chair chair) { author = author_after v chair.author; progress = progress_after lines v (untold_chair chair).progress })
    ≡ untold_chair (record chair { author = author_after v chair.author; progress = progress_after lines v chair.progress })
said-untold lines Taken chair = refl
said-untold lines Late chair = refl
said-untold lines (Refused rule) chair = refl
said-untold lines (Closing rule) chair = refl

after_said-untold : (rules : Rules) (now : After) (seat : ℕ) (answer : Answer) (chair : Chair) →
    untold (after_said rules (untold now) seat answer (untold_chair chair)) ≡ untold (after_said rules now seat answer chair)
unfolding after_said
after_said-untold rules now seat answer chair =
    let v : Verdict = verdict_on rules now.deeds seat answer chair.progress in
    ap (λ (cs : List Chair). pieces now.deeds cs (slots_after v now.slots seat answer)) (set-untold now.chairs seat _ _ (said-untold (lines_for rules seat now.deeds) v chair))

after_gone-untold : (rules : Rules) (now : After) (seat : ℕ) (chair : Chair) → untold (after_gone rules (untold now) seat (untold_chair chair)) ≡ untold (after_gone rules now seat chair)
unfolding after_gone
after_gone-untold rules now seat chair = ap (λ (cs : List Chair). pieces now.deeds cs now.slots) (set-untold now.chairs seat _ _ refl)

after_back-untold : (rules : Rules) (now : After) (author seat : ℕ) (chair : Chair) →
    untold (after_back rules (untold now) author seat (untold_chair chair)) ≡ untold (after_back rules now author seat chair)
unfolding after_back
after_back-untold rules now author seat chair = ap (λ (cs : List Chair). pieces now.deeds cs now.slots) (set-untold now.chairs seat _ _ refl)

pub untold-untold : (now : After) → untold (untold now) ≡ untold now
untold-untold now = ap (λ (cs : List Chair). pieces now.deeds cs now.slots) (untold-twice now.chairs)

said-option : (rules : Rules) (now : After) (seat : ℕ) (answer : Answer) (o : Option Chair) →
    untold (option_map_or (after_said rules (untold now) seat answer) (option_map untold_chair o) (untold now)) ≡ untold
    (option_map_or (after_said rules now seat answer) o now)
said-option rules now seat answer None = untold-untold now
said-option rules now seat answer (Some chair) = after_said-untold rules now seat answer chair

gone-option : (rules : Rules) (now : After) (seat : ℕ) (o : Option Chair) →
    untold (option_map_or (after_gone rules (untold now) seat) (option_map untold_chair o) (untold now)) ≡ untold
    (option_map_or (after_gone rules now seat) o now)
gone-option rules now seat None = untold-untold now
gone-option rules now seat (Some chair) = after_gone-untold rules now seat chair

back-option : (rules : Rules) (now : After) (author seat : ℕ) (o : Option Chair) →
    untold (option_map_or (after_back rules (untold now) author seat) (option_map untold_chair o) (untold now)) ≡ untold
    (option_map_or (after_back rules now author seat) o now)
back-option rules now author seat None = untold-untold now
back-option rules now author seat (Some chair) = after_back-untold rules now author seat chair

append-untold : (chairs : List Chair) (chair other : Chair) → untold_chair chair ≡ untold_chair other →
    map untold_chair (map untold_chair chairs ++ chair ∷ []) ≡ map untold_chair (chairs ++ other ∷ [])
append-untold chairs chair other e =
    map-append untold_chair (map untold_chair chairs) (chair ∷ [])
    ∙ ap (λ (cs : List Chair). cs ++ untold_chair chair ∷ []) (untold-twice chairs)
    ∙ ap (λ (c : Chair). map untold_chair chairs ++ c ∷ []) e
    ∙ sym (map-append untold_chair chairs (other ∷ []))

own_part-untold : (setting : Setting) (now : After) (entry : Entry Answer) → untold (own_part setting (untold now) entry) ≡ untold (own_part setting now entry)
unfolding own_part
own_part-untold setting now (Sat author name key) = ap (λ (cs : List Chair). pieces now.deeds cs now.slots)
    (append-untold now.chairs (new_chair 0 author name key) (new_chair now.entered author name key) refl)
own_part-untold setting now (Said author seat answer) = rw (slice_get-map untold_chair now.chairs seat) (said-option setting.rules now seat answer (slice_get now.chairs seat))
own_part-untold setting now (Back author seat) = rw (slice_get-map untold_chair now.chairs seat) (back-option setting.rules now author seat (slice_get now.chairs seat))
own_part-untold setting now (Gone author seat) = rw (slice_get-map untold_chair now.chairs seat) (gone-option setting.rules now seat (slice_get now.chairs seat))
own_part-untold setting now (Expired author window t1 t2) = untold-untold now

pub own_part-same : (setting : Setting) (now other : After) (entry : Entry Answer) → untold now ≡ untold other → untold (own_part setting now entry) ≡ untold (own_part setting other entry)
own_part-same setting now other entry e =
    sym (own_part-untold setting now entry) ∙ ap (λ (n : After). untold (own_part setting n entry)) e ∙ own_part-untold setting other entry

-- A step is what an entry changes of its own seat, and then the next deed.
pub step-is : (setting : Setting) (now : After) (entry : Entry Answer) → untold (step setting now entry) ≡ untold
    (with_deed (own_part setting now entry) (next_deed setting (own_part setting now entry) entry))
unfolding step
step-is setting now entry = refl

pub moved-same : (setting : Setting) (now other : After) (entry : Entry Answer) → untold now ≡ untold other →
    untold (with_deed now (next_deed setting now entry)) ≡ untold (with_deed other (next_deed setting other entry))
moved-same setting now other entry e =
    with_deed-same now other (next_deed setting now entry) e
    ∙ ap (λ (d : Option Deed). untold (with_deed other d)) (next_deed-same setting now other entry e)

-- An entry changes the same, whatever the connections were told.
pub step-same : (setting : Setting) (now other : After) (entry : Entry Answer) → untold now ≡ untold other → untold (step setting now entry) ≡ untold (step setting other entry)
step-same setting now other entry e =
    step-is setting now entry ∙ moved-same setting (own_part setting now entry) (own_part setting other entry) entry (own_part-same setting now other entry e)
    ∙ sym (step-is setting other entry)

-- What is read of a seat is the same, whatever the connections were told.
option_or-same : {A : Type 0} (f : Chair → A) → ((chair : Chair) → f (untold_chair chair) ≡ f chair) → (d : A) (o : Option Chair) → option_map_or f (option_map untold_chair o) d ≡ option_map_or f o d
option_or-same f h d None = refl
option_or-same f h d (Some chair) = h chair

seat_or-untold : {A : Type 0} (f : Chair → A) → ((chair : Chair) → f (untold_chair chair) ≡ f chair) → (d : A) (chairs : List Chair) (seat : ℕ) →
    option_map_or f (slice_get (map untold_chair chairs) seat) d ≡ option_map_or f (slice_get chairs seat) d
seat_or-untold f h d chairs seat = ap (λ (o : Option Chair). option_map_or f o d) (slice_get-map untold_chair chairs seat) ∙ option_or-same f h d (slice_get chairs seat)

pub seat_or-same : {A : Type 0} (f : Chair → A) → ((chair : Chair) → f (untold_chair chair) ≡ f chair) → (d : A) (chairs others : List Chair)
    (seat : ℕ) → map untold_chair chairs ≡ map untold_chair others → option_map_or f (slice_get chairs seat) d ≡ option_map_or f
    (slice_get others seat) d
seat_or-same f h d chairs others seat e =
    sym (seat_or-untold f h d chairs seat) ∙ ap (λ (cs : List Chair). option_map_or f (slice_get cs seat) d) e ∙ seat_or-untold f h d others seat

option-same : {A : Type 0} (f : Chair → A) → ((chair : Chair) → f (untold_chair chair) ≡ f chair) → (o : Option Chair) → option_map f (option_map untold_chair o) ≡ option_map f o
option-same f h None = refl
option-same f h (Some chair) = ap Some (h chair)

seat-untold : {A : Type 0} (f : Chair → A) → ((chair : Chair) → f (untold_chair chair) ≡ f chair) → (chairs : List Chair) (seat : ℕ) →
    option_map f (slice_get (map untold_chair chairs) seat) ≡ option_map f (slice_get chairs seat)
seat-untold f h chairs seat = ap (option_map f) (slice_get-map untold_chair chairs seat) ∙ option-same f h (slice_get chairs seat)

pub seat-same : {A : Type 0} (f : Chair → A) → ((chair : Chair) → f (untold_chair chair) ≡ f chair) → (chairs others : List Chair) (seat : ℕ) →
    map untold_chair chairs ≡ map untold_chair others → option_map f (slice_get chairs seat) ≡ option_map f (slice_get others seat)
seat-same f h chairs others seat e =
    sym (seat-untold f h chairs seat) ∙ ap (λ (cs : List Chair). option_map f (slice_get cs seat)) e ∙ seat-untold f h others seat

-- So is the desk.
held-untold : (chairs : List Chair) → map held_of (map untold_chair chairs) ≡ map held_of chairs
held-untold [] = refl
held-untold (chair ∷ chairs) = ap (λ (hs : List Occupant). held_of chair ∷ hs) (held-untold chairs)

pub held-same : (chairs others : List Chair) → map untold_chair chairs ≡ map untold_chair others → map held_of chairs ≡ map held_of others
held-same chairs others e = sym (held-untold chairs) ∙ ap (map held_of) e ∙ held-untold others

-- Where a deed may be added, it may whatever the connections were told.
can_go_on-untold : (setting : Setting) (now : After) → CanGoOn setting now → CanGoOn setting (untold now)
can_go_on-untold setting now c = record { played = c.played; taken = c.taken; ready = c.ready }

can_go_on-told : (setting : Setting) (now : After) → CanGoOn setting (untold now) → CanGoOn setting now
can_go_on-told setting now c = record { played = c.played; taken = c.taken; ready = c.ready }

pub can_go_on-same : (setting : Setting) (now other : After) → untold now ≡ untold other → CanGoOn setting other → CanGoOn setting now
can_go_on-same setting now other e c = can_go_on-told setting now (subst (CanGoOn setting) (sym e) (can_go_on-untold setting other c))
