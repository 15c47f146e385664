-- The laws of a state, over the pieces that the code holds.
use Rattle.std.proofs.Common.{◌≡◌, ℕ, zero, suc, ◌-◌, ◌<◌, ◌≤◌, ◌==◌, ◌&&◌, ◌||◌, not, inl, inr, List, [], ◌∷◌, ◌++◌, length, map, get_or, Bool, true, false, refl, ap, ◌∙◌, sym, subst, arith}
use Rattle.std.specs.Prelude.{if◌then◌else◌, Option, Some, None, is_some, option_map, slice_get, slice_set, nat_lt}
use Rattle.std.specs.Option.{option_map_or}
use Rattle.std.proofs.lemmas.Bool.{true≢false, ltb-true}
use Rattle.std.proofs.lemmas.Bool.Decides.{eqb_tells}
use Rattle.std.proofs.lemmas.List.{length-set}
use Rattle.std.proofs.lemmas.Option.{slice_get_within, slice_get-get_or}
use Rattle.mj_tiles.specs.Counts.{all_kinds, has_no_fifth}
use Rattle.mj_ports.specs.declared.entry.Entry.{Entry}
use Rattle.mj_ports.specs.declared.entry.Entry.TheVariants.{Sat, Back, Said, Gone, Expired}
use Rattle.mj_ports.specs.declared.sitting.JoinLine.{JoinLine}
use Rattle.mj_seating.specs.declared.desk.Placed.{Placed}
use Rattle.mj_seating.specs.Sitting.{Occupant, placed, seated, changed_at, new_held, came_back, gone, is_present_at}
use Rattle.mj_deeds.specs.declared.four.Four.{Four}
use Rattle.mj_deeds.specs.declared.deed.Deed.{Deed}
use Rattle.mj_deeds.specs.declared.deed.Deed.TheVariants.{StartGame}
use Rattle.mj_deeds.specs.declared.answer.Answer.{Answer}
use Rattle.mj_deeds.specs.Fits.{fits, fits_in, fits_behind, ground_of}
use Rattle.mj_deeds.specs.Hand.{hand}
use Rattle.mj_wall.specs.declared.setting.Rules.{Rules}
use Rattle.mj_wall.specs.declared.setting.Setting.{Setting}
use Rattle.mj_window.specs.Slots.{empty_slots, closes, is_waited_for}
use Rattle.mj_rules.specs.Outcome.{outcome}
use Rattle.mj_history.specs.After.{After, Chair, Verdict, verdict_on, progress_after, author_after, slots_after, due_on_return, own_part, names_of, answers_in, is_present, is_expiry, next_deed}
use Rattle.mj_history.specs.Legal.{is_over}
use Rattle.mj_history.specs.Sitting.{held_of}
use Rattle.mj_history.specs.Laws.{CanGoOn}
use Rattle.mj_umpire.specs.Calls.{open_window}
use Rattle.mj_umpire.specs.Inner.Untold.{untold}
use Rattle.mj_umpire.specs.Inner.States.{Position, presence_at, desk_names, chair_of, chairs_of, player_in, AreSeated, progress_of, player_of, now_of, Steps, HasWalls, MayAdd, changed}
use Rattle.mj_umpire.specs.Inner.States.{desk_after, with_next, Settles, IsStarted, CanSettle, IsInOrder, IsPatient, IsPatientAt, is_due, is_present_in, CanHear, Hears}
use Rattle.mj_umpire.specs.declared.chair.Chair.{Chair as Player}
use Rattle.mj_umpire.proofs.Seats.{chairs_of-get, chairs_of-length, seated-append, seated-set, presence-is, name-at-desk, changed-is, desk_after-is, held_after, held_after-present}
use Rattle.mj_umpire.proofs.Steps.{makes-step, said-own, gone-own, back-own, sat-own, first_player, next-waits, next-starts, next-plays, by_closing, no-window}
use Rattle.mj_umpire.proofs.Ended.{no_outcome}

abbrev pub position : Rules → List Deed → List Occupant → List Player → Four (Option Answer) → Position
position rules deeds desk players slots = record { rules = rules; deeds = deeds; desk = desk; players = players; slots = slots }

-- The player of a seat is in its chair.
pub player-at : (desk : List Occupant) (players : List Player) (seat : ℕ) → length players ≡ length desk → slice_get players seat ≡ option_map player_in (slice_get (chairs_of desk players) seat)
player-at [] [] seat e = refl
player-at [] (q ∷ players) seat e = absurd (omega arith)
player-at (d ∷ desk) [] seat e = absurd (omega arith)
player-at (d ∷ desk) (q ∷ players) zero e = refl
player-at (d ∷ desk) (q ∷ players) (suc seat) e = player-at desk players seat (less (length players) (length desk) e)
  where
    less : (a b : ℕ) → suc a ≡ suc b → a ≡ b
    less a b e = omega arith

-- The desk after a join.
pub desk-behind : (desk after_desk : List Occupant) (players : List Player) (join : JoinLine) (place right : Placed) → AreSeated desk players →
    placed (map held_of (chairs_of desk players)) join ≡ right → place ≡ placed desk join
    → after_desk ≡ seated desk join place → after_desk ≡ seated desk join right
desk-behind desk after_desk players join place right s p e d = d ∙ ap (seated desk join) (e ∙ ap (λ (hs : List Occupant). placed hs join) (sym s.held) ∙ p)

-- The next seat is taken.
not_four : (n m : ℕ) → n ≡ m → (n ≡ 4 → ⊥) → (m == 4) ≡ false
not_four n m e ne = elim (eqb_tells m 4) [ inl p ↦ absurd (ne (e ∙ p.1)) | inr p ↦ p.0 ]

is_four : (n m : ℕ) → n ≡ m → n ≡ 4 → (m == 4) ≡ true
is_four n m e f = elim (eqb_tells m 4) [ inl p ↦ p.0 | inr p ↦ absurd (p.1 (sym e ∙ f)) ]

-- What is known of the pieces of a state whose next seat is taken.
pub record TakesChair (deeds : List Deed) (desk after_desk : List Occupant) (players all : List Player) (author : ℕ) (join : JoinLine) : Type 0 where
  pub unbegun : (length deeds == 0) ≡ true
  pub seats : AreSeated desk players
  pub desk_is : after_desk ≡ desk ++ new_held join ∷ []
  pub all_is : all ≡ players ++ first_player author ∷ []

pub takes-seated : (deeds : List Deed) (desk after_desk : List Occupant) (players all : List Player) (author : ℕ) (join : JoinLine) →
    TakesChair deeds desk after_desk players all author join → AreSeated after_desk all
takes-seated deeds desk after_desk players all author join t =
    subst (λ (ds : List Occupant). AreSeated ds all) (sym t.desk_is)
    (subst (λ (ps : List Player). AreSeated (desk ++ new_held join ∷ []) ps) (sym t.all_is) (seated-append desk players (new_held join) (first_player author) t.seats refl))

takes-own : (setting : Setting) (rules : Rules) (deeds : List Deed) (desk after_desk : List Occupant) (players all : List Player)
    (slots : Four (Option Answer)) (author : ℕ) (join : JoinLine) → TakesChair deeds desk after_desk players all author join
    → untold (now_of (position rules deeds after_desk all slots)) ≡ untold (own_part setting (now_of (position rules deeds desk players slots)) (Sat author join.name join.key))
takes-own setting rules deeds desk after_desk players all slots author join t =
    ap (λ (ds : List Occupant). untold (now_of (position rules deeds ds all slots))) t.desk_is
    ∙ ap (λ (ps : List Player). untold (now_of (position rules deeds (desk ++ new_held join ∷ []) ps slots))) t.all_is
    ∙ sat-own setting (position rules deeds desk players slots) author join t.seats.many

pub seat-waits : (rules : Rules) (deeds : List Deed) (desk after_desk : List Occupant) (players all : List Player) (slots : Four (Option Answer))
    (author held : ℕ) (join : JoinLine) → TakesChair deeds desk after_desk players all author join
    → held ≡ length after_desk → (held ≡ 4 → ⊥) → (setting : Setting) → Steps setting (position rules deeds desk players slots)
    (position rules deeds after_desk all slots) (Sat author join.name join.key)
seat-waits rules deeds desk after_desk players all slots author held join t h ne setting =
    let middle : Position = position rules deeds after_desk all slots in
    let four : (length (now_of middle).chairs == 4) ≡ false =
    not_four held (length (chairs_of after_desk all))
    (h ∙ sym (chairs_of-length after_desk all (takes-seated deeds desk after_desk players all author join t).many)) ne in
    makes-step setting (position rules deeds desk players slots) middle middle (Sat author join.name join.key) refl
    (takes-own setting rules deeds desk after_desk players all slots author join t)
    (sym (ap (with_next middle) (next-waits setting (now_of middle) (Sat author join.name join.key) t.unbegun four)))

pub seat-starts : (rules after_rules : Rules) (deeds : List Deed) (desk after_desk : List Occupant) (players all : List Player)
    (slots : Four (Option Answer)) (author held : ℕ) (join : JoinLine) (names : Four (List ℕ)) → after_rules ≡ rules
    → TakesChair deeds desk after_desk players all author join → held ≡ length after_desk → held ≡ 4 → names ≡ names_of (chairs_of after_desk all)
    → (setting : Setting) → Steps setting (position rules deeds desk players slots) (position after_rules (deeds ++ StartGame names ∷ []) after_desk all empty_slots) (Sat author join.name join.key)
seat-starts rules after_rules deeds desk after_desk players all slots author held join names r t h f n setting =
    let middle : Position = position rules deeds after_desk all slots in
    let four : (length (now_of middle).chairs == 4) ≡ true =
    is_four held (length (chairs_of after_desk all))
    (h ∙ sym (chairs_of-length after_desk all (takes-seated deeds desk after_desk players all author join t).many)) f in
    makes-step setting (position rules deeds desk players slots) middle (position after_rules (deeds ++ StartGame names ∷ []) after_desk all empty_slots) (Sat author join.name join.key) refl
    (takes-own setting rules deeds desk after_desk players all slots author join t)
    (ap (λ (x : Rules). position x (deeds ++ StartGame names ∷ []) after_desk all empty_slots) r
    ∙ ap (λ (ns : Four (List ℕ)). position rules (deeds ++ StartGame ns ∷ []) after_desk all empty_slots) n
    ∙ sym (ap (with_next middle) (next-starts setting (now_of middle) (Sat author join.name join.key) t.unbegun four)))

pub names-at-desk : (desk : List Occupant) (players : List Player) → AreSeated desk players
    → desk_names desk ≡ names_of (chairs_of desk players)
names-at-desk desk players s =
    let a = name-at-desk desk players 0 s in
    let b = name-at-desk desk players 1 s in
    let c = name-at-desk desk players 2 s in
    let d = name-at-desk desk players 3 s in
    λ i. record { first = a i; second = b i; third = c i; fourth = d i }

-- The start of a game is its first deed.
start_first : (red : Bool) (names : Four (List ℕ)) → fits red [] (StartGame names) ≡ true
unfolding fits_behind fits_in ground_of hand has_no_fifth all_kinds
start_first true names = refl
start_first false names = refl

pub start-fits : (red : Bool) (deeds : List Deed) (names : Four (List ℕ)) → (length deeds == 0) ≡ true → fits red deeds (StartGame names) ≡ true
start-fits red [] names h = start_first red names
start-fits red (deed ∷ deeds) names h = absurd (more (length deeds) h)
  where
    more : (n : ℕ) → (suc n == 0) ≡ true → ⊥
    more n h = grind (arith, h)

-- No deed comes where no window is open, or the open one isn't closed.
next-none : (setting : Setting) (now : After) (entry : Entry Answer) → is_expiry entry ≡ false → IsStarted now →
    (is_some (open_window now.deeds) && closes now.slots (map is_present now.chairs)) ≡ false → next_deed setting now entry ≡ None
next-none setting now entry x s h = by (length now.deeds == 0) refl
  where
    shut : (shown ready : Bool) → is_some (open_window now.deeds) ≡ shown → closes now.slots (map is_present now.chairs) ≡ ready →
        (shown && ready) ≡ false → (length now.deeds == 0) ≡ false → next_deed setting now entry ≡ None
    shut shown false o r k d = next-plays setting now entry false d (by_closing (is_expiry entry) _ false x r)
    shut false true o r k d = next-plays setting now entry true d (by_closing (is_expiry entry) _ true x r) ∙ no_outcome setting.rules setting.walls now.deeds _ (no-window now.deeds o d)
    shut true true o r k d = cc

    by : (none : Bool) → (length now.deeds == 0) ≡ none → next_deed setting now entry ≡ None
    by true d = next-waits setting now entry d (s ∙ ap not d)
    by false d = shut (is_some (open_window now.deeds)) (closes now.slots (map is_present now.chairs)) refl refl h d

open-begun : (deeds : List Deed) → is_some (open_window deeds) ≡ true → (length deeds == 0) ≡ false
open-begun deeds h = by (length deeds == 0) (is_over deeds) (length deeds - 1) h
  where
    by : (none over : Bool) (n : ℕ) → is_some (if not none && not over then Some n else None) ≡ true → none ≡ false
    by true over n k = cc
    by false over n k = refl

next-some : (setting : Setting) (now : After) (entry : Entry Answer) (deed : Deed) → (length now.deeds == 0) ≡ false → (is_expiry entry || closes now.slots (map is_present now.chairs)) ≡ true
    → outcome setting.rules setting.walls now.deeds (answers_in setting.rules now.deeds now.slots) ≡ Some deed → next_deed setting now entry ≡ Some deed
next-some setting now entry deed d c o = next-plays setting now entry true d c ∙ o

-- A seat has changed.
settled-many : (old : Position) (seat : ℕ) (desk : List Occupant) (player : Player) → length old.players ≡ length old.desk → AreSeated desk (slice_set old.players seat player)
    → length (chairs_of desk (slice_set old.players seat player)) ≡ length (chairs_of old.desk old.players)
settled-many old seat desk player m s =
    chairs_of-length desk (slice_set old.players seat player) s.many ∙ sym s.many ∙ length-set old.players seat player ∙ m ∙ sym (chairs_of-length old.desk old.players m)

four-started : (n : ℕ) (none : Bool) → (n == 4) ≡ not none → none ≡ false → n ≡ 4
four-started n true h e = cc
four-started n false h e = elim (eqb_tells n 4) [ inl p ↦ p.1 | inr p ↦ absurd (true≢false (sym h ∙ p.0)) ]

settled-presence : (setting : Setting) (old : Position) (seat : ℕ) (desk : List Occupant) (player : Player) (slots : Four (Option Answer)) →
    length old.players ≡ length old.desk → CanSettle setting old seat desk player slots
    → (length old.deeds == 0) ≡ false → presence_at desk ≡ map is_present (chairs_of desk (slice_set old.players seat player))
settled-presence setting old seat desk player slots m c d =
    presence-is desk (slice_set old.players seat player) c.seated
    (sym (chairs_of-length desk (slice_set old.players seat player) c.seated.many) ∙ settled-many old seat desk player m c.seated
    ∙ four-started (length (chairs_of old.desk old.players)) (length old.deeds == 0) c.started d)

-- The window stays open.
pub settles-open : (setting : Setting) (old : Position) (seat : ℕ) (desk : List Occupant) (player : Player) (slots : Four (Option Answer)) →
    length old.players ≡ length old.desk → CanSettle setting old seat desk player slots
    → (is_some (open_window old.deeds) && closes slots (presence_at desk)) ≡ false
    → Settles setting (changed old desk (slice_set old.players seat player) slots) (changed old desk (slice_set old.players seat player) slots)
settles-open setting old seat desk player slots m c h entry x =
    let middle : Position = changed old desk (slice_set old.players seat player) slots in
    let started : IsStarted (now_of middle) = ap (λ (n : ℕ). n == 4) (settled-many old seat desk player m c.seated) ∙ c.started in
    sym (ap (with_next middle) (next-none setting (now_of middle) entry x started (by (is_some (open_window old.deeds)) refl h)))
  where
    by : (shown : Bool) → is_some (open_window old.deeds) ≡ shown → (shown && closes slots (presence_at desk)) ≡ false
        → (is_some (open_window old.deeds) && closes slots (map is_present (chairs_of desk (slice_set old.players seat player)))) ≡ false
    by false o k = ap (λ (b : Bool). b && closes slots (map is_present (chairs_of desk (slice_set old.players seat player)))) o
    by true o k =
        ap (λ (b : Bool). b && closes slots (map is_present (chairs_of desk (slice_set old.players seat player)))) o
        ∙ ap (closes slots) (sym (settled-presence setting old seat desk player slots m c (open-begun old.deeds o))) ∙ k

-- The window closes, and the next deed comes.
pub settles-closed : (setting : Setting) (old new : Position) (seat : ℕ) (desk : List Occupant) (player : Player) (slots : Four (Option Answer))
    (deed : Deed) → length old.players ≡ length old.desk → CanSettle setting old seat desk player slots
    → is_some (open_window old.deeds) ≡ true → closes slots (presence_at desk) ≡ true
    → outcome setting.rules setting.walls old.deeds (answers_in setting.rules old.deeds slots) ≡ Some deed
    → new ≡ with_next (changed old desk (slice_set old.players seat player) slots) (Some deed)
    → Settles setting (changed old desk (slice_set old.players seat player) slots) new
settles-closed setting old new seat desk player slots deed m c o r f e entry x =
    let middle : Position = changed old desk (slice_set old.players seat player) slots in
    let begun : (length old.deeds == 0) ≡ false = open-begun old.deeds o in
    let ready : closes slots (map is_present (chairs_of desk (slice_set old.players seat player))) ≡ true =
    ap (closes slots) (sym (settled-presence setting old seat desk player slots m c begun)) ∙ r in
    e ∙ sym (ap (with_next middle) (next-some setting (now_of middle) entry deed begun (by_closing (is_expiry entry) _ true x ready) f))

-- The time of the open window has run out.
expired-own : (setting : Setting) (now : After) (author window t1 t2 : ℕ) → own_part setting now (Expired author window t1 t2) ≡ now
unfolding own_part
expired-own setting now author window t1 t2 = refl

pub expires : (setting : Setting) (old new : Position) (deed : Deed) → is_some (open_window old.deeds) ≡ true → outcome setting.rules setting.walls
    old.deeds (answers_in setting.rules old.deeds old.slots) ≡ Some deed
    → new ≡ with_next old (Some deed) → (author window t1 t2 : ℕ) → Steps setting old new (Expired author window t1 t2)
expires setting old new deed o f e author window t1 t2 =
    makes-step setting old old new (Expired author window t1 t2) refl (ap untold (sym (expired-own setting (now_of old) author window t1 t2)))
    (e ∙ sym (ap (with_next old) (next-some setting (now_of old) (Expired author window t1 t2) deed (open-begun old.deeds o) refl f)))

-- A seat that is held.
pub held-within : (old : Position) (seat : ℕ) → AreSeated old.desk old.players → seat < length (now_of old).chairs → seat < length old.players
held-within old seat s h = subst (λ (n : ℕ). seat < n) (chairs_of-length old.desk old.players s.many ∙ sym s.many) h

some-chair : (o : Option Chair) (test : Chair → Bool) → option_map_or test o false ≡ true → (chair : Chair) × (o ≡ Some chair)
some-chair None test h = cc
some-chair (Some chair) test h = (chair, refl)

pub due-within : (old : Position) (seat : ℕ) → AreSeated old.desk old.players → is_due (now_of old) seat ≡ true → seat < length old.players
due-within old seat s h =
    let k = some-chair (slice_get (now_of old).chairs seat) (λ (chair : Chair). nat_lt chair.progress.due (length old.deeds)) h in
    held-within old seat s (slice_get_within (now_of old).chairs seat k.0 k.1)

pub present-within : (old : Position) (seat : ℕ) → AreSeated old.desk old.players → is_present_in (now_of old) seat ≡ true → seat < length old.players
present-within old seat s h =
    let k = some-chair (slice_get (now_of old).chairs seat) is_present h in
    held-within old seat s (slice_get_within (now_of old).chairs seat k.0 k.1)

-- A desk has those present that are so by an author.
held-present : (cs : List Chair) (k : ℕ) → is_present_at (map held_of cs) k ≡ option_map_or is_present (slice_get cs k) false
held-present [] k = refl
held-present (c ∷ cs) zero = refl
held-present (c ∷ cs) (suc k) = held-present cs k

pub present-at-desk : (old : Position) (seat : ℕ) → AreSeated old.desk old.players → is_present_in (now_of old) seat ≡ true → is_present_at old.desk seat ≡ true
present-at-desk old seat s h = ap (λ (d : List Occupant). is_present_at d seat) (sym s.held) ∙ held-present (chairs_of old.desk old.players) seat ∙ h

-- The chair that was read.
pub read-chair : (players : List Player) (seat place : ℕ) (player : Player) → seat < length players → place ≡ seat → player ≡ get_or players place player → slice_get players seat ≡ Some player
read-chair players seat place player h at read =
    slice_get-get_or players seat player h ∙ ap Some (ap (λ (i : ℕ). get_or players i player) (sym at) ∙ sym read)

-- A seat that leaves, and one that is taken back.
pub leaves-can : (setting : Setting) (old : Position) (seat : ℕ) (h : Occupant) (player next : Player) (desk : List Occupant) (change : Occupant →
    Occupant) → HasWalls setting old → IsInOrder (now_of old) → MayAdd setting old.deeds old.slots → AreSeated old.desk old.players
    → slice_get old.desk seat ≡ Some h → seat < length old.players → desk ≡ changed_at old.desk seat change → (change h).present ≡ is_some next.author → CanSettle setting old seat desk next old.slots
leaves-can setting old seat h player next desk change g o m s at k d p = record {
  ground = g;
  held = k;
  seated = subst (λ (ds : List Occupant). AreSeated ds (slice_set old.players seat next)) (sym (d ∙ changed-is old.desk seat change h at)) (seated-set old.desk old.players seat (change h) next s p);
  started = o.started;
  may = m;
}

-- An answer of a seat.
pub due-at : (old : Position) (seat : ℕ) (h : Occupant) (p : Player) → slice_get old.desk seat ≡ Some h → slice_get old.players seat ≡ Some p →
    is_due (now_of old) seat ≡ true → p.due < length old.deeds
due-at old seat h p d c due =
    ltb-true p.due (length old.deeds)
    (sym (ap (λ (o : Option Chair). option_map_or (λ (chair : Chair). nat_lt chair.progress.due (length old.deeds)) o false) (chairs_of-get old.desk old.players seat h p d c)) ∙ due)

pub refused-at : (old : Position) (seat : ℕ) (h : Occupant) (p : Player) → slice_get old.desk seat ≡ Some h → slice_get old.players seat ≡ Some p →
    IsInOrder (now_of old) → is_present_in (now_of old) seat ≡ true → p.refused ≤ 15
refused-at old seat h p d c o here =
    let is : slice_get (chairs_of old.desk old.players) seat ≡ Some (chair_of h p) = chairs_of-get old.desk old.players seat h p d c in
    let patient : IsPatient old.deeds (chair_of h p) = subst (IsPatientAt old.deeds) is (o.patient seat) in
    patient.refused (sym (ap (λ (x : Option Chair). option_map_or is_present x false) is) ∙ here)

-- What is known once it has its verdict.
pub record IsSaid (setting : Setting) (old : Position) (seat : ℕ) (answer : Answer) (h : Occupant) (p next : Player) (v : Verdict) (slots : Four (Option Answer)) : Type 0 where
  pub at_desk : slice_get old.desk seat ≡ Some h
  pub at_chair : slice_get old.players seat ≡ Some p
  pub present : h.present ≡ is_some p.author
  pub judged : v ≡ verdict_on setting.rules old.deeds seat answer (progress_of p)
  pub on : (lines : List (List ℕ)) → next ≡ player_of (author_after v p.author) (progress_after lines v (progress_of p))
  pub filled : slots ≡ slots_after v old.slots seat answer

said-middle : (setting : Setting) (old : Position) (author seat : ℕ) (answer : Answer) (h : Occupant) (p next : Player) (v : Verdict)
    (slots : Four (Option Answer)) → IsSaid setting old seat answer h p next v slots
    → untold (now_of (changed old (desk_after v old.desk seat) (slice_set old.players seat next) slots)) ≡ untold (own_part setting (now_of old) (Said author seat answer))
said-middle setting old author seat answer h p next v slots s = said-own setting old author seat answer h p next v slots s.at_desk s.at_chair s.judged s.on s.filled

may-add-same : (setting : Setting) (now other : After) → untold now ≡ untold other → CanGoOn setting other → MayAdd setting now.deeds now.slots
may-add-same setting now other e c =
    let may : MayAdd setting other.deeds other.slots = record { played = c.played; lawful = c.ready } in
    subst (λ (slots : Four (Option Answer)). MayAdd setting now.deeds slots) (sym (ap (λ (n : After). n.slots) e))
    (subst (λ (deeds : List Deed). MayAdd setting deeds other.slots) (sym (ap (λ (n : After). n.deeds) e)) may)

next-author : (v : Verdict) (lines : List (List ℕ)) (p next : Player) → next ≡ player_of (author_after v p.author) (progress_after lines v (progress_of p)) → author_after v p.author ≡ next.author
next-author v lines p next e = sym (ap (λ (q : Player). q.author) e)

pub hears-can : (setting : Setting) (old : Position) (seat : ℕ) (answer : Answer) (h : Occupant) (p next : Player) (v : Verdict)
    (desk : List Occupant) (slots : Four (Option Answer)) → CanHear setting old seat answer → AreSeated old.desk old.players
    → IsSaid setting old seat answer h p next v slots → desk ≡ desk_after v old.desk seat → CanSettle setting old seat desk next slots
hears-can setting old seat answer h p next v desk slots k a s d =
    let middle : Position = changed old (desk_after v old.desk seat) (slice_set old.players seat next) slots in
    record {
      ground = k.ground;
      held = due-within old seat a k.due;
      seated =
          subst (λ (ds : List Occupant). AreSeated ds (slice_set old.players seat next)) (sym (d ∙ desk_after-is v old.desk seat h s.at_desk))
          (seated-set old.desk old.players seat (held_after v h) next a (held_after-present v h p.author s.present ∙ ap is_some (next-author v [] p next (s.on []))));
      started = k.order.started;
      may = may-add-same setting (now_of middle) (own_part setting (now_of old) (Said 0 seat answer)) (said-middle setting old 0 seat answer h p next v slots s) (k.going 0);
    }

pub hears : (setting : Setting) (old new : Position) (seat : ℕ) (answer : Answer) (h : Occupant) (p next : Player) (v : Verdict)
    (desk : List Occupant) (slots : Four (Option Answer)) → IsSaid setting old seat answer h p next v slots → desk ≡ desk_after v old.desk seat
    → Settles setting (changed old desk (slice_set old.players seat next) slots) new → Hears setting old new seat answer v
hears setting old new seat answer h p next v desk slots s d settled = record {
  judged = ap (option_map (λ (chair : Chair). verdict_on setting.rules old.deeds seat answer chair.progress)) (chairs_of-get old.desk old.players seat
      h p s.at_desk s.at_chair) ∙ ap Some (sym s.judged);
  entered = λ author.
      let middle : Position = changed old desk (slice_set old.players seat next) slots in
      makes-step setting old middle new (Said author seat answer) refl
      (ap (λ (ds : List Occupant). untold (now_of (changed old ds (slice_set old.players seat next) slots))) d ∙ said-middle setting old author seat answer h p next v slots s)
      (settled (Said author seat answer) refl);
}

-- A seat leaves.
pub leaves : (setting : Setting) (old new : Position) (seat : ℕ) (h : Occupant) (p next : Player) (desk : List Occupant) →
    slice_get old.desk seat ≡ Some h → slice_get old.players seat ≡ Some p → desk ≡ changed_at old.desk seat gone
    → next ≡ (let q : Player = record { author = None; due = p.due; refused = p.refused } in q) →
    Settles setting (changed old desk (slice_set old.players seat next) old.slots) new → (author : ℕ) → Steps setting old new (Gone author seat)
leaves setting old new seat h p next desk d c e n settled author =
    makes-step setting old (changed old desk (slice_set old.players seat next) old.slots) new (Gone author seat) refl
    (ap (λ (ds : List Occupant). untold (now_of (changed old ds (slice_set old.players seat next) old.slots))) e
    ∙ ap (λ (q : Player). untold (now_of (changed old (changed_at old.desk seat gone) (slice_set old.players seat q) old.slots))) n
    ∙ gone-own setting old author seat h p d c)
    (settled (Gone author seat) refl)

-- A seat is taken back.
pub returns : (setting : Setting) (old new : Position) (author seat due : ℕ) (h : Occupant) (p next : Player) (desk : List Occupant) →
    slice_get old.desk seat ≡ Some h → slice_get old.players seat ≡ Some p → desk ≡ changed_at old.desk seat came_back
    → due ≡ due_on_return (now_of old) seat → next ≡ (let q : Player = record { author = Some author; due = due; refused = 0 } in q) →
    Settles setting (changed old desk (slice_set old.players seat next) old.slots) new
    → Steps setting old new (Back author seat)
returns setting old new author seat due h p next desk d c e n q settled =
    makes-step setting old (changed old desk (slice_set old.players seat next) old.slots) new (Back author seat) refl
    (ap (λ (ds : List Occupant). untold (now_of (changed old ds (slice_set old.players seat next) old.slots))) e
    ∙ ap (λ (x : Player). untold (now_of (changed old (changed_at old.desk seat came_back) (slice_set old.players seat x) old.slots)))
    (q ∙ ap (λ (m : ℕ). let r : Player = record { author = Some author; due = m; refused = 0 } in r) n)
    ∙ back-own setting old author seat h p d c)
    (settled (Back author seat) refl)

-- While the last seat is waited for the window stays open.
pub waits-for-last : (slots : Four (Option Answer)) (desk : List Occupant) → is_waited_for (is_present_at desk 3) slots.fourth ≡ true → closes slots (presence_at desk) ≡ false
waits-for-last slots desk h =
    let first : Bool = is_present_at desk 0 in
    let second : Bool = is_present_at desk 1 in
    let third : Bool = is_present_at desk 2 in
    ap (λ (waits : Bool). (first || second || third || is_present_at desk 3)
    && not (is_waited_for first slots.first || is_waited_for second slots.second || is_waited_for third slots.third || waits)) h
    ∙ by (first || second || third || is_present_at desk 3) (is_waited_for first slots.first) (is_waited_for second slots.second) (is_waited_for third slots.third)
  where
    by : (some a b c : Bool) → (some && not (a || b || c || true)) ≡ false
    by false a b c = refl
    by true true b c = refl
    by true false true c = refl
    by true false false true = refl
    by true false false false = refl
