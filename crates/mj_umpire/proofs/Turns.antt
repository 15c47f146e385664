-- What a state does with what comes, over what its code holds.
use Rattle.std.proofs.Common.{◌≡◌, ℕ, ◌<◌, ◌≤◌, ◌&&◌, List, [], ◌∷◌, ◌++◌, length, get_or, true, ap, ◌∙◌, sym, subst, arith}
use Rattle.std.specs.Prelude.{Option, Some, None, is_some, slice_get, slice_set}
use Rattle.std.proofs.lemmas.Bool.{and_parts}
use Rattle.mj_ports.specs.declared.entry.Entry.TheVariants.{Back, Gone, Expired}
use Rattle.mj_ports.specs.declared.sitting.JoinLine.{JoinLine}
use Rattle.mj_seating.specs.declared.desk.Placed.{Placed}
use Rattle.mj_seating.specs.declared.desk.Placed.TheVariants as places
use Rattle.mj_seating.specs.Sitting.{Occupant, placed, seated, changed_at, came_back, gone}
use Rattle.mj_deeds.specs.declared.four.Four.{Four}
use Rattle.mj_deeds.specs.declared.deed.Deed.{Deed}
use Rattle.mj_deeds.specs.declared.answer.Answer.{Answer}
use Rattle.mj_wall.specs.declared.setting.Rules.{Rules}
use Rattle.mj_wall.specs.declared.setting.Setting.{Setting}
use Rattle.mj_window.specs.Slots.{closes}
use Rattle.mj_rules.specs.Broken.{broken_rule}
use Rattle.mj_history.specs.After.{Verdict, verdict, progress_after, author_after, slots_after, due_on_return}
use Rattle.mj_umpire.specs.Calls.{open_window}
use Rattle.mj_umpire.specs.Inner.States.{Position, presence_at, AreSeated, progress_of, player_of, now_of, is_due, Steps, Advances, changed}
use Rattle.mj_umpire.specs.Inner.States.{desk_after, Settles, CanSettle, CanTakeSeat, CanTakeBack, CanHear, CanLeave, CanExpire, Hears}
use Rattle.mj_umpire.specs.declared.chair.Chair.{Chair as Player}
use Rattle.mj_umpire.proofs.Seats.{HasParts, parts-at}
use Rattle.mj_umpire.proofs.Steps.{first_player}
use Rattle.mj_umpire.proofs.Pieces.{position, desk-behind, TakesChair, settles-closed, expires, read-chair, leaves-can, due-at, refused-at, IsSaid, hears-can, hears, leaves, returns, due-within}

-- A window closes: the state has the deed that was added, and its seat as it has changed.
pub settled : (setting : Setting) (old mid : Position) (seat place : ℕ) (desk : List Occupant) (player : Player) →
    CanSettle setting old seat desk player old.slots → length old.players ≡ length old.desk → place ≡ seat
    → (is_some (open_window old.deeds) && closes old.slots (presence_at desk)) ≡ true → Advances setting old mid
    → Settles setting (changed old desk (slice_set old.players seat player) old.slots)
    (position mid.rules mid.deeds desk (slice_set mid.players place player) mid.slots)
settled setting old mid seat place desk player c m at h a =
    let both = and_parts (is_some (open_window old.deeds)) (closes old.slots (presence_at desk)) h in
    settles-closed setting old (position mid.rules mid.deeds desk (slice_set mid.players place player) mid.slots) seat desk player
    old.slots a.deed m c both.0 both.1 a.adds.follows
    (ap (λ (n : ℕ). position mid.rules mid.deeds desk (slice_set mid.players n player) mid.slots) at
    ∙ ap (λ (p : Position). position p.rules p.deeds desk (slice_set p.players seat player) p.slots) a.adds.new_is)

-- Its seat stays at the desk as it is.
pub settled_here : (setting : Setting) (old mid : Position) (seat place : ℕ) (player : Player) →
    CanSettle setting old seat old.desk player old.slots → length old.players ≡ length old.desk → place ≡ seat
    → (is_some (open_window old.deeds) && closes old.slots (presence_at old.desk)) ≡ true → Advances setting old mid
    → Settles setting (changed old old.desk (slice_set old.players seat player) old.slots)
    (position mid.rules mid.deeds mid.desk (slice_set mid.players place player) mid.slots)
settled_here setting old mid seat place player c m at h a =
    let both = and_parts (is_some (open_window old.deeds)) (closes old.slots (presence_at old.desk)) h in
    settles-closed setting old (position mid.rules mid.deeds mid.desk (slice_set mid.players place player) mid.slots) seat old.desk player
    old.slots a.deed m c both.0 both.1 a.adds.follows
    (ap (λ (n : ℕ). position mid.rules mid.deeds mid.desk (slice_set mid.players n player) mid.slots) at
    ∙ ap (λ (p : Position). position p.rules p.deeds p.desk (slice_set p.players seat player) p.slots) a.adds.new_is)

-- The time of the open window has run out.
pub expired : (setting : Setting) (old new : Position) → CanExpire setting old → Advances setting old new → (author window t1 t2 : ℕ)
    → Steps setting old new (Expired author window t1 t2)
expired setting old new c a author window t1 t2 = expires setting old new a.deed c.window a.adds.follows a.adds.new_is author window t1 t2

-- The seat that the code reads is that of both tables.
pub record ReadsSeat (old : Position) (seat place : ℕ) (player : Player) : Type 0 where
  pub seated : AreSeated old.desk old.players
  pub within : seat < length old.players
  pub place_is : place ≡ seat
  pub read : player ≡ get_or old.players place player

pub reads-due : (old : Position) (seat place : ℕ) (player : Player) → AreSeated old.desk old.players → is_due (now_of old) seat ≡ true → place ≡ seat →
    player ≡ get_or old.players place player → ReadsSeat old seat place player
reads-due old seat place player s due at read = record { seated = s; within = due-within old seat s due; place_is = at; read = read }

pub place-within : (place seat many len : ℕ) → seat < many → place ≡ seat → len ≡ many → place < len
place-within place seat many len h e f = omega arith

chair-is : (old : Position) (seat place : ℕ) (player : Player) → ReadsSeat old seat place player → slice_get old.players seat ≡ Some player
chair-is old seat place player r = read-chair old.players seat place player r.within r.place_is r.read

parts : (old : Position) (seat place : ℕ) (player : Player) → ReadsSeat old seat place player → HasParts old.desk old.players seat
parts old seat place player r = parts-at old.desk old.players seat r.seated r.within

-- A seat leaves.
pub leave-settles : (setting : Setting) (old : Position) (seat place : ℕ) (player next : Player) (desk : List Occupant) → CanLeave setting old seat →
    ReadsSeat old seat place player → desk ≡ changed_at old.desk seat gone
    → next ≡ (let q : Player = record { author = None; due = player.due; refused = player.refused } in q) → CanSettle setting old seat desk next old.slots
leave-settles setting old seat place player next desk c r d n =
    let held = parts old seat place player r in
    leaves-can setting old seat held.h player next desk gone c.ground c.order c.may r.seated held.at_desk r.within d (sym (ap (λ (q : Player). is_some q.author) n))

pub leave-steps : (setting : Setting) (old new : Position) (seat place : ℕ) (player next : Player) (desk : List Occupant) → ReadsSeat old seat place player → desk ≡ changed_at old.desk seat gone
    → next ≡ (let q : Player = record { author = None; due = player.due; refused = player.refused } in q) →
    Settles setting (changed old desk (slice_set old.players seat next) old.slots) new → (author : ℕ) → Steps setting old new (Gone author seat)
leave-steps setting old new seat place player next desk r d n settled author =
    let held = parts old seat place player r in
    leaves setting old new seat held.h player next desk held.at_desk (chair-is old seat place player r) d n settled author

-- A seat is taken back.
came-desk : (setting : Setting) (old : Position) (seat : ℕ) (join : JoinLine) (place : Placed) (desk : List Occupant) →
    CanTakeBack setting old seat join → AreSeated old.desk old.players → place ≡ placed old.desk join → desk ≡ seated old.desk join place
    → desk ≡ changed_at old.desk seat came_back
came-desk setting old seat join place desk c s p d = desk-behind old.desk desk old.players join place (places.Back seat) s c.placing p d

pub back-settles : (setting : Setting) (old : Position) (author seat place due : ℕ) (player next : Player) (join : JoinLine) (placing : Placed)
    (desk : List Occupant) → CanTakeBack setting old seat join → ReadsSeat old seat place player
    → placing ≡ placed old.desk join → desk ≡ seated old.desk join placing → next ≡ (let q : Player = record {
      author = Some author;
      due = due;
      refused = 0;
    } in q) → CanSettle setting old seat desk next old.slots
back-settles setting old author seat place due player next join placing desk c r p d n =
    let held = parts old seat place player r in
    leaves-can setting old seat held.h player next desk came_back c.ground c.order c.may r.seated held.at_desk r.within
    (came-desk setting old seat join placing desk c r.seated p d) (sym (ap (λ (q : Player). is_some q.author) n))

pub back-steps : (setting : Setting) (old new : Position) (author seat place due : ℕ) (player next : Player) (join : JoinLine) (placing : Placed)
    (desk : List Occupant) → CanTakeBack setting old seat join → ReadsSeat old seat place player
    → placing ≡ placed old.desk join → desk ≡ seated old.desk join placing → due ≡ due_on_return (now_of old) seat → next ≡ (let q : Player =
    record { author = Some author; due = due; refused = 0 } in q)
    → Settles setting (changed old desk (slice_set old.players seat next) old.slots) new → Steps setting old new (Back author seat)
back-steps setting old new author seat place due player next join placing desk c r p d e n settled =
    let held = parts old seat place player r in
    returns setting old new author seat due held.h player next desk held.at_desk (chair-is old seat place player r) (came-desk setting old seat join placing desk c r.seated p d) e n settled

-- A seat says something.
pub hear-due : (setting : Setting) (old : Position) (seat place many : ℕ) (answer : Answer) (player : Player) → CanHear setting old seat answer →
    ReadsSeat old seat place player → many ≡ length old.deeds → player.due < many
hear-due setting old seat place many answer player c r e =
    let held = parts old seat place player r in
    subst (λ (n : ℕ). player.due < n) (sym e) (due-at old seat held.h player held.at_desk (chair-is old seat place player r) c.due)

pub hear-refused : (setting : Setting) (old : Position) (seat place : ℕ) (answer : Answer) (player : Player) → CanHear setting old seat answer → ReadsSeat old seat place player → player.refused ≤ 15
hear-refused setting old seat place answer player c r =
    let held = parts old seat place player r in
    refused-at old seat held.h player held.at_desk (chair-is old seat place player r) c.order c.present

-- What the code has found of an answer: its verdict, and what it makes of the seat and the slots.
pub record Finds (setting : Setting) (old : Position) (told : List Deed) (seat place many : ℕ) (answer : Answer) (player next : Player) (v : Verdict)
    (desk : List Occupant) (slots : Four (Option Answer)) : Type 0 where
  pub can : CanHear setting old seat answer
  pub told_is : told ≡ old.deeds
  pub reads : ReadsSeat old seat place player
  pub many_is : many ≡ length old.deeds
  pub judged : v ≡ verdict player.due player.refused many (broken_rule old.rules told seat answer)
  pub on : (lines : List (List ℕ)) → next ≡ player_of (author_after v player.author) (progress_after lines v (progress_of player))
  pub desk_is : desk ≡ desk_after v old.desk seat
  pub slots_is : slots ≡ slots_after v old.slots seat answer

pub finds : (setting : Setting) (old : Position) (told : List Deed) (seat place many : ℕ) (answer : Answer) (player next : Player) (v : Verdict)
    (desk : List Occupant) (slots : Four (Option Answer)) → CanHear setting old seat answer → told ≡ old.deeds → ReadsSeat old seat place player → many ≡ length old.deeds
    → v ≡ verdict player.due player.refused many (broken_rule old.rules told seat answer)
    → ((lines : List (List ℕ)) → next ≡ player_of (author_after v player.author) (progress_after lines v (progress_of player)))
    → desk ≡ desk_after v old.desk seat → slots ≡ slots_after v old.slots seat answer → Finds setting old told seat place many answer player next v desk slots
finds setting old told seat place many answer player next v desk slots can same reads few judged on left filled = record {
  can = can;
  told_is = same;
  reads = reads;
  many_is = few;
  judged = judged;
  on = on;
  desk_is = left;
  slots_is = filled;
}

found : (setting : Setting) (old : Position) (told : List Deed) (seat place many : ℕ) (answer : Answer) (player next : Player) (v : Verdict)
    (desk : List Occupant) (slots : Four (Option Answer)) → (f : Finds setting old told seat place many answer player next v desk slots)
    → IsSaid setting old seat answer (parts old seat place player f.reads).h player next v slots
found setting old told seat place many answer player next v desk slots f =
    let held = parts old seat place player f.reads in
    record {
      at_desk = held.at_desk;
      at_chair = chair-is old seat place player f.reads;
      present = present-of old seat held player (chair-is old seat place player f.reads);
      judged =
          f.judged ∙ ap (λ (n : ℕ). verdict player.due player.refused n (broken_rule old.rules told seat answer)) f.many_is
          ∙ ap (λ (ds : List Deed). verdict player.due player.refused (length old.deeds) (broken_rule old.rules ds seat answer)) f.told_is
          ∙ ap (λ (r : Rules). verdict player.due player.refused (length old.deeds) (broken_rule r old.deeds seat answer)) f.can.ground.rules;
      on = f.on;
      filled = f.slots_is;
    }
  where
    same_some : (a b : Player) → Some a ≡ Some b → a ≡ b
    same_some a b e = cc

    present-of : (old : Position) (seat : ℕ) (held : HasParts old.desk old.players seat) (player : Player) → slice_get old.players seat ≡ Some player → held.h.present ≡ is_some player.author
    present-of old seat held player e = held.present ∙ ap (λ (q : Player). is_some q.author) (same_some held.p player (sym held.at_chair ∙ e))

pub hear-settles : (setting : Setting) (old : Position) (told : List Deed) (seat place many : ℕ) (answer : Answer) (player next : Player)
    (v : Verdict) (desk : List Occupant) (slots : Four (Option Answer)) → Finds setting old told seat place many answer player next v desk slots
    → CanSettle setting old seat desk next slots
hear-settles setting old told seat place many answer player next v desk slots f =
    hears-can setting old seat answer (parts old seat place player f.reads).h player next v desk slots f.can f.reads.seated
    (found setting old told seat place many answer player next v desk slots f) f.desk_is

pub hear-hears : (setting : Setting) (old new : Position) (told : List Deed) (seat place many : ℕ) (answer : Answer) (player next : Player)
    (v : Verdict) (desk : List Occupant) (slots : Four (Option Answer)) → Finds setting old told seat place many answer player next v desk slots
    → Settles setting (changed old desk (slice_set old.players seat next) slots) new → Hears setting old new seat answer v
hear-hears setting old new told seat place many answer player next v desk slots f settled =
    hears setting old new seat answer (parts old seat place player f.reads).h player next v desk slots (found setting old told seat place many answer player next v desk slots f) f.desk_is settled

-- The next seat is taken.
pub takes : (old : Position) (author : ℕ) (join : JoinLine) (place : Placed) (desk : List Occupant) (players : List Player) → CanTakeSeat old join →
    AreSeated old.desk old.players → place ≡ placed old.desk join → desk ≡ seated old.desk join place
    → players ≡ old.players ++ first_player author ∷ [] → TakesChair old.deeds old.desk desk old.players players author join
takes old author join place desk players c s p d a = record {
  unbegun = c.unbegun;
  seats = s;
  desk_is = desk-behind old.desk desk old.players join place (places.Sat c.seat) s c.placing p d;
  all_is = a;
}
