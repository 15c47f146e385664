-- The law of one world: what a game tells a seat is what a machine tells that has nothing but what the seat learns. So two
-- games that agree for a seat tell it the same.
use Rattle.std.proofs.Common.{◌≡◌, ◌≢◌, ℕ, suc, ◌<◌, ◌≤◌, ◌==◌, inl, inr, Bool, true, false, cond, List, [], ◌∷◌, ◌++◌, length, refl, ap, sym, ◌∙◌, subst, arith, append-nil}
use Rattle.std.specs.Prelude.{Option, Some, None, is_some, option_map, IsTrue, slice_get, flat_map, map, nat_lt}
use Rattle.std.specs.Option.{option_map_or}
use Rattle.std.specs.List.{list_all}
use Rattle.std.proofs.lemmas.Bool.{and_parts, ltb-true, ltb-false}
use Rattle.std.proofs.lemmas.Grind.{flat_map-append}
use Rattle.std.proofs.lemmas.List.{length-map, map-append}
use Rattle.std.proofs.lemmas.List.Folds.{flat_map-map}
use Rattle.std.proofs.lemmas.Option.{slice_get_within}
use Rattle.std.proofs.lemmas.Bool.Decides.{eqb_tells}
use Rattle.mj_ports.specs.declared.entry.Entry.{Entry}
use Rattle.mj_ports.specs.declared.entry.Entry.TheVariants.{Sat, Back, Said, Gone, Expired}
use Rattle.mj_deeds.specs.declared.four.Four.{Four}
use Rattle.mj_deeds.specs.Four.{at_seat}
use Rattle.mj_deeds.specs.declared.answer.Answer.{Answer}
use Rattle.mj_deeds.specs.declared.deed.Deed.{Deed}
use Rattle.mj_deeds.specs.declared.deed.Deed.TheVariants as deeds
use Rattle.mj_wall.specs.declared.setting.Rules.{Rules}
use Rattle.mj_wall.specs.declared.setting.Setting.{Setting}
use Rattle.mj_wall.specs.Places.{is_wall}
use Rattle.mj_rules.specs.Broken.{broken_by}
use Rattle.mj_rules.specs.View.{SeatView, view_of}
use Rattle.mj_rules.specs.Outcome.{outcome, wall_of}
use Rattle.mj_rules.proofs.Playing.{each_is_wall}
use Rattle.mj_rules.proofs.Dealing.{hand_has_thirteen}
use Rattle.mj_history.specs.After.{After, Chair, Connection, Progress, Verdict, Taken, Late, Refused, Closing, verdict, verdict_on, author_after, slots_after, progress_after}
use Rattle.mj_history.specs.After.{lines_for, told_again, is_present, after_said, after_gone, after_back, own_part, next_deed, names_of, answers_in}
use Rattle.mj_history.specs.After.{is_window_closed, with_deed, step, after_from, after, before_all, script_at, connections_at, connections, scripts_at, scripts}
use Rattle.mj_view.specs.Tokens.{token}
use Rattle.mj_secrecy.specs.Trace.{Item, own_items, seen_items, trace_from, trace, Agree}
use Rattle.mj_history.specs.Legal.{is_permitted, all_permitted, IsLegal, Game, has_wall}
use Rattle.mj_lists.proofs.Fronts.{at_end}
use Rattle.mj_deeds.proofs.Masked.{masked, all_masked}
use Rattle.mj_rules.proofs.MaskedView.{view-masked}
use Rattle.mj_secrecy.proofs.MaskedLine.{lines-masked}
use Rattle.mj_history.proofs.Places.{slice_get-append_other, slice_get-set_at, slice_get-set_other, none_behind, slot-put_at, slot-empty}
use Rattle.mj_history.proofs.Filled.{others_slot}
use Rattle.mj_secrecy.proofs.Rebuilt.{rebuilt, IsTold, DealsThirteen, Only, only_none, only_some, by_choice, outcome_is_told}
use Rattle.mj_history.proofs.Seats.{AreSeats, no_seats, step_seats, legal_seats}
use Rattle.mj_secrecy.proofs.Solo.{Part, Solo, untimed, untimed_verdict, untimed_lines, at_first, slot_after, judged, left, next_due, after_answer}
use Rattle.mj_secrecy.proofs.Solo.{after_leaving, after_return, learns_all, learns_all-append, solo_connections, told_by}

-- what decides the bytes of a seat that is held
abbrev pub part_of : Chair → Part
part_of chair = record { present = is_present chair; progress = chair.progress; earlier = map (λ (c : Connection). c.told) chair.earlier }

abbrev pub part_at : List Chair → ℕ → Option Part
part_at chairs seat = option_map part_of (slice_get chairs seat)

-- the machine is as far as the game, for the seat
pub record Matches (seat : ℕ) (now : After) (s : Solo) : Type 0 where
  pub part : part_at now.chairs seat ≡ s.part
  pub deeds : all_masked seat now.deeds ≡ s.deeds
  pub slot : at_seat now.slots seat ≡ s.slot

lines_follow : (rules : Rules) (seat : ℕ) (now : After) (s : Solo) → Matches seat now s → lines_for rules seat now.deeds ≡ lines_for (untimed rules) seat s.deeds
lines_follow rules seat now s m = untimed_lines rules seat now.deeds ∙ lines-masked (untimed rules) seat now.deeds ∙ ap (lines_for (untimed rules) seat) m.deeds

count_follows : (seat : ℕ) (now : After) (s : Solo) → Matches seat now s → length now.deeds ≡ length s.deeds
count_follows seat now s m = sym (length-map now.deeds (masked seat)) ∙ ap length m.deeds

-- the verdict on an answer follows from the deeds as the seat sees them
pub verdict_follows : (rules : Rules) (seat : ℕ) (now : After) (s : Solo) (answer : Answer) (p : Progress) → Matches seat now s →
    verdict_on rules now.deeds seat answer p ≡ verdict_on (untimed rules) s.deeds seat answer p
verdict_follows rules seat now s answer p m =
    let long = count_follows seat now s m in
    let seen : view_of now.deeds seat ≡ view_of s.deeds seat = view-masked seat now.deeds ∙ ap (λ (ds : List Deed). view_of ds seat) m.deeds in
    let broken : broken_by rules seat (view_of now.deeds seat) answer ≡ broken_by (untimed rules) seat (view_of s.deeds seat) answer =
    ap (λ (view : SeatView). broken_by rules seat view answer) seen ∙ untimed_verdict rules seat (view_of s.deeds seat) answer in
    λ i. verdict p.due p.refused (long i) (broken i)

-- what a verdict changes of the seat's part, and of its slot
judged_is : (lines : List (List ℕ)) (v : Verdict) (chair : Chair) → part_of (record chair {
  author = author_after v chair.author;
  progress = progress_after lines v chair.progress;
}) ≡ judged lines v (part_of chair)
judged_is lines Taken chair = refl
judged_is lines Late chair = refl
judged_is lines (Refused rule) chair = refl
judged_is lines (Closing rule) chair = refl

slot_is : (slots : Four (Option Answer)) (seat : ℕ) (answer : Answer) (v : Verdict) → seat < 4 → at_seat (slots_after v slots seat answer) seat ≡ slot_after v answer (at_seat slots seat)
slot_is slots seat answer Taken small = slot-put_at slots seat answer small
slot_is slots seat answer Late small = refl
slot_is slots seat answer (Refused rule) small = refl
slot_is slots seat answer (Closing rule) small = refl

-- the machine's part where the seat is held, and where it isn't
held_part : (seat : ℕ) (now : After) (s : Solo) (held : Option Chair) → slice_get now.chairs seat ≡ held → Matches seat now s → option_map part_of held ≡ s.part
held_part seat now s held at m = ap (option_map part_of) (sym at) ∙ m.part

-- what an own answer changes
said_follows : (rules : Rules) (seat : ℕ) (now : After) (s : Solo) (answer : Answer) (held : Option Chair) → seat < 4 → slice_get now.chairs seat ≡ held → Matches seat now s →
    Matches seat (option_map_or (after_said rules now seat answer) held now) (option_map_or (after_answer (untimed rules) seat s answer) s.part s)
unfolding after_said after_answer
said_follows rules seat now s answer None small at m =
    subst (λ (o : Option Part). Matches seat now (option_map_or (after_answer (untimed rules) seat s answer) o s)) (held_part seat now s None at m) m
said_follows rules seat now s answer (Some chair) small at m =
    let v = verdict_on rules now.deeds seat answer chair.progress in
    let same = verdict_follows rules seat now s answer chair.progress m in
    let lines = lines_follow rules seat now s m in
    subst (λ (o : Option Part). Matches seat (after_said rules now seat answer chair) (option_map_or (after_answer (untimed rules) seat s answer) o
    s)) (held_part seat now s (Some chair) at m) (record {
      part = ap (option_map part_of) (slice_get-set_at now.chairs seat _ chair at) ∙ ap Some (judged_is (lines_for rules seat now.deeds) v chair ∙ (λ i. judged (lines i) (same i) (part_of chair)));
      deeds = m.deeds;
      slot = slot_is now.slots seat answer v small ∙ (λ i. slot_after (same i) answer (m.slot i));
    })

-- what another's answer changes is nothing of the seat's
others_said : (rules : Rules) (seat who : ℕ) (now : After) (s : Solo) (answer : Answer) (held : Option Chair) → seat < 4 → length now.chairs ≤ 4 →
    who ≢ seat → slice_get now.chairs who ≡ held → Matches seat now s →
    Matches seat (option_map_or (after_said rules now who answer) held now) s
unfolding after_said
others_said rules seat who now s answer None small few ne at m = m
others_said rules seat who now s answer (Some chair) small few ne at m = record {
  part = ap (option_map part_of) (slice_get-set_other now.chairs who seat _ ne) ∙ m.part;
  deeds = m.deeds;
  slot = others_slot now.slots who seat answer (verdict_on rules now.deeds who answer chair.progress) (below who (length now.chairs) (slice_get_within now.chairs who chair at) few) small ne ∙ m.slot;
}
  where
    below : (who n : ℕ) → who < n → n ≤ 4 → who < 4
    below who n h k = omega arith

-- what changes where the seat leaves
left_follows : (rules : Rules) (seat : ℕ) (now : After) (s : Solo) (held : Option Chair) → slice_get now.chairs seat ≡ held → Matches seat now s →
    Matches seat (option_map_or (after_gone rules now seat) held now) (option_map_or (after_leaving (untimed rules) seat s) s.part s)
unfolding after_gone after_leaving
left_follows rules seat now s None at m = subst (λ (o : Option Part). Matches seat now (option_map_or (after_leaving (untimed rules) seat s) o s)) (held_part seat now s None at m) m
left_follows rules seat now s (Some chair) at m =
    subst (λ (o : Option Part). Matches seat (after_gone rules now seat chair) (option_map_or (after_leaving (untimed rules) seat s) o s)) (held_part seat now s (Some chair) at m) (record {
      part = ap (option_map part_of) (slice_get-set_at now.chairs seat _ chair at) ∙ ap (λ ls. Some (left ls (part_of chair))) (lines_follow rules seat now s m);
      deeds = m.deeds;
      slot = m.slot;
    })

others_left : (rules : Rules) (seat who : ℕ) (now : After) (s : Solo) (held : Option Chair) → who ≢ seat → Matches seat now s → Matches seat (option_map_or (after_gone rules now who) held now) s
unfolding after_gone
others_left rules seat who now s None ne m = m
others_left rules seat who now s (Some chair) ne m = record {
  part = ap (option_map part_of) (slice_get-set_other now.chairs who seat _ ne) ∙ m.part;
  deeds = m.deeds;
  slot = m.slot;
}

-- what changes where it comes back
told_before : (earlier : List Connection) (last : Connection) → map (λ (c : Connection). c.told) (earlier ++ last ∷ []) ≡ map (λ (c : Connection). c.told) earlier ++ last.told ∷ []
told_before earlier last = map-append (λ (c : Connection). c.told) earlier (last ∷ [])

back_follows : (rules : Rules) (seat author : ℕ) (now : After) (s : Solo) (held : Option Chair) → slice_get now.chairs seat ≡ held → Matches seat now s →
    Matches seat (option_map_or (after_back rules now author seat) held now) (option_map_or (after_return (untimed rules) seat s) s.part s)
unfolding after_back after_return
back_follows rules seat author now s None at m = subst (λ (o : Option Part). Matches seat now (option_map_or (after_return (untimed rules) seat s) o s)) (held_part seat now s None at m) m
back_follows rules seat author now s (Some chair) at m =
    let lines = lines_follow rules seat now s m in
    let long = count_follows seat now s m in
    let due : next_due (is_some (at_seat now.slots seat)) (length now.deeds) ≡ next_due (is_some s.slot) (length s.deeds) = λ i. next_due (is_some (m.slot i)) (long i) in
    let before = told_before chair.earlier (record { place = chair.place; told = chair.progress.told }) in
    subst (λ (o : Option Part). Matches seat (after_back rules now author seat chair) (option_map_or (after_return (untimed rules) seat s) o s)) (held_part seat now s (Some chair) at m) (record {
      part =
          ap (option_map part_of) (slice_get-set_at now.chairs seat _ chair at)
          ∙ (λ i. Some (record { present = true; progress = record { due = due i; refused = 0; told = told_again (lines i) (due i) }; earlier = before i }));
      deeds = m.deeds;
      slot = m.slot;
    })

others_back : (rules : Rules) (seat author who : ℕ) (now : After) (s : Solo) (held : Option Chair) → who ≢ seat → Matches seat now s →
    Matches seat (option_map_or (after_back rules now author who) held now) s
unfolding after_back
others_back rules seat author who now s None ne m = m
others_back rules seat author who now s (Some chair) ne m = record {
  part = ap (option_map part_of) (slice_get-set_other now.chairs who seat _ ne) ∙ m.part;
  deeds = m.deeds;
  slot = m.slot;
}

-- who sits down: the seat itself, where its number is that of the seats before
sat_follows : (seat author : ℕ) (name : List ℕ) (key : Option (List ℕ)) (setting : Setting) (now : After) (s : Solo) → Matches seat now s →
    Matches seat (own_part setting now (Sat author name key)) (learns_all (untimed setting.rules) seat s (own_items seat now (Sat author name key)))
unfolding own_part
sat_follows seat author name key setting now s m = elim (eqb_tells (length now.chairs) seat) [
  | inl p ↦ rw p.0 (record {
    part = ap (option_map part_of) (ap (slice_get (now.chairs ++ _ ∷ [])) (sym p.1) ∙ at_end now.chairs _);
    deeds = m.deeds;
    slot = m.slot;
  })
  | inr p ↦ rw p.0 (record {
    part = ap (option_map part_of) (slice_get-append_other now.chairs _ seat (λ e. p.1 (sym e))) ∙ m.part;
    deeds = m.deeds;
    slot = m.slot;
  })
]

-- who says a line, leaves, and comes back
said_or_not : (seat author who : ℕ) (answer : Answer) (setting : Setting) (now : After) (s : Solo) → seat < 4 → length now.chairs ≤ 4 → Matches seat now s →
    Matches seat (own_part setting now (Said author who answer)) (learns_all (untimed setting.rules) seat s (own_items seat now (Said author who answer)))
unfolding own_part
said_or_not seat author who answer setting now s small few m = elim (eqb_tells who seat) [
  | inl p ↦ rw (p.0, p.1) (said_follows setting.rules seat now s answer (slice_get now.chairs seat) small refl m)
  | inr p ↦ rw p.0 (others_said setting.rules seat who now s answer (slice_get now.chairs who) small few p.1 refl m)
]

left_or_not : (seat author who : ℕ) (setting : Setting) (now : After) (s : Solo) → Matches seat now s →
    Matches seat (own_part setting now (Gone author who)) (learns_all (untimed setting.rules) seat s (own_items seat now (Gone author who)))
unfolding own_part
left_or_not seat author who setting now s m = elim (eqb_tells who seat) [
  | inl p ↦ rw (p.0, p.1) (left_follows setting.rules seat now s (slice_get now.chairs seat) refl m)
  | inr p ↦ rw p.0 (others_left setting.rules seat who now s (slice_get now.chairs who) p.1 m)
]

back_or_not : (seat author who : ℕ) (setting : Setting) (now : After) (s : Solo) → Matches seat now s →
    Matches seat (own_part setting now (Back author who)) (learns_all (untimed setting.rules) seat s (own_items seat now (Back author who)))
unfolding own_part
back_or_not seat author who setting now s m = elim (eqb_tells who seat) [
  | inl p ↦ rw (p.0, p.1) (back_follows setting.rules seat author now s (slice_get now.chairs seat) refl m)
  | inr p ↦ rw p.0 (others_back setting.rules seat author who now s (slice_get now.chairs who) p.1 m)
]

-- what an entry changes of its own seat
own_follows : (seat : ℕ) (entry : Entry Answer) (setting : Setting) (now : After) (s : Solo) → seat < 4 → length now.chairs ≤ 4 → Matches seat now s →
    Matches seat (own_part setting now entry) (learns_all (untimed setting.rules) seat s (own_items seat now entry))
unfolding own_part
own_follows seat (Sat author name key) setting now s small few m = sat_follows seat author name key setting now s m
own_follows seat (Said author who answer) setting now s small few m = said_or_not seat author who answer setting now s small few m
own_follows seat (Back author who) setting now s small few m = back_or_not seat author who setting now s m
own_follows seat (Gone author who) setting now s small few m = left_or_not seat author who setting now s m
own_follows seat (Expired author window t1 t2) setting now s small few m = m

-- every deed that comes is told by its token and the deeds before
next_is_told : (seat : ℕ) (setting : Setting) (now : After) (entry : Entry Answer) → DealsThirteen setting.walls → Only seat now.deeds (next_deed setting now entry)
unfolding next_deed
next_is_told seat setting now entry t =
    let started : Option Deed = Some (deeds.StartGame (names_of now.chairs)) in
    let given : Four Answer = answers_in setting.rules now.deeds now.slots in
    let follows : Option Deed = outcome setting.rules setting.walls now.deeds given in
    by_choice seat now.deeds (length now.deeds == 0) (cond (length now.chairs == 4) started None) (cond (is_window_closed now entry) follows None)
    (by_choice seat now.deeds (length now.chairs == 4) started None (only_some seat now.deeds (deeds.StartGame (names_of now.chairs)) refl) (only_none seat now.deeds))
    (by_choice seat now.deeds (is_window_closed now entry) follows None (outcome_is_told seat setting.rules setting.walls now.deeds given t) (only_none seat now.deeds))

-- the deed that it adds
deed_follows : (rules : Rules) (seat : ℕ) (added : Option Deed) (now : After) (s : Solo) → ((d : Deed) → added ≡ Some d → IsTold seat now.deeds d) → Matches seat now s →
    Matches seat (with_deed now added) (learns_all rules seat s (seen_items seat added))
deed_follows rules seat None now s told m = m
deed_follows rules seat (Some d) now s told m = record {
  part = m.part;
  deeds = map-append (masked seat) now.deeds (d ∷ [])
      ∙ ap (λ (x : Deed). all_masked seat now.deeds ++ x ∷ []) (told d refl)
      ∙ (λ i. m.deeds i ++ rebuilt seat (m.deeds i) (token seat d) ∷ []);
  slot = slot-empty seat;
}

-- one entry
pub stepped_follows : (seat : ℕ) (entry : Entry Answer) (setting : Setting) (now : After) (s : Solo) → seat < 4 → length now.chairs ≤ 4 → DealsThirteen setting.walls → Matches seat now s →
    Matches seat (step setting now entry)
    (learns_all (untimed setting.rules) seat (learns_all (untimed setting.rules) seat s (own_items seat now entry)) (seen_items seat (next_deed setting (own_part setting now entry) entry)))
unfolding step Only
stepped_follows seat entry setting now s small few deals m =
    let next = deed_follows (untimed setting.rules) seat (next_deed setting (own_part setting now entry) entry) (own_part setting now entry)
    (learns_all (untimed setting.rules) seat s (own_items seat now entry)) (next_is_told seat setting (own_part setting now entry) entry deals)
    (own_follows seat entry setting now s small few m) in
    record { part = next.part; deeds = next.deeds; slot = next.slot }

-- a whole game
game_follows : (seat : ℕ) (entries : List (Entry Answer)) (setting : Setting) (now : After) (s : Solo) → seat < 4 → DealsThirteen setting.walls →
    all_permitted setting now entries ≡ true → AreSeats now.chairs → Matches seat now s →
    Matches seat (after_from setting now entries) (learns_all (untimed setting.rules) seat s (trace_from setting seat now entries))
game_follows seat [] setting now s small deals permitted seats m = m
game_follows seat (entry ∷ entries) setting now s small deals permitted seats m =
    let rules : Rules = untimed setting.rules in
    let own : List Item = own_items seat now entry in
    let seen : List Item = seen_items seat (next_deed setting (own_part setting now entry) entry) in
    let rest : List Item = trace_from setting seat (step setting now entry) entries in
    let parts = and_parts (is_permitted setting now entry) (all_permitted setting (step setting now entry) entries) permitted in
    subst (λ (t : Solo). Matches seat (after_from setting (step setting now entry) entries) t)
    (sym (learns_all-append rules seat s own (seen ++ rest) ∙ learns_all-append rules seat (learns_all rules seat s own) seen rest))
    (game_follows seat entries setting (step setting now entry) (learns_all rules seat (learns_all rules seat s own) seen) small deals parts.1
    (step_seats setting now entry parts.0 seats) (stepped_follows seat entry setting now s small seats.few deals m))

-- what the machine tells is what the game tells
connections_by : (rules : Rules) (seat : ℕ) (now : After) (s : Solo) (held : Option Chair) → slice_get now.chairs seat ≡ held → Matches seat now s →
    option_map_or (connections_at rules seat now) held [] ≡ solo_connections (untimed rules) seat s
unfolding script_at
connections_by rules seat now s None at m = ap (λ (o : Option Part). option_map_or (told_by (lines_for (untimed rules) seat s.deeds)) o []) (held_part seat now s None at m)
connections_by rules seat now s (Some chair) at m =
    ap (λ ls. told_by ls (part_of chair)) (lines_follow rules seat now s m)
    ∙ ap (λ (o : Option Part). option_map_or (told_by (lines_for (untimed rules) seat s.deeds)) o []) (held_part seat now s (Some chair) at m)

-- a seat's script is what its connections are told, one after the other
joined_at : (rules : Rules) (seat : ℕ) (now : After) (held : Option Chair) → option_map_or (scripts_at rules seat now) held [] ≡ flat_map
    (λ (bytes : List ℕ). bytes) (option_map_or (connections_at rules seat now) held [])
unfolding scripts_at
joined_at rules seat now None = refl
joined_at rules seat now (Some chair) =
    let earlier = map (λ (c : Connection). c.told) chair.earlier in
    sym (flat_map-append (λ (bytes : List ℕ). bytes) earlier (script_at rules seat now chair ∷ [])
    ∙ ap (λ (bytes : List ℕ). bytes ++ (script_at rules seat now chair ++ [])) (flat_map-map (λ (bytes : List ℕ). bytes) (λ (c : Connection). c.told) chair.earlier)
    ∙ ap (λ (bytes : List ℕ). flat_map (λ (c : Connection). c.told) chair.earlier ++ bytes) (append-nil (script_at rules seat now chair)))

pub nothing_known : (seat : ℕ) → Matches seat before_all at_first
nothing_known seat = record { part = refl; deeds = refl; slot = slot-empty seat }

-- where there is a wall, each deals thirteen tiles to each seat
pub deals_thirteen : (red : Bool) (walls : List (List ℕ)) → IsTrue (has_wall walls) → IsTrue (list_all (is_wall red) walls) → DealsThirteen walls
unfolding DealsThirteen
deals_thirteen red [] ground whole = cc
deals_thirteen red (wall ∷ walls) ground whole = λ number dealer seat. hand_has_thirteen red (wall_of (wall ∷ walls) number) dealer seat
    (each_is_wall red (wall ∷ walls) (some (length walls)) whole number)
  where
    some : (n : ℕ) → 1 ≤ suc n
    some n = omega arith

-- the machine that has learnt the trace of a game
abbrev pub learnt : ℕ → Rules → List Item → Solo
learnt seat rules items = learns_all (untimed rules) seat at_first items

-- of a legal game it is as far as the game
pub legal_game_follows : (seat : ℕ) (setting : Setting) (entries : List (Entry Answer)) → seat < 4 → IsLegal setting entries →
    Matches seat (after setting entries) (learnt seat setting.rules (trace seat setting entries))
legal_game_follows seat setting [] small legal = nothing_known seat
legal_game_follows seat setting (entry ∷ entries) small legal =
    let deals = deals_thirteen setting.rules.red setting.walls legal.ground legal.whole in
    game_follows seat (entry ∷ entries) setting before_all at_first small deals legal.permitted no_seats (nothing_known seat)

-- games that agree for a seat are learnt alike
pub learnt_alike : (seat : ℕ) (g h : Game) → Agree seat g h → learnt seat g.setting.rules (trace seat g.setting g.entries) ≡ learnt seat h.setting.rules (trace seat h.setting h.entries)
learnt_alike seat g h a = λ i. learns_all (record { limit = 0; draws = a.draws i; red = a.red i }) seat at_first (a.same i)

-- of a legal game the seat's connections are told what the machine tells that learns the game's trace
pub connections_follow : (seat : ℕ) (setting : Setting) (entries : List (Entry Answer)) → seat < 4 → IsLegal setting entries →
    connections seat setting entries ≡ solo_connections (untimed setting.rules) seat (learnt seat setting.rules (trace seat setting entries))
connections_follow seat setting entries small legal =
    connections_by setting.rules seat (after setting entries) _ (slice_get (after setting entries).chairs seat) refl (legal_game_follows seat setting entries small legal)

-- a fifth seat is never held, and so has no connection
no_connection : (seat : ℕ) (setting : Setting) (entries : List (Entry Answer)) → 4 ≤ seat → IsLegal setting entries → connections seat setting entries ≡ []
no_connection seat setting entries beyond legal =
    ap (λ (o : Option Chair). option_map_or (connections_at setting.rules seat (after setting entries)) o [])
    (none_behind (after setting entries).chairs seat (behind (length (after setting entries).chairs) (legal_seats setting entries legal).few))
  where
    behind : (n : ℕ) → n ≤ 4 → n ≤ seat
    behind n h = omega (arith, beyond, h)

-- games that agree for a seat tell each of its connections the same bytes
pub agreeing_connections : (seat : ℕ) (g h : Game) → Agree seat g h → connections seat g.setting g.entries ≡ connections seat h.setting h.entries
agreeing_connections seat g h a = by_number (nat_lt seat 4) refl
  where
    by_number : (b : Bool) → nat_lt seat 4 ≡ b → connections seat g.setting g.entries ≡ connections seat h.setting h.entries
    by_number true e =
        connections_follow seat g.setting g.entries (ltb-true seat 4 e) a.legal
        ∙ (λ i. solo_connections (record { limit = 0; draws = a.draws i; red = a.red i }) seat (learnt_alike seat g h a i))
        ∙ sym (connections_follow seat h.setting h.entries (ltb-true seat 4 e) a.other_legal)
    by_number false e = no_connection seat g.setting g.entries (ltb-false seat 4 e) a.legal ∙ sym (no_connection seat h.setting h.entries (ltb-false seat 4 e) a.other_legal)

-- and so the same script
pub agreeing_scripts : (seat : ℕ) (g h : Game) → Agree seat g h → scripts seat g.setting g.entries ≡ scripts seat h.setting h.entries
agreeing_scripts seat g h a =
    joined_at g.setting.rules seat (after g.setting g.entries) (slice_get (after g.setting g.entries).chairs seat)
    ∙ ap (flat_map (λ (bytes : List ℕ). bytes)) (agreeing_connections seat g h a)
    ∙ sym (joined_at h.setting.rules seat (after h.setting h.entries) (slice_get (after h.setting h.entries).chairs seat))
