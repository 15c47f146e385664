-- What a seat is told when it comes back.
use Rattle.std.proofs.Common.{◌≡◌, ◌≢◌, ℕ, ◌+◌, ◌-◌, ◌≤◌, Bool, true, false, List, [], ◌∷◌, ◌++◌, length, take, refl, ap, sym, ◌∙◌, subst, arith, append-nil, append_assoc, zero, suc}
use Rattle.std.specs.Prelude.{Option, Some, None, is_some, unwrap_or, slice_get, slice_set, flat_map, if◌then◌else◌}
use Rattle.std.specs.Option.{option_map_or}
use Rattle.std.proofs.lemmas.Grind.{flat_map-append}
use Rattle.std.proofs.lemmas.List.{take-append-le}
use Rattle.mj_bytes.specs.Adds.{Adds}
use Rattle.mj_ports.specs.declared.entry.Entry.{Entry}
use Rattle.mj_ports.specs.declared.entry.Entry.TheVariants.{Back}
use Rattle.mj_deeds.specs.Four.{at_seat}
use Rattle.mj_deeds.specs.declared.answer.Answer.{Answer}
use Rattle.mj_deeds.specs.declared.deed.Deed.{Deed}
use Rattle.mj_wall.specs.declared.setting.Rules.{Rules}
use Rattle.mj_wall.specs.declared.setting.Setting.{Setting}
use Rattle.mj_forms.specs.Lines.{hello_line, replay_line}
use Rattle.mj_history.specs.After.{After, Chair, Connection, lines_for, due_on_return, told_again, after_back, own_part, next_deed, with_deed, step}
use Rattle.mj_history.specs.SeatLines.{seat_line}
use Rattle.mj_history.specs.Shown.{line_at}
use Rattle.mj_history.specs.Legal.{Game}
use Rattle.mj_history.proofs.LinesGrow.{lines_for-more, length-lines}
use Rattle.mj_history.proofs.Places.{slice_get-set_at}
use Rattle.mj_core.specs.Calls.{after_of, Enters, due_of}
use Rattle.mj_refereeing.specs.Inner.Intake.{told_of, told_in, told_again_in}
use Rattle.mj_refereeing.proofs.Telling.{told_at, set-own, set-other, set-few, after_of-enters, chairs-enters}

-- the chair of a seat that is back
back : (rules : Rules) (now : After) (author seat : ℕ) (chair : Chair) → Chair
back rules now author seat chair = record chair {
  author = Some author;
  returns = chair.returns + 1;
  place = now.entered;
  progress = record { due = due_on_return now seat; refused = 0; told = told_again (lines_for rules seat now.deeds) (due_on_return now seat) };
  earlier = chair.earlier ++ (record { place = chair.place; told = chair.progress.told }) ∷ [];
}

chairs-back : (setting : Setting) (now : After) (author seat : ℕ) (chair : Chair) → slice_get now.chairs seat ≡ Some chair →
    (own_part setting now (Back author seat)).chairs ≡ slice_set now.chairs seat (back setting.rules now author seat chair)
unfolding own_part after_back back
chairs-back setting now author seat chair e = rw e

told_before : (earlier : List Connection) (last : Connection) → flat_map (λ (c : Connection). c.told) (earlier ++ last ∷ []) ≡ flat_map (λ (c : Connection). c.told) earlier ++ last.told
told_before earlier last = flat_map-append (λ (c : Connection). c.told) earlier (last ∷ []) ∙ ap (λ (bytes : List ℕ). flat_map (λ (c : Connection). c.told) earlier ++ bytes) (append-nil last.told)

told-back-of : (rules : Rules) (now : After) (author seat : ℕ) (chair : Chair) → told_of (back rules now author seat chair) ≡ told_of chair ++
    told_again (lines_for rules seat now.deeds) (due_on_return now seat)
unfolding back
told-back-of rules now author seat chair =
    ap (λ (bytes : List ℕ). bytes ++ told_again (lines_for rules seat now.deeds) (due_on_return now seat)) (told_before chair.earlier (record { place = chair.place; told = chair.progress.told }))

-- the deeds stay where one more comes
deeds-own_part : (setting : Setting) (now : After) (author seat : ℕ) (chair : Chair) → slice_get now.chairs seat ≡ Some chair → (own_part setting now (Back author seat)).deeds ≡ now.deeds
unfolding own_part after_back
deeds-own_part setting now author seat chair e = rw e

lines-with_deed : (rules : Rules) (seat due : ℕ) (now : After) (added : Option Deed) → due ≤ length now.deeds →
    take due (lines_for rules seat (with_deed now added).deeds) ≡ take due (lines_for rules seat now.deeds)
lines-with_deed rules seat due now None few = refl
lines-with_deed rules seat due now (Some deed) few =
    ap (take due) (lines_for-more rules seat now.deeds deed)
    ∙ take-append-le due (lines_for rules seat now.deeds) (seat_line rules (now.deeds ++ deed ∷ []) seat deed ∷ []) (subst (λ (n : ℕ). due ≤ n) (sym (length-lines rules seat now.deeds)) few)

lines-step : (setting : Setting) (now : After) (entry : Entry Answer) (seat due : ℕ) → (own_part setting now entry).deeds ≡ now.deeds →
    due ≤ length now.deeds → take due (lines_for setting.rules seat (step setting now entry).deeds) ≡ take due
    (lines_for setting.rules seat now.deeds)
unfolding step
lines-step setting now entry seat due same few =
    lines-with_deed setting.rules seat due (own_part setting now entry) (next_deed setting (own_part setting now entry) entry) (subst (λ (deeds : List Deed). due ≤ length deeds) (sym same) few)
    ∙ ap (λ (deeds : List Deed). take due (lines_for setting.rules seat deeds)) same

due-few : (now : After) (seat : ℕ) → due_on_return now seat ≤ length now.deeds
due-few now seat = by_slot (is_some (at_seat now.slots seat)) (length now.deeds)
  where
    less : (n : ℕ) → n - 1 ≤ n
    less n = omega arith

    none : (n : ℕ) → n ≤ n
    none n = omega arith

    by_slot : (b : Bool) (n : ℕ) → (if b then n else n - 1) ≤ n
    by_slot true n = none n
    by_slot false n = less n

due-back : (author seat : ℕ) (old new : Game) (chair : Chair) → Enters old new (Back author seat) → slice_get (after_of old).chairs seat ≡ Some chair
    → due_of new seat ≡ due_on_return (after_of old) seat
unfolding back
due-back author seat old new chair e h =
    ap (λ (chairs : List Chair). option_map_or (λ (c : Chair). c.progress.due) (slice_get chairs seat) 0) (chairs-enters old new (Back author seat) e
    ∙ chairs-back old.setting (after_of old) author seat chair h)
    ∙ ap (λ (o : Option Chair). option_map_or (λ (c : Chair). c.progress.due) o 0) (slice_get-set_at (after_of old).chairs seat (back old.setting.rules (after_of old) author seat chair) chair h)

again-back : (author seat : ℕ) (old new : Game) (chair : Chair) → Enters old new (Back author seat) → slice_get (after_of old).chairs seat ≡ Some chair →
    told_again (lines_for old.setting.rules seat (after_of old).deeds) (due_on_return (after_of old) seat) ≡ told_again_in seat new
again-back author seat old new chair e h =
    let due : ℕ = due_on_return (after_of old) seat in
    let same : take due (lines_for old.setting.rules seat (after_of old).deeds) ≡ take due (lines_for new.setting.rules seat (after_of new).deeds) =
    sym (ap (λ (setting : Setting). take due (lines_for setting.rules seat (after_of new).deeds)) e.setting
    ∙ ap (λ (now : After). take due (lines_for old.setting.rules seat now.deeds)) (after_of-enters old new (Back author seat) e)
    ∙ lines-step old.setting (after_of old) (Back author seat) seat due (deeds-own_part old.setting (after_of old) author seat chair h) (due-few (after_of old) seat)) in
    ap (λ (lines : List (List ℕ)). hello_line ++ replay_line due ++ flat_map (λ line. line) lines) same
    ∙ ap (λ (n : ℕ). told_again (lines_for new.setting.rules seat (after_of new).deeds) n) (sym (due-back author seat old new chair e h))

pub told-back : (author seat : ℕ) (old new : Game) (chair : Chair) → Enters old new (Back author seat) → slice_get (after_of old).chairs seat ≡ Some chair →
    told_in seat (after_of new) ≡ told_in seat (after_of old) ++ told_again_in seat new
told-back author seat old new chair e h =
    ap (told_at seat) (chairs-enters old new (Back author seat) e ∙ chairs-back old.setting (after_of old) author seat chair h)
    ∙ set-own seat (after_of old).chairs chair (back old.setting.rules (after_of old) author seat chair) h
    ∙ told-back-of old.setting.rules (after_of old) author seat chair
    ∙ (λ i. option_map_or told_of (sym h i) [] ++ again-back author seat old new chair e h i)

pub told-back_other : (author who seat : ℕ) (old new : Game) (chair : Chair) → who ≢ seat → Enters old new (Back author who) →
    slice_get (after_of old).chairs who ≡ Some chair → told_in seat (after_of new) ≡ told_in seat (after_of old)
told-back_other author who seat old new chair apart e h =
    ap (told_at seat) (chairs-enters old new (Back author who) e ∙ chairs-back old.setting (after_of old) author who chair h)
    ∙ set-other who seat (after_of old).chairs (back old.setting.rules (after_of old) author who chair) apart

pub few-back : (author who : ℕ) (old new : Game) (chair : Chair) → Enters old new (Back author who) → slice_get (after_of old).chairs who ≡ Some chair
    → length (after_of old).chairs ≤ 4 → length (after_of new).chairs ≤ 4
few-back author who old new chair e h few =
    subst (λ (chairs : List Chair). length chairs ≤ 4) (sym (chairs-enters old new (Back author who) e ∙ chairs-back old.setting (after_of old) author who chair h))
    (set-few (after_of old).chairs who (back old.setting.rules (after_of old) author who chair) few)

-- the lines that are told again, one by one

at_place : (lines : List (List ℕ)) (k : ℕ) → flat_map (λ (line : List ℕ). line) (take (suc k) lines) ≡ flat_map (λ (line : List ℕ). line)
    (take k lines) ++ option_map_or (λ (line : List ℕ). line) (slice_get lines k) []
at_place [] k = nothing (suc k) k
  where
    nothing : (n m : ℕ) → flat_map (λ (line : List ℕ). line) (take n []) ≡ flat_map (λ (line : List ℕ). line) (take m []) ++ []
    nothing zero zero = refl
    nothing zero (suc m) = refl
    nothing (suc n) zero = refl
    nothing (suc n) (suc m) = refl
at_place (text ∷ texts) zero = append-nil text
at_place (text ∷ texts) (suc k) = ap (λ (bytes : List ℕ). text ++ bytes) (at_place texts k)
    ∙ sym (append_assoc text (flat_map (λ (line : List ℕ). line) (take k texts)) (option_map_or (λ (line : List ℕ). line) (slice_get texts k) []))

line-at : (o : Option (List ℕ)) → option_map_or (λ (line : List ℕ). line) o [] ≡ unwrap_or o []
line-at None = refl
line-at (Some line) = refl

-- what a seat was told that is back, as far as so many lines
abbrev pub told_to : ℕ → ℕ → ℕ → Game → List ℕ
told_to k due seat game = hello_line ++ replay_line due ++ flat_map (λ (line : List ℕ). line) (take k (lines_for game.setting.rules seat (after_of game).deeds))

pub told-line : (k due seat : ℕ) (game : Game) (old told more : List ℕ) → told ≡ old ++ told_to k due seat game →
    Adds told more (line_at game.setting.rules (after_of game).deeds seat k) → more ≡ old ++ told_to (k + 1) due seat game
told-line k due seat game old told more h adds =
    let head : List ℕ = hello_line ++ replay_line due in
    let before : List ℕ = flat_map (λ (line : List ℕ). line) (take k (lines_for game.setting.rules seat (after_of game).deeds)) in
    adds.is
    ∙ ap (λ (bytes : List ℕ). bytes ++ line_at game.setting.rules (after_of game).deeds seat k) h
    ∙ append_assoc old (head ++ before) (line_at game.setting.rules (after_of game).deeds seat k)
    ∙ ap (λ (bytes : List ℕ). old ++ bytes)
    (append_assoc head before (line_at game.setting.rules (after_of game).deeds seat k)
    ∙ ap (λ (bytes : List ℕ). head ++ (before ++ bytes)) (sym (line-at (slice_get (lines_for game.setting.rules seat (after_of game).deeds) k)))
    ∙ ap (λ (bytes : List ℕ). head ++ bytes) (sym (at_place (lines_for game.setting.rules seat (after_of game).deeds) k)))
    ∙ ap (λ (n : ℕ). old ++ told_to n due seat game) (one_more k)
  where
    one_more : (n : ℕ) → suc n ≡ n + 1
    one_more n = omega arith
