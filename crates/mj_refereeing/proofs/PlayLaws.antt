-- What each kind of line does to a game in play.
use Rattle.std.proofs.Common.{◌≡◌, ◌≢◌, ℕ, ◌==◌, ◌&&◌, ◌<◌, ◌≤◌, Bool, true, false, List, [], ◌∷◌, ◌++◌, length, refl, ap, sym, ◌∙◌, subst, arith, append-nil, inl, inr}
use Rattle.std.specs.Prelude.{Option, Some, None, option_map, slice_get, is_some, nat_lt, if◌then◌else◌}
use Rattle.std.specs.Option.{option_map_or}
use Rattle.std.proofs.Math.Bool.{and-false}
use Rattle.std.proofs.lemmas.Bool.{eq-eqb}
use Rattle.std.proofs.lemmas.Option.{slice_get_within}
use Rattle.std.proofs.lemmas.Bool.Decides.{nat_tests, eqb_tells}
use Rattle.mj_bytes.specs.Adds.{Adds}
use Rattle.mj_ports.specs.declared.entry.Entry.{Entry}
use Rattle.mj_ports.specs.declared.entry.Entry.TheVariants.{Sat, Back, Said, Gone, Expired}
use Rattle.mj_ports.specs.declared.sitting.JoinLine.{JoinLine}
use Rattle.mj_ports.specs.declared.sitting.SitRefused.{SitRefused}
use Rattle.mj_seating.specs.declared.desk.Placed.TheVariants as places
use Rattle.mj_deeds.specs.declared.answer.Answer.{Answer}
use Rattle.mj_deeds.specs.declared.rule.Rule.{Rule}
use Rattle.mj_wall.specs.Places.{is_wall}
use Rattle.mj_forms.specs.Lines.{error_text}
use Rattle.mj_forms.specs.AnswerForms.{answer_of, join_of}
use Rattle.mj_history.specs.After.{After, Chair, Verdict, Taken, Late, Refused, Closing, is_present}
use Rattle.mj_history.specs.Legal.{Game, may_say, can_say, is_open, can_expire}
use Rattle.mj_history.specs.Sitting.{placing, entries_of_placing}
use Rattle.mj_history.specs.Arrivals.{ArrivalForm, WallOf, form_of, Arrival, Leads, Bad, setting_of, with_entries, arrives}
use Rattle.mj_history.specs.Arrivals.{sit_arrives, say_arrives, gone_arrives, expiry_arrives, wall_arrives, behind_header}
use Rattle.mj_history.proofs.Places.{none_behind}
use Rattle.mj_core.specs.Calls.{after_of, Enters, TakesSeat, Answers, author_of_seat, may_say_at, may_expire, pending_at}
use Rattle.mj_refereeing.specs.Inner.Intake.{intake_of, told_of, told_in, greeting, greeting_again, present_in, last_lines, InPlay}
use Rattle.mj_refereeing.proofs.Placing.{sat-next, back-held}
use Rattle.mj_refereeing.proofs.Telling.{told-sat, few-sat, told-own, told-other, few-said, told-gone, told-gone_other, few-gone, same-expired, has_chair, error_of}
use Rattle.mj_refereeing.proofs.Returning.{told-back, told-back_other, few-back}

-- A line that leads on: with it the game is in play, and the seat was told so much.
abbrev pub LeadsOn : ℕ → Game → List ℕ → Arrival → Type 0
LeadsOn seat new told arrival = (arrival ≡ Leads (intake_of new)) × InPlay seat new told

-- with one entry more, or with none
leads-enters : (old new : Game) (entry : Entry Answer) → Enters old new entry → Leads (with_entries (intake_of old) (entry ∷ [])) ≡ Leads (intake_of new)
leads-enters old new entry e = rw (e.setting, e.entries)

leads-same : (old new : Game) → new ≡ old → Leads (with_entries (intake_of old) []) ≡ Leads (intake_of new)
leads-same old new h = ap (λ (entries : List (Entry Answer)). Leads (record (intake_of old) { entries = entries })) (append-nil old.entries) ∙ ap (λ (game : Game). Leads (intake_of game)) (sym h)

stays-same : (seat : ℕ) (old new : Game) (told : List ℕ) → new ≡ old → InPlay seat old told → InPlay seat new told
stays-same seat old new told h play = subst (λ (game : Game). InPlay seat game told) (sym h) play

plays-on : (seat : ℕ) (old new : Game) (entry : Entry Answer) (told more : List ℕ) → InPlay seat old told → Enters old new entry →
    length (after_of new).chairs ≤ 4 → more ≡ told_in seat (after_of new) → InPlay seat new more
plays-on seat old new entry told more play e few bytes = record {
  wall = rw e.setting play.wall;
  few = few;
  bytes = bytes;
}

-- by the form of the line that is heard
pub arrives-by : (game : Game) (line : List ℕ) (form : ArrivalForm) → form ≡ form_of line → arrives (intake_of game) line ≡ behind_header (intake_of game) form
unfolding arrives
arrives-by game line form e = ap (behind_header (intake_of game)) (sym e)

-- somebody wants a seat

pub sits-by : (old : Game) (text : List ℕ) (entries : List (Entry Answer)) → (length old.setting.walls == 0) ≡ false →
    entries_of_placing 1 (join_of text) (placing (after_of old) (join_of text)) ≡ entries →
    sit_arrives (intake_of old) text ≡ Leads (with_entries (intake_of old) entries)
unfolding sit_arrives
sits-by old text entries w e = rw (w, e)

sat-entries : (old new : Game) (join : Option JoinLine) (taken : ℕ) → placing (after_of old) join ≡ places.Sat taken → TakesSeat join old new 1 →
    (name : List ℕ) × (key : Option (List ℕ)) × (entries_of_placing 1 join (placing (after_of old) join) ≡ Sat 1 name key ∷ []) × Enters old new (Sat 1 name key)
sat-entries old new None taken h t = absurd t
sat-entries old new (Some join) taken h t = (join.name, join.key, ap (entries_of_placing 1 (Some join)) h, t)

pub sits : (seat taken : ℕ) (old new : Game) (text told more : List ℕ) → InPlay seat old told →
    (placing (after_of old) (join_of text) ≡ places.Sat taken) × TakesSeat (join_of text) old new 1 → Adds told more (greeting taken seat) →
    LeadsOn seat new more (sit_arrives (intake_of old) text)
sits seat taken old new text told more play h adds =
    let s = sat-entries old new (join_of text) taken h.0 h.1 in
    let next = sat-next (after_of old) (join_of text) taken h.0 in (
      sits-by old text (Sat 1 s.0 s.1 ∷ []) play.wall s.2 ∙ leads-enters old new (Sat 1 s.0 s.1) s.3,
      plays-on seat old new (Sat 1 s.0 s.1) told more play s.3 (few-sat 1 s.0 s.1 old new s.3 (below (length (after_of old).chairs) play.few next.1))
          (adds.is ∙ ap (λ (bytes : List ℕ). bytes ++ greeting taken seat) play.bytes ∙ ap (λ (n : ℕ). told_in seat (after_of old) ++ greeting n seat) next.0
          ∙ sym (told-sat seat 1 s.0 s.1 old new s.3)),
    )
  where
    below : (n : ℕ) → n ≤ 4 → (n == 4) ≡ false → n < 4
    below n h k = grind (arith, nat_tests)

back-entries : (now : After) (join : Option JoinLine) (seat : ℕ) → placing now join ≡ places.Back seat → entries_of_placing 1 join (placing now join) ≡ Back 1 seat ∷ []
unfolding placing
back-entries now None seat h = cc h
back-entries now (Some join) seat h = ap (entries_of_placing 1 (Some join)) h

pub returns : (seat taken : ℕ) (old new : Game) (text told more : List ℕ) → InPlay seat old told →
    (placing (after_of old) (join_of text) ≡ places.Back taken) × Enters old new (Back 1 taken) → Adds told more (greeting_again taken seat new) →
    LeadsOn seat new more (sit_arrives (intake_of old) text)
returns seat taken old new text told more play h adds =
    let held = back-held old.setting (after_of old) text taken play.few h.0 in (
      sits-by old text (Back 1 taken ∷ []) play.wall (back-entries (after_of old) (join_of text) taken h.0) ∙ leads-enters old new (Back 1 taken) h.1,
      plays-on seat old new (Back 1 taken) told more play h.1 (few-back 1 taken old new held.0 h.1 held.1 play.few)
          (adds.is ∙ ap (λ (bytes : List ℕ). bytes ++ greeting_again taken seat new) play.bytes ∙ own_or_not held.0 held.1),
    )
  where
    own_or_not : (chair : Chair) → slice_get (after_of old).chairs taken ≡ Some chair → told_in seat (after_of old) ++ greeting_again taken seat new ≡ told_in seat (after_of new)
    own_or_not chair at = elim (eqb_tells taken seat) [
      | inl p ↦ rw p.0 (sym (told-back 1 seat old new chair (subst (λ (n : ℕ). Enters old new (Back 1 n)) p.1 h.1) (subst (λ (n : ℕ). slice_get (after_of old).chairs n ≡ Some chair) p.1 at)))
      | inr p ↦ rw p.0 (append-nil (told_in seat (after_of old)) ∙ sym (told-back_other 1 taken seat old new chair p.1 h.1 at))
    ]

pub back-small : (seat taken : ℕ) (old new : Game) (text told : List ℕ) → InPlay seat old told → (placing (after_of old) (join_of text) ≡ places.Back taken) × Enters old new (Back 1 taken) → taken < 4
back-small seat taken old new text told play h =
    let held = back-held old.setting (after_of old) text taken play.few h.0 in
    below taken (length (after_of old).chairs) (slice_get_within (after_of old).chairs taken held.0 held.1) play.few
  where
    below : (n m : ℕ) → n < m → m ≤ 4 → n < 4
    below n m h k = omega arith

refused-entries : (now : After) (join : Option JoinLine) (why : SitRefused) → placing now join ≡ places.Refused why → entries_of_placing 1 join (placing now join) ≡ []
refused-entries now None why h = ap (entries_of_placing 1 None) h
refused-entries now (Some join) why h = ap (entries_of_placing 1 (Some join)) h

pub sits-refused : (seat : ℕ) (old new : Game) (text told : List ℕ) (why : SitRefused) → InPlay seat old told →
    (placing (after_of old) (join_of text) ≡ places.Refused why) × (new ≡ old) → LeadsOn seat new told (sit_arrives (intake_of old) text)
sits-refused seat old new text told why play h = (
  sits-by old text [] play.wall (refused-entries (after_of old) (join_of text) why h.0) ∙ leads-same old new h.1,
  stays-same seat old new told h.1 play,
)

-- who says a line

pub says : (game : Game) (author who : ℕ) (text : List ℕ) → author_of_seat game who ≡ Some author → can_say (after_of game) author who ≡ true →
    say_arrives (intake_of game) who text ≡ Leads (with_entries (intake_of game) (Said author who (answer_of text) ∷ []))
unfolding say_arrives
says game author who text h k = rw (h, k)

says-not : (game : Game) (author who : ℕ) (text : List ℕ) → author_of_seat game who ≡ Some author → can_say (after_of game) author who ≡ false → say_arrives (intake_of game) who text ≡ Bad
unfolding say_arrives
says-not game author who text h k = rw (h, k)

asked-alike : (now : After) (author : ℕ) (o : Option Chair) → option_map_or (λ (chair : Chair). chair.author) o None ≡ Some author →
    option_map_or (may_say now author) o false ≡ option_map_or (λ (chair : Chair). is_present chair && nat_lt chair.progress.due (length now.deeds)) o false
unfolding may_say
asked-alike now author None h = refl
asked-alike now author (Some chair) h =
    ap (λ (o : Option ℕ). option_map_or (λ by. by == author) o false && nat_lt chair.progress.due (length now.deeds)) h
    ∙ ap (λ (b : Bool). b && nat_lt chair.progress.due (length now.deeds)) (eq-eqb author author refl)
    ∙ sym (ap (λ (o : Option ℕ). is_some o && nat_lt chair.progress.due (length now.deeds)) h)

-- a seat that is present, by the author that was found
pub present-is : (o : Option ℕ) (speaker author who : ℕ) → ◌≡◌ {A = Option (ℕ × ℕ)} (Some (speaker, author)) (option_map (λ author. (who, author)) o) → (o ≡ Some author) × (speaker ≡ who)
present-is None speaker author who h = cc h
present-is (Some by) speaker author who h =
    let same : Some speaker ≡ Some who = ap (λ (o : Option (ℕ × ℕ)). option_map (λ p. p.0) o) h in
    (sym (ap (λ (o : Option (ℕ × ℕ)). option_map (λ p. p.1) o) h), cc same)

pub absent-is : (o : Option ℕ) (who : ℕ) → ◌≡◌ {A = Option (ℕ × ℕ)} None (option_map (λ author. (who, author)) o) → o ≡ None
absent-is None who h = refl
absent-is (Some by) who h = cc h

pub says-unasked : (game : Game) (author speaker who : ℕ) (text : List ℕ) → ◌≡◌ {A = Option (ℕ × ℕ)} (Some (speaker, author)) (present_in game who) →
    may_say_at game speaker ≡ false → say_arrives (intake_of game) who text ≡ Bad
says-unasked game author speaker who text p h =
    let is = present-is (author_of_seat game who) speaker author who p in
    says-not game author who text is.0
    (asked-alike (after_of game) author (slice_get (after_of game).chairs who) is.0 ∙ subst (λ (n : ℕ). may_say_at game n ≡ false) is.1 h)

pub says-absent : (game : Game) (who : ℕ) (text : List ℕ) → None ≡ present_in game who → say_arrives (intake_of game) who text ≡ Bad
unfolding say_arrives
says-absent game who text h = rw (absent-is (author_of_seat game who) who h)

pub nobody-beyond : (game : Game) (who : ℕ) → length (after_of game).chairs ≤ 4 → 4 ≤ who → author_of_seat game who ≡ None
nobody-beyond game who few beyond = rw (none_behind (after_of game).chairs who (behind (length (after_of game).chairs) few))
  where
    behind : (n : ℕ) → n ≤ 4 → n ≤ who
    behind n h = omega (arith, beyond, h)

-- the seat itself says a line: it is told what was pending, and the rule that it breaks
pub own : (author seat : ℕ) (old new : Game) (text told more : List ℕ) (verdict : Verdict) → InPlay seat old told →
    author_of_seat old seat ≡ Some author → can_say (after_of old) author seat ≡ true → Answers (answer_of text) old new author seat verdict →
    more ≡ told ++ pending_at old seat ++ error_of verdict → LeadsOn seat new more (say_arrives (intake_of old) seat text)
own author seat old new text told more verdict play h k e bytes =
    let c = has_chair (slice_get (after_of old).chairs seat) author h in (
      says old author seat text h k ∙ leads-enters old new (Said author seat (answer_of text)) e.1,
      plays-on seat old new (Said author seat (answer_of text)) told more play e.1 (few-said author seat (answer_of text) old new c.0 e.1 c.1 play.few)
          (bytes ∙ ap (λ (xs : List ℕ). xs ++ pending_at old seat ++ error_of verdict) play.bytes ∙ sym (told-own author seat (answer_of text) old new c.0 verdict e.1 c.1 c.2 e.0)),
    )

pub own-taken : (author seat : ℕ) (old new : Game) (text told more : List ℕ) → InPlay seat old told → author_of_seat old seat ≡ Some author →
    can_say (after_of old) author seat ≡ true → Answers (answer_of text) old new author seat Taken →
    Adds told more (pending_at old seat) → LeadsOn seat new more (say_arrives (intake_of old) seat text)
own-taken author seat old new text told more play h k e p = own author seat old new text told more Taken play h k e (p.is ∙ sym (append-nil (told ++ pending_at old seat)))

pub own-late : (author seat : ℕ) (old new : Game) (text told more : List ℕ) → InPlay seat old told → author_of_seat old seat ≡ Some author →
    can_say (after_of old) author seat ≡ true → Answers (answer_of text) old new author seat Late →
    Adds told more (pending_at old seat) → LeadsOn seat new more (say_arrives (intake_of old) seat text)
own-late author seat old new text told more play h k e p = own author seat old new text told more Late play h k e (p.is ∙ sym (append-nil (told ++ pending_at old seat)))

pub own-refused : (author seat : ℕ) (old new : Game) (text told more most : List ℕ) (rule : Rule) → InPlay seat old told →
    author_of_seat old seat ≡ Some author → can_say (after_of old) author seat ≡ true → Answers (answer_of text) old new author seat (Refused rule) →
    Adds told more (pending_at old seat) → Adds more most (error_text rule) → LeadsOn seat new most (say_arrives (intake_of old) seat text)
own-refused author seat old new text told more most rule play h k e p q = own author seat old new text told most (Refused rule) play h k e (q.is ∙ ap (λ (xs : List ℕ). xs ++ error_text rule) p.is)

pub own-closing : (author seat : ℕ) (old new : Game) (text told more most : List ℕ) (rule : Rule) → InPlay seat old told →
    author_of_seat old seat ≡ Some author → can_say (after_of old) author seat ≡ true → Answers (answer_of text) old new author seat (Closing rule) →
    Adds told more (pending_at old seat) → Adds more most (error_text rule) → LeadsOn seat new most (say_arrives (intake_of old) seat text)
own-closing author seat old new text told more most rule play h k e p q = own author seat old new text told most (Closing rule) play h k e (q.is ∙ ap (λ (xs : List ℕ). xs ++ error_text rule) p.is)

-- another seat says a line: the seat is told nothing
apart : (who seat : ℕ) → (who == seat) ≡ false → who ≢ seat
apart who seat h same = grind (arith, nat_tests, h, same)

pub others : (author who seat : ℕ) (old new : Game) (text told : List ℕ) (verdict : Verdict) → (who == seat) ≡ false → InPlay seat old told →
    author_of_seat old who ≡ Some author → can_say (after_of old) author who ≡ true → Answers (answer_of text) old new author who verdict →
    LeadsOn seat new told (say_arrives (intake_of old) who text)
others author who seat old new text told verdict differs play h k e =
    let c = has_chair (slice_get (after_of old).chairs who) author h in (
      says old author who text h k ∙ leads-enters old new (Said author who (answer_of text)) e.1,
      plays-on seat old new (Said author who (answer_of text)) told told play e.1 (few-said author who (answer_of text) old new c.0 e.1 c.1 play.few)
          (play.bytes ∙ sym (told-other author who seat (answer_of text) old new c.0 (apart who seat differs) e.1 c.1)),
    )

-- who leaves

pub goes : (game : Game) (author who : ℕ) → author_of_seat game who ≡ Some author → gone_arrives (intake_of game) who ≡ Leads (with_entries (intake_of game) (Gone author who ∷ []))
unfolding gone_arrives
goes game author who h = rw h

pub goes-absent : (game : Game) (who : ℕ) → None ≡ present_in game who → gone_arrives (intake_of game) who ≡ Bad
unfolding gone_arrives
goes-absent game who h = rw (absent-is (author_of_seat game who) who h)

pub goes-on : (author leaver who seat : ℕ) (old new : Game) (told more : List ℕ) → ◌≡◌ {A = Option (ℕ × ℕ)} (Some (leaver, author))
    (present_in old who) → InPlay seat old told → Enters old new (Gone author leaver) → Adds told more (last_lines leaver seat old) →
    LeadsOn seat new more (gone_arrives (intake_of old) who)
goes-on author leaver who seat old new told more p play e adds =
    let is = present-is (author_of_seat old who) leaver author who p in
    let h : author_of_seat old leaver ≡ Some author = subst (λ (n : ℕ). author_of_seat old n ≡ Some author) (sym is.1) is.0 in
    let c = has_chair (slice_get (after_of old).chairs leaver) author h in (
      ap (gone_arrives (intake_of old)) (sym is.1) ∙ goes old author leaver h ∙ leads-enters old new (Gone author leaver) e,
      plays-on seat old new (Gone author leaver) told more play e (few-gone author leaver old new c.0 e c.1 play.few)
          (adds.is ∙ ap (λ (bytes : List ℕ). bytes ++ last_lines leaver seat old) play.bytes ∙ own_or_not c.0 c.1 c.2),
    )
  where
    own_or_not : (chair : Chair) → slice_get (after_of old).chairs leaver ≡ Some chair → is_present chair ≡ true →
        told_in seat (after_of old) ++ last_lines leaver seat old ≡ told_in seat (after_of new)
    own_or_not chair at here = elim (eqb_tells leaver seat) [
      | inl p ↦ rw p.0 (sym (told-gone author seat old new chair (subst (λ (n : ℕ). Enters old new (Gone author n)) p.1 e)
          (subst (λ (n : ℕ). slice_get (after_of old).chairs n ≡ Some chair) p.1 at) here))
      | inr p ↦ rw p.0 (append-nil (told_in seat (after_of old)) ∙ sym (told-gone_other author leaver seat old new chair p.1 e at))
    ]

-- whose time runs out

pub expires-by : (old : Game) (window t1 t2 : ℕ) (b : Bool) → (length old.setting.walls == 0) ≡ false → may_expire old window t1 t2 ≡ b →
    expiry_arrives (intake_of old) window t1 t2 ≡ Leads (with_entries (intake_of old) (if b then Expired 0 window t1 t2 ∷ [] else []))
unfolding expiry_arrives
expires-by old window t1 t2 b w e = rw (w, e)

pub closes : (seat : ℕ) (old new : Game) (told : List ℕ) (window t1 t2 : ℕ) → InPlay seat old told → (may_expire old window t1 t2 ≡ true) × Enters old
    new (Expired 0 window t1 t2) → LeadsOn seat new told (expiry_arrives (intake_of old) window t1 t2)
closes seat old new told window t1 t2 play h =
    let same = same-expired 0 window t1 t2 old new h.1 in (
      expires-by old window t1 t2 true play.wall h.0 ∙ leads-enters old new (Expired 0 window t1 t2) h.1,
      plays-on seat old new (Expired 0 window t1 t2) told told play h.1 (subst (λ (chairs : List Chair). length chairs ≤ 4) (sym same) play.few)
          (play.bytes ∙ ap (λ (chairs : List Chair). option_map_or told_of (slice_get chairs seat) []) (sym same)),
    )

pub waits : (seat : ℕ) (old new : Game) (told : List ℕ) (window t1 t2 : ℕ) → InPlay seat old told → may_expire old window t1 t2 ≡ false → new ≡ old →
    LeadsOn seat new told (expiry_arrives (intake_of old) window t1 t2)
waits seat old new told window t1 t2 play h k = (
  expires-by old window t1 t2 false play.wall h ∙ leads-same old new k,
  stays-same seat old new told k play,
)

not-open : (a b c : Bool) → a ≡ false → (a && b && c) ≡ false
not-open a b c h = rw h

pub stale : (game : Game) (window t1 t2 : ℕ) → is_open (after_of game).deeds window ≡ false → may_expire game window t1 t2 ≡ false
unfolding can_expire
stale game window t1 t2 h = not-open _ _ _ h

-- a wall after the first arrival
pub wall-late : (game : Game) (tiles : List ℕ) → wall_arrives (intake_of game) tiles ≡ Bad
unfolding wall_arrives
wall-late game tiles = rw (and-false (is_wall (setting_of (intake_of game)).rules.red tiles))

pub walls-late : (game : Game) (form : ArrivalForm) (tiles : List ℕ) → WallOf tiles ≡ form → behind_header (intake_of game) form ≡ Bad
walls-late game form tiles e = subst (λ (f : ArrivalForm). behind_header (intake_of game) f ≡ Bad) e (wall-late game tiles)

pub ruleset late_walls = walls-late

pub ruleset saying = (says-unasked, says-absent)

pub ruleset leaving = goes-absent
