-- What an umpire keeps is what its entries come to.
use Rattle.std.proofs.Common.{◌≡◌, ◌≢◌, ℕ, zero, suc, ◌+◌, ◌-◌, ◌<◌, ◌≤◌, ◌==◌, ◌&&◌, not, inl, inr, List, [], ◌∷◌, ◌++◌, length, map, Bool, true, false, refl, ap, ◌∙◌, sym, subst, arith}
use Rattle.std.specs.Prelude.{if◌then◌else◌, Option, Some, None, is_some, unwrap_or, option_map, slice_get, nat_lt, nat_le}
use Rattle.std.specs.Option.{option_map_or}
use Rattle.std.specs.List.{list_all, list_any}
use Rattle.std.proofs.lemmas.Bool.{and_parts, and_from, ltb-true, eq-eqb}
use Rattle.std.proofs.lemmas.Bool.Decides.{eqb_tells}
use Rattle.std.proofs.lemmas.Option.{slice_get_within, same_Some}
use Rattle.mj_ports.specs.Names.{is_name}
use Rattle.mj_ports.specs.declared.entry.Entry.{Entry}
use Rattle.mj_ports.specs.declared.entry.Entry.TheVariants.{Sat, Back, Said, Gone, Expired}
use Rattle.mj_ports.specs.declared.sitting.JoinLine.{JoinLine}
use Rattle.mj_ports.specs.declared.sitting.SitRefused.TheVariants.{Over, BadName}
use Rattle.mj_ports.specs.declared.answers.SitAnswer.TheVariants as sits
use Rattle.mj_seating.specs.declared.desk.Placed.{Placed}
use Rattle.mj_seating.specs.declared.desk.Placed.TheVariants as places
use Rattle.mj_seating.specs.Sitting.{Occupant, placed}
use Rattle.mj_deeds.specs.declared.four.Four.{Four}
use Rattle.mj_deeds.specs.declared.deed.Deed.{Deed}
use Rattle.mj_deeds.specs.declared.answer.Answer.{Answer}
use Rattle.mj_deeds.specs.Answers.{is_in_form}
use Rattle.mj_wall.specs.declared.setting.Setting.{Setting}
use Rattle.mj_wall.specs.Places.{is_wall}
use Rattle.mj_history.specs.After.{After, Chair, before_all, after, own_part, is_present, pending, lines_for, verdict_on}
use Rattle.mj_history.specs.Legal.{Game, has_name, can_sit, can_say, may_say, can_return, is_present_by, is_over, is_open, can_expire, is_permitted, all_permitted, has_wall, has_ground, IsLegal}
use Rattle.mj_history.specs.Sitting.{held_of, placing}
use Rattle.mj_forms.specs.AnswerForms.{answer_of}
use Rattle.mj_history.specs.Laws.{CanGoOn}
use Rattle.mj_history.proofs.Entries.{after-append, all_permitted-append}
use Rattle.mj_umpire.specs.Calls.{after_of, IsSitAnswer, Answers, IsHeard, verdict_at, open_window, may_say_at, pending_at, line_of, author_of_seat}
use Rattle.mj_umpire.specs.Inner.Untold.{untold_chair, untold}
use Rattle.mj_umpire.specs.Inner.Verdicts.{verdict_given, heard_by}
use Rattle.mj_umpire.specs.Inner.States.{Position, nobody, now_of, player_in, HasWalls, MayAdd, Steps, IsInOrder, IsPatientAt, is_due, is_present_in}
use Rattle.mj_umpire.specs.Inner.States.{placed_in, CanTakeSeat, CanTakeBack, CanHear, Hears, state_verdict, CanLeave, CanExpire}
use Rattle.mj_umpire.specs.Inner.Kept.{IsKept}
use Rattle.mj_umpire.specs.declared.chair.Chair.{Chair as Player}
use Rattle.mj_umpire.specs.declared.verdict.Verdict.{Verdict as Judged}
use Rattle.mj_umpire.specs.declared.verdict.Verdict.TheVariants as judged
use Rattle.mj_rules.proofs.Lengths.{few_deeds}
use Rattle.mj_rules.proofs.Playing.{each_is_wall}
use Rattle.mj_history.proofs.Fitting.{own_part_can_go_on, legal_games_are_played}
use Rattle.mj_forms.proofs.Forms.{answers_that_are_read_are_in_form}
use Rattle.mj_umpire.proofs.Laws.{sat-permitted, back-permitted}
use Rattle.mj_umpire.proofs.Same.{own_part-same, step-same, can_go_on-same, seat-same, seat_or-same, held-same, length-same}
use Rattle.mj_umpire.proofs.Order.{legal-in-order, order-same}

abbrev pub game : Setting → List (Entry Answer) → Game
game setting entries = record { setting = setting; entries = entries }

-- What the state has is what the entries come to.
pub kept-deeds : (setting : Setting) (entries : List (Entry Answer)) (state : Position) → IsKept setting entries state → state.deeds ≡ (after setting entries).deeds
kept-deeds setting entries state k = ap (λ (n : After). n.deeds) k.same

kept-slots : (setting : Setting) (entries : List (Entry Answer)) (state : Position) → IsKept setting entries state → state.slots ≡ (after setting entries).slots
kept-slots setting entries state k = ap (λ (n : After). n.slots) k.same

kept-chairs : (setting : Setting) (entries : List (Entry Answer)) (state : Position) → IsKept setting entries state →
    map untold_chair (now_of state).chairs ≡ map untold_chair (after setting entries).chairs
kept-chairs setting entries state k = ap (λ (n : After). n.chairs) k.same

pub kept-order : (setting : Setting) (entries : List (Entry Answer)) (state : Position) → IsKept setting entries state → IsInOrder (now_of state)
kept-order setting entries state k = order-same (now_of state) (after setting entries) k.same (legal-in-order setting entries k.legal)

kept-ground : (setting : Setting) (entries : List (Entry Answer)) (state : Position) → IsKept setting entries state → HasWalls setting state
kept-ground setting entries state k = record { rules = k.rules; some = k.some; few = k.legal.few; whole = k.legal.whole }

expired_own : (setting : Setting) (now : After) → own_part setting now (Expired 0 0 0 0) ≡ now
unfolding own_part
expired_own setting now = refl

kept-may : (setting : Setting) (entries : List (Entry Answer)) (state : Position) → IsKept setting entries state → MayAdd setting state.deeds state.slots
kept-may setting entries state k =
    let on : CanGoOn setting (after setting entries) = subst (CanGoOn setting) (expired_own setting (after setting entries)) (own_part_can_go_on setting entries (Expired 0 0 0 0) k.legal refl) in
    let may : MayAdd setting (after setting entries).deeds (after setting entries).slots = record { played = on.played; lawful = on.ready } in
    subst (λ (slots : Four (Option Answer)). MayAdd setting state.deeds slots) (sym (kept-slots setting entries state k))
    (subst (λ (deeds : List Deed). MayAdd setting deeds (after setting entries).slots) (sym (kept-deeds setting entries state k)) may)

-- A game stays legal with an entry that is permitted.
some-wall : (walls : List (List ℕ)) → 1 ≤ length walls → has_wall walls ≡ true
some-wall [] h = absurd (omega arith)
some-wall (wall ∷ walls) h = refl

more-ground : (walls : List (List ℕ)) (entries : List (Entry Answer)) (entry : Entry Answer) → 1 ≤ length walls → has_ground walls (entries ++ entry ∷ []) ≡ true
more-ground walls [] entry h = some-wall walls h
more-ground walls (first ∷ entries) entry h = some-wall walls h

legal-more : (setting : Setting) (entries : List (Entry Answer)) (entry : Entry Answer) → 1 ≤ length setting.walls →
    is_permitted setting (after setting entries) entry ≡ true → IsLegal setting entries → IsLegal setting (entries ++ entry ∷ [])
legal-more setting entries entry some p l = record {
  few = l.few;
  whole = l.whole;
  ground = more-ground setting.walls entries entry some;
  permitted = all_permitted-append setting before_all entries entry ∙ and_from (all_permitted setting before_all entries) _ l.permitted p;
}

-- A permitted entry is made.
pub kept-more : (setting : Setting) (entries all : List (Entry Answer)) (state next : Position) (entry : Entry Answer) →
    IsKept setting entries state → is_permitted setting (after setting entries) entry ≡ true
    → Steps setting state next entry → all ≡ entries ++ entry ∷ [] → IsKept setting all next
kept-more setting entries all state next entry k p t e =
    subst (λ (es : List (Entry Answer)). IsKept setting es next) (sym e) (record {
      legal = legal-more setting entries entry k.some p k.legal;
      some = k.some;
      rules = t.rules ∙ k.rules;
      same = t.stepped ∙ step-same setting (now_of state) (after setting entries) entry k.same ∙ ap untold (sym (after-append setting entries entry));
    })

-- A game before its first entry.
pub new-kept : (setting : Setting) (state : Position) → state ≡ nobody setting.rules → 1 ≤ length setting.walls → length setting.walls ≤ 200 →
    list_all (is_wall setting.rules.red) setting.walls ≡ true → IsKept setting [] state
new-kept setting state e some few whole =
    subst (λ (s : Position). IsKept setting [] s) (sym e) (record {
      legal = record { few = few; whole = whole; ground = refl; permitted = refl };
      some = some;
      rules = refl;
      same = refl;
    })

-- A game has few deeds.
pub kept-few : (setting : Setting) (entries : List (Entry Answer)) (state : Position) → IsKept setting entries state → length state.deeds ≤ 60002
kept-few setting entries state k =
    let few = few_deeds setting.rules setting.walls (after setting entries).deeds (each_is_wall setting.rules.red setting.walls k.some k.legal.whole)
    (legal_games_are_played setting entries k.legal) in
    subst (λ (ds : List Deed). length ds ≤ 60002) (sym (kept-deeds setting entries state k)) few.1

-- A join.
placing-over : (now : After) (join : JoinLine) → is_over now.deeds ≡ true → placing now (Some join) ≡ places.Refused Over
unfolding placing
placing-over now join h = rw h

placing-open : (now : After) (join : JoinLine) → is_over now.deeds ≡ false → placing now (Some join) ≡ placed (map held_of now.chairs) join
unfolding placing
placing-open now join h = rw h

pub placing-sat : (now : After) (join : JoinLine) (seat : ℕ) → placing now (Some join) ≡ places.Sat seat → placed (map held_of now.chairs) join ≡ places.Sat seat
unfolding placing
placing-sat now join seat h = by (is_over now.deeds) h
  where
    by : (b : Bool) → (if b then places.Refused Over else placed (map held_of now.chairs) join) ≡ places.Sat seat → placed (map held_of now.chairs) join ≡ places.Sat seat
    by true h = cc
    by false h = h

placing-back : (now : After) (join : JoinLine) (seat : ℕ) → placing now (Some join) ≡ places.Back seat → placed (map held_of now.chairs) join ≡ places.Back seat
unfolding placing
placing-back now join seat h = by (is_over now.deeds) h
  where
    by : (b : Bool) → (if b then places.Refused Over else placed (map held_of now.chairs) join) ≡ places.Back seat → placed (map held_of now.chairs) join ≡ places.Back seat
    by true h = cc
    by false h = h

kept-placed : (setting : Setting) (entries : List (Entry Answer)) (state : Position) (join : JoinLine) → IsKept setting entries state →
    placed_in (now_of state) join ≡ placed (map held_of (after setting entries).chairs) join
kept-placed setting entries state join k = ap (λ (hs : List Occupant). placed hs join) (held-same (now_of state).chairs (after setting entries).chairs (kept-chairs setting entries state k))

pub bad-name : (now : After) → placing now None ≡ places.Refused BadName
unfolding placing
bad-name now = refl

pub placed-over : (setting : Setting) (entries : List (Entry Answer)) (state : Position) (join : JoinLine) → IsKept setting entries state → is_over state.deeds ≡ true
    → places.Refused Over ≡ placing (after_of (game setting entries)) (Some join)
placed-over setting entries state join k h = sym (placing-over (after setting entries) join (ap is_over (sym (kept-deeds setting entries state k)) ∙ h))

pub placed-open : (setting : Setting) (entries : List (Entry Answer)) (state : Position) (join : JoinLine) (place : Placed) →
    IsKept setting entries state → is_over state.deeds ≡ false → place ≡ placed_in (now_of state) join
    → place ≡ placing (after_of (game setting entries)) (Some join)
placed-open setting entries state join place k h e =
    e ∙ kept-placed setting entries state join k ∙ sym (placing-open (after setting entries) join (ap is_over (sym (kept-deeds setting entries state k)) ∙ h))

pub sat-may : (setting : Setting) (entries : List (Entry Answer)) (state : Position) (author seat : ℕ) (join : JoinLine) →
    IsKept setting entries state → is_name join.name ≡ true → placing (after_of (game setting entries)) (Some join) ≡ places.Sat seat
    → is_permitted setting (after setting entries) (Sat author join.name join.key) ≡ true
sat-may setting entries state author seat join k named h = sat-permitted setting (after setting entries) author seat join (legal-in-order setting entries k.legal).few named h

unbegun : (now : After) (name : List ℕ) → IsInOrder now → can_sit now.chairs name ≡ true → (length now.deeds == 0) ≡ true
unfolding can_sit
unbegun now name o p = early (length now.deeds == 0) (length now.chairs) o.started (and_parts (nat_lt (length now.chairs) 4) (not (list_any (has_name name) now.chairs)) p).0
  where
    early : (none : Bool) (n : ℕ) → (n == 4) ≡ not none → nat_lt n 4 ≡ true → none ≡ true
    early true n e h = refl
    early false n e h = let k : n < 4 = ltb-true n 4 h in grind (arith, e)

pub sat-can : (setting : Setting) (entries : List (Entry Answer)) (state : Position) (seat : ℕ) (join : JoinLine) → IsKept setting entries state →
    is_name join.name ≡ true → placing (after_of (game setting entries)) (Some join) ≡ places.Sat seat
    → CanTakeSeat state join
sat-can setting entries state seat join k named h =
    let may = and_parts (is_name join.name) (can_sit (after setting entries).chairs join.name) (sat-may setting entries state 0 seat join k named h) in
    record {
      seat = seat;
      order = kept-order setting entries state k;
      unbegun = ap (λ (ds : List Deed). length ds == 0) (kept-deeds setting entries state k) ∙ unbegun (after setting entries) join.name (legal-in-order setting entries k.legal) may.1;
      placing = kept-placed setting entries state join k ∙ placing-sat (after setting entries) join seat h;
    }

held-by : (o : Option Chair) (test : Chair → Bool) → option_map_or test o false ≡ true → (chair : Chair) × (o ≡ Some chair)
held-by None test h = cc
held-by (Some chair) test h = (chair, refl)

within : (chairs : List Chair) (seat : ℕ) (test : Chair → Bool) → option_map_or test (slice_get chairs seat) false ≡ true → seat < length chairs
within chairs seat test h =
    let k = held-by (slice_get chairs seat) test h in
    slice_get_within chairs seat k.0 k.1

pub back-may : (setting : Setting) (entries : List (Entry Answer)) (state : Position) (author seat : ℕ) (join : JoinLine) →
    IsKept setting entries state → is_name join.name ≡ true → placing (after_of (game setting entries)) (Some join) ≡ places.Back seat
    → is_permitted setting (after setting entries) (Back author seat) ≡ true
back-may setting entries state author seat join k named h = back-permitted setting (after setting entries) author seat join (legal-in-order setting entries k.legal).few named h

pub back-can : (setting : Setting) (entries : List (Entry Answer)) (state : Position) (seat : ℕ) (join : JoinLine) → IsKept setting entries state →
    is_name join.name ≡ true → placing (after_of (game setting entries)) (Some join) ≡ places.Back seat
    → CanTakeBack setting state seat join
back-can setting entries state seat join k named h = record {
  ground = kept-ground setting entries state k;
  order = kept-order setting entries state k;
  held =
      subst (λ (n : ℕ). seat < n) (sym (length-same (now_of state).chairs (after setting entries).chairs (kept-chairs setting entries state k)))
      (within (after setting entries).chairs seat (can_return (after setting entries)) (back-may setting entries state 0 seat join k named h));
  placing = kept-placed setting entries state join k ∙ placing-back (after setting entries) join seat h;
  may = kept-may setting entries state k;
}

-- An answer.
said-due : (now : After) (author : ℕ) (o : Option Chair) → option_map_or (may_say now author) o false ≡ true →
    option_map_or (λ (chair : Chair). nat_lt chair.progress.due (length now.deeds)) o false ≡ true
unfolding may_say
said-due now author None h = cc
said-due now author (Some chair) h = (and_parts (is_present_by author chair) (nat_lt chair.progress.due (length now.deeds)) h).1

by-author : (author : ℕ) (o : Option ℕ) → option_map_or (λ by. by == author) o false ≡ true → is_some o ≡ true
by-author author None h = cc
by-author author (Some by) h = refl

here-present : (author : ℕ) (o : Option Chair) → option_map_or (is_present_by author) o false ≡ true → option_map_or is_present o false ≡ true
here-present author None h = cc
here-present author (Some chair) h = by-author author chair.author h

said-here : (now : After) (author : ℕ) (o : Option Chair) → option_map_or (may_say now author) o false ≡ true → option_map_or (is_present_by author) o false ≡ true
unfolding may_say
said-here now author None h = cc
said-here now author (Some chair) h = (and_parts (is_present_by author chair) (nat_lt chair.progress.due (length now.deeds)) h).0

kept-due : (setting : Setting) (entries : List (Entry Answer)) (state : Position) (seat : ℕ) → IsKept setting entries state
    → is_due (now_of state) seat ≡ option_map_or (λ (chair : Chair). nat_lt chair.progress.due (length (after setting entries).deeds)) (slice_get (after setting entries).chairs seat) false
kept-due setting entries state seat k =
    ap (λ (deeds : List Deed). option_map_or (λ (chair : Chair). nat_lt chair.progress.due (length deeds)) (slice_get (now_of state).chairs seat) false) (kept-deeds setting entries state k)
    ∙ seat_or-same (λ (chair : Chair). nat_lt chair.progress.due (length (after setting entries).deeds)) (λ chair. refl) false (now_of state).chairs
    (after setting entries).chairs seat (kept-chairs setting entries state k)

kept-present : (setting : Setting) (entries : List (Entry Answer)) (state : Position) (author seat : ℕ) → IsKept setting entries state →
    option_map_or (is_present_by author) (slice_get (after setting entries).chairs seat) false ≡ true
    → is_present_in (now_of state) seat ≡ true
kept-present setting entries state author seat k h =
    seat_or-same is_present (λ chair. refl) false (now_of state).chairs (after setting entries).chairs seat (kept-chairs setting entries state k)
    ∙ here-present author (slice_get (after setting entries).chairs seat) h

pub heard-form : (text : List ℕ) (answer : Answer) → answer ≡ answer_of text → is_in_form answer ≡ true
heard-form text answer e = subst (λ (said : Answer). is_in_form said ≡ true) (sym e) (answers_that_are_read_are_in_form text)

pub hear-can : (setting : Setting) (entries : List (Entry Answer)) (state : Position) (author seat : ℕ) (answer : Answer) →
    IsKept setting entries state → can_say (after_of (game setting entries)) author seat ≡ true → is_in_form answer ≡ true
    → CanHear setting state seat answer
hear-can setting entries state author seat answer k may form = record {
  ground = kept-ground setting entries state k;
  order = kept-order setting entries state k;
  due = kept-due setting entries state seat k ∙ said-due (after setting entries) author (slice_get (after setting entries).chairs seat) may;
  present = kept-present setting entries state author seat k (said-here (after setting entries) author (slice_get (after setting entries).chairs seat) may);
  going = λ by. can_go_on-same setting _ _ (own_part-same setting (now_of state) (after setting entries) (Said by seat answer) k.same)
      (own_part_can_go_on setting entries (Said by seat answer) k.legal form);
}

pub said-may : (setting : Setting) (now : After) (author seat : ℕ) (answer : Answer) → can_say now author seat ≡ true → is_in_form answer ≡ true →
    is_permitted setting now (Said author seat answer) ≡ true
said-may setting now author seat answer may form = and_from (is_in_form answer) (can_say now author seat) form may

kept-verdict : (setting : Setting) (entries : List (Entry Answer)) (state : Position) (seat : ℕ) (answer : Answer) → IsKept setting entries state →
    state_verdict setting.rules (now_of state) seat answer ≡ verdict_at (game setting entries) seat answer
kept-verdict setting entries state seat answer k =
    ap (λ (deeds : List Deed). option_map (λ (chair : Chair). verdict_on setting.rules deeds seat answer chair.progress) (slice_get (now_of state).chairs seat)) (kept-deeds setting entries state k)
    ∙ seat-same (λ (chair : Chair). verdict_on setting.rules (after setting entries).deeds seat answer chair.progress) (λ chair. refl)
    (now_of state).chairs (after setting entries).chairs seat (kept-chairs setting entries state k)

pub hear-entered : (setting : Setting) (entries all : List (Entry Answer)) (state next : Position) (author seat : ℕ) (answer : Answer) (verdict : Judged) → IsKept setting entries state
    → Hears setting state next seat answer (verdict_given verdict) → all ≡ entries ++ Said author seat answer ∷ [] →
    IsHeard (heard_by verdict) (game setting entries) (game setting all) author seat answer
hear-entered setting entries all state next author seat answer verdict k t e =
    by verdict (sym (kept-verdict setting entries state seat answer k) ∙ t.judged, record { setting = refl; entries = e })
  where
    by : (v : Judged) → Answers answer (game setting entries) (game setting all) author seat (verdict_given v) → IsHeard (heard_by v) (game setting entries) (game setting all) author seat answer
    by judged.Taken h = h
    by judged.Late h = h
    by (judged.Refused rule) h = h
    by (judged.Closing rule) h = h

-- A seat leaves.
pub gone-can : (setting : Setting) (entries : List (Entry Answer)) (state : Position) (author seat : ℕ) → IsKept setting entries state →
    is_permitted setting (after setting entries) (Gone author seat) ≡ true → CanLeave setting state seat
gone-can setting entries state author seat k h = record {
  ground = kept-ground setting entries state k;
  order = kept-order setting entries state k;
  present = kept-present setting entries state author seat k h;
  may = kept-may setting entries state k;
}

-- A window runs out.
window-open : (deeds : List Deed) (window : ℕ) → is_open deeds window ≡ true → is_some (open_window deeds) ≡ true
window-open deeds window h = by (length deeds == 0) (is_over deeds) (window + 1 == length deeds) (length deeds - 1) h
  where
    by : (none over same : Bool) (n : ℕ) → (not none && not over && same) ≡ true → is_some (if not none && not over then Some n else None) ≡ true
    by true over same n k = cc
    by false true same n k = cc
    by false false same n k = refl

pub expire-open : (limit : ℕ) (deeds : List Deed) (window t1 t2 : ℕ) → can_expire limit deeds window t1 t2 ≡ true → is_open deeds window ≡ true
unfolding can_expire
expire-open limit deeds window t1 t2 h = (and_parts (is_open deeds window) (nat_le t1 t2) (and_parts (is_open deeds window && nat_le t1 t2) (nat_le limit (t2 - t1)) h).0).0

pub expire-can : (setting : Setting) (entries : List (Entry Answer)) (state : Position) (author window t1 t2 : ℕ) → IsKept setting entries state →
    is_permitted setting (after setting entries) (Expired author window t1 t2) ≡ true → CanExpire setting state
expire-can setting entries state author window t1 t2 k h = record {
  ground = kept-ground setting entries state k;
  window =
      ap (λ (ds : List Deed). is_some (open_window ds)) (kept-deeds setting entries state k)
      ∙ window-open (after setting entries).deeds window (expire-open setting.rules.limit (after setting entries).deeds window t1 t2 h);
  may = kept-may setting entries state k;
}

-- Another window than the open one is stale.
pub stale : (deeds : List Deed) (window : ℕ) → (open_window deeds ≡ Some window → ⊥) → is_open deeds window ≡ false
stale deeds window h = by (length deeds == 0) (is_over deeds) h
  where
    back : (l w : ℕ) → w + 1 ≡ l → l - 1 ≡ w
    back l w e = omega arith

    other : (Some (length deeds - 1) ≡ Some window → ⊥) → (window + 1 == length deeds) ≡ false
    other ne = elim (eqb_tells (window + 1) (length deeds)) [
      | inl p ↦ absurd (ne (ap Some (back (length deeds) window p.1)))
      | inr p ↦ p.0
    ]

    by : (none over : Bool) → ((if not none && not over then Some (length deeds - 1) else None) ≡ Some window → ⊥) → (not none && not over && window + 1 == length deeds) ≡ false
    by true over ne = refl
    by false true ne = refl
    by false false ne = other ne

pub is_the_open : (deeds : List Deed) (window : ℕ) → open_window deeds ≡ Some window → is_open deeds window ≡ true
is_the_open deeds window h = elim (eqb_tells (length deeds) 0) [
  | inl p ↦ none (length deeds == 0) (is_over deeds) (length deeds - 1) p.0 h
  | inr p ↦ by (length deeds == 0) (is_over deeds) p.0 (λ e. same (length deeds) window p.1 e) h
]
  where
    none : (b over : Bool) (n : ℕ) → b ≡ true → (if not b && not over then Some n else None) ≡ Some window → is_open deeds window ≡ true
    none true over n e k = cc
    none false over n e k = cc

    same : (l w : ℕ) → l ≢ 0 → l - 1 ≡ w → (w + 1 == l) ≡ true
    same l w ne e = elim (eqb_tells (w + 1) l) [ inl p ↦ p.0 | inr p ↦ absurd (p.1 (forth l w ne e)) ]
      where
        forth : (l w : ℕ) → l ≢ 0 → l - 1 ≡ w → w + 1 ≡ l
        forth zero w ne e = absurd (ne refl)
        forth (suc l) w ne e = omega arith

    by : (b over : Bool) → b ≡ false → (length deeds - 1 ≡ window → (window + 1 == length deeds) ≡ true) → (if not b && not over then Some (length deeds - 1) else None) ≡ Some window
        → (not b && not over && window + 1 == length deeds) ≡ true
    by true over e s k = cc
    by false true e s k = cc
    by false false e s k = s (same_Some (length deeds - 1) window k)

pub too-early : (limit : ℕ) (deeds : List Deed) (window t1 t2 : ℕ) → (t2 < t1) → can_expire limit deeds window t1 t2 ≡ false
unfolding can_expire
too-early limit deeds window t1 t2 h = by (is_open deeds window) (nat_le t1 t2) (nat_le limit (t2 - t1)) (after_it t1 t2 h)
  where
    after_it : (t1 t2 : ℕ) → t2 < t1 → nat_le t1 t2 ≡ false
    after_it t1 t2 h = grind (arith, h)

    by : (a b c : Bool) → b ≡ false → (a && b && c) ≡ false
    by true b c e = rw e
    by false b c e = refl

pub too-short : (limit : ℕ) (deeds : List Deed) (window t1 t2 : ℕ) → (t2 - t1 < limit) → can_expire limit deeds window t1 t2 ≡ false
unfolding can_expire
too-short limit deeds window t1 t2 h = by (is_open deeds window) (nat_le t1 t2) (nat_le limit (t2 - t1)) (less limit (t2 - t1) h)
  where
    less : (l d : ℕ) → d < l → nat_le l d ≡ false
    less l d h = grind (arith, h)

    by : (a b c : Bool) → c ≡ false → (a && b && c) ≡ false
    by true true c e = e
    by true false c e = refl
    by false b c e = refl

pub run-out : (limit : ℕ) (deeds : List Deed) (window t1 t2 : ℕ) → is_open deeds window ≡ true → t1 ≤ t2 → limit ≤ t2 - t1 → can_expire limit deeds window t1 t2 ≡ true
unfolding can_expire
run-out limit deeds window t1 t2 o h l = and_from (is_open deeds window && nat_le t1 t2) _ (and_from (is_open deeds window) _ o (no_more t1 t2 h)) (no_more limit (t2 - t1) l)
  where
    no_more : (a b : ℕ) → a ≤ b → nat_le a b ≡ true
    no_more a b h = grind (arith, h)

-- What is read of a seat.
read-some : {A : Type 0} (f : Player → A) (d : A) (o : Option Chair) (held : Player) → Some held ≡ option_map player_in o → option_map_or (λ (chair : Chair). f (player_in chair)) o d ≡ f held
read-some f d None held e = cc
read-some f d (Some chair) held e = ap f (sym (same_Some held (player_in chair) e))

read-none : {A : Type 0} (f : Player → A) (d : A) (o : Option Chair) → None ≡ option_map player_in o → option_map_or (λ (chair : Chair). f (player_in chair)) o d ≡ d
read-none f d None e = refl
read-none f d (Some chair) e = cc

pub reads-some : {A : Type 0} (f : Player → A) (d : A) (setting : Setting) (entries : List (Entry Answer)) (state : Position) (seat : ℕ) (held : Player) → IsKept setting entries state
    → Some held ≡ option_map player_in (slice_get (now_of state).chairs seat) → f held ≡ option_map_or (λ (chair : Chair). f (player_in chair)) (slice_get (after setting entries).chairs seat) d
reads-some f d setting entries state seat held k e =
    sym (read-some f d (slice_get (now_of state).chairs seat) held e)
    ∙ seat_or-same (λ (chair : Chair). f (player_in chair)) (λ chair. refl) d (now_of state).chairs (after setting entries).chairs seat (kept-chairs setting entries state k)

pub reads-none : {A : Type 0} (f : Player → A) (d : A) (setting : Setting) (entries : List (Entry Answer)) (state : Position) (seat : ℕ) → IsKept setting entries state
    → None ≡ option_map player_in (slice_get (now_of state).chairs seat) → d ≡ option_map_or (λ (chair : Chair). f (player_in chair)) (slice_get (after setting entries).chairs seat) d
reads-none f d setting entries state seat k e =
    sym (read-none f d (slice_get (now_of state).chairs seat) e)
    ∙ seat_or-same (λ (chair : Chair). f (player_in chair)) (λ chair. refl) d (now_of state).chairs (after setting entries).chairs seat (kept-chairs setting entries state k)

-- What is pending for a seat.
abbrev pending_by : List (List ℕ) → Player → List ℕ
pending_by lines p = if is_some p.author then (if p.refused == 0 then unwrap_or (slice_get lines p.due) [] else []) else []

pending_at-by : (game : Game) (seat : ℕ) → pending_at game seat ≡ option_map_or
    (λ (chair : Chair). pending_by (lines_for game.setting.rules seat (after_of game).deeds) (player_in chair))
    (slice_get (after_of game).chairs seat) []
unfolding pending
pending_at-by game seat = refl

pub pending-some : (setting : Setting) (entries : List (Entry Answer)) (state : Position) (seat : ℕ) (held : Player) → IsKept setting entries state →
    Some held ≡ option_map player_in (slice_get (now_of state).chairs seat) → is_some held.author ≡ true
    → (held.refused == 0) ≡ true → pending_at (game setting entries) seat ≡ line_of (game setting entries) seat held.due
pending-some setting entries state seat held k e a r =
    let lines : List (List ℕ) = lines_for setting.rules seat (after setting entries).deeds in
    pending_at-by (game setting entries) seat ∙ sym (reads-some (pending_by lines) [] setting entries state seat held k e)
    ∙ ap (λ (b : Bool). if b then (if held.refused == 0 then unwrap_or (slice_get lines held.due) [] else []) else []) a
    ∙ ap (λ (b : Bool). if b then unwrap_or (slice_get lines held.due) [] else []) r

pub pending-stale : (setting : Setting) (entries : List (Entry Answer)) (state : Position) (seat : ℕ) (held : Player) → IsKept setting entries state →
    Some held ≡ option_map player_in (slice_get (now_of state).chairs seat)
    → (is_some held.author && held.refused == 0) ≡ false → pending_at (game setting entries) seat ≡ []
pending-stale setting entries state seat held k e h =
    let lines : List (List ℕ) = lines_for setting.rules seat (after setting entries).deeds in
    pending_at-by (game setting entries) seat ∙ sym (reads-some (pending_by lines) [] setting entries state seat held k e)
    ∙ by (is_some held.author) (held.refused == 0) (unwrap_or (slice_get lines held.due) []) h
  where
    by : (a r : Bool) (told : List ℕ) → (a && r) ≡ false → (if a then (if r then told else []) else []) ≡ []
    by true true told e = cc
    by true false told e = refl
    by false r told e = refl

pub pending-none : (setting : Setting) (entries : List (Entry Answer)) (state : Position) (seat : ℕ) → IsKept setting entries state →
    None ≡ option_map player_in (slice_get (now_of state).chairs seat) → pending_at (game setting entries) seat ≡ []
pending-none setting entries state seat k e = pending_at-by (game setting entries) seat
    ∙ sym (reads-none (pending_by (lines_for setting.rules seat (after setting entries).deeds)) [] setting entries state seat k e)

-- What was entered.
pub sat-entered : (setting : Setting) (entries all : List (Entry Answer)) (author seat : ℕ) (join : JoinLine) →
    placing (after_of (game setting entries)) (Some join) ≡ places.Sat seat → all ≡ entries ++ Sat author join.name join.key ∷ []
    → IsSitAnswer (sits.Sat seat) (game setting entries) (game setting all) author (Some join)
sat-entered setting entries all author seat join h e = (h, record { setting = refl; entries = e })

pub back-entered : (setting : Setting) (entries all : List (Entry Answer)) (author seat : ℕ) (join : JoinLine) →
    placing (after_of (game setting entries)) (Some join) ≡ places.Back seat → all ≡ entries ++ Back author seat ∷ []
    → IsSitAnswer (sits.Back seat) (game setting entries) (game setting all) author (Some join)
back-entered setting entries all author seat join h e = (h, record { setting = refl; entries = e })

-- A seat that is held is one of the four.
some-held : (o : Option Chair) (held : Player) → Some held ≡ option_map player_in o → (chair : Chair) × (o ≡ Some chair)
some-held None held e = cc
some-held (Some chair) held e = (chair, refl)

pub held-small : (setting : Setting) (entries : List (Entry Answer)) (state : Position) (seat : ℕ) (held : Player) → IsKept setting entries state →
    Some held ≡ option_map player_in (slice_get (now_of state).chairs seat) → seat < 4
held-small setting entries state seat held k e =
    let few : length (now_of state).chairs ≤ 4 = (kept-order setting entries state k).few in
    let chair : (chair : Chair) × (slice_get (now_of state).chairs seat ≡ Some chair) = some-held (slice_get (now_of state).chairs seat) held e in
    let within : seat < length (now_of state).chairs = slice_get_within (now_of state).chairs seat chair.0 chair.1 in
    omega (arith, few, within)

-- A seat's due deed is one of the deeds or the next one.
due-few : (o : Option Chair) (deeds : List Deed) (held : Player) → IsPatientAt deeds o → Some held ≡ option_map player_in o → held.due ≤ length deeds
due-few None deeds held p e = cc
due-few (Some chair) deeds held p e = subst (λ (n : ℕ). n ≤ length deeds) (sym (ap (λ (q : Player). q.due) (same_Some held (player_in chair) e))) p.due

pub due-small : (setting : Setting) (entries : List (Entry Answer)) (state : Position) (seat : ℕ) (held : Player) → IsKept setting entries state →
    Some held ≡ option_map player_in (slice_get (now_of state).chairs seat) → held.due ≤ 60002
due-small setting entries state seat held k e =
    let few : length state.deeds ≤ 60002 = kept-few setting entries state k in
    let due : held.due ≤ length state.deeds = due-few (slice_get (now_of state).chairs seat) state.deeds held ((kept-order setting entries state k).patient seat) e in
    omega arith

-- A seat that may say something, by the author by whom it is present.
asked-by : (now : After) (author : ℕ) (o : Option Chair) → option_map_or (λ (chair : Chair). is_present chair && nat_lt chair.progress.due
    (length now.deeds)) o false ≡ true → option_map_or (λ (chair : Chair). chair.author) o None ≡ Some author
    → option_map_or (may_say now author) o false ≡ true
unfolding may_say
asked-by now author None h a = cc
asked-by now author (Some chair) h a =
    and_from (is_present_by author chair) (nat_lt chair.progress.due (length now.deeds))
    (ap (λ (o : Option ℕ). option_map_or (λ by. by == author) o false) a ∙ eq-eqb author author refl)
    (and_parts (is_present chair) (nat_lt chair.progress.due (length now.deeds)) h).1

pub asked-can : (game : Game) (author seat : ℕ) → may_say_at game seat ≡ true → author_of_seat game seat ≡ Some author → can_say (after_of game) author seat ≡ true
asked-can game author seat h a = asked-by (after_of game) author (slice_get (after_of game).chairs seat) h a
