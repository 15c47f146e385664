-- A game that is read off an input is legal.
use Rattle.std.specs.Prelude.{◌≡◌, ℕ, ◌+◌, ◌<◌, ◌≤◌, ◌==◌, ◌&&◌, ◌||◌, not, Bool, true, false, nat_lt, nat_le, if◌then◌else◌, List, [], ◌∷◌}
use Rattle.std.specs.Prelude.{◌++◌, length, map, codes, bytes_eq, Option, Some, None, is_some, option_and_then, option_map, slice_get}
use Rattle.std.specs.Option.{option_map_or}
use Rattle.std.specs.List.{list_all, list_any}
use Rattle.std.proofs.Common.{suc, refl, ap, ◌∙◌, sym, subst, arith, append-nil}
use Rattle.std.proofs.lemmas.Bool.{ltb-true, lt-ltb, leb-false, eq-eqb, eqb-false, not-true}
use Rattle.std.proofs.lemmas.List.{length-append}
use Rattle.std.proofs.lemmas.List.Folds.{list_all-append}
use Rattle.serde_json.specs.Data.{Data}
use Rattle.mj_bytes.specs.Parts.{whole_lines, unfinished}
use Rattle.mj_ports.specs.Names.{is_name}
use Rattle.mj_ports.specs.declared.entry.Entry.{Entry}
use Rattle.mj_ports.specs.declared.entry.Entry.TheVariants.{Said, Gone, Expired}
use Rattle.mj_ports.specs.declared.sitting.JoinLine.{JoinLine}
use Rattle.mj_ports.specs.declared.sitting.SitRefused.TheVariants.{Full, NameTaken, WrongKey, TooOften, Over}
use Rattle.mj_seating.specs.declared.desk.Placed.{Placed}
use Rattle.mj_seating.specs.declared.desk.Placed.TheVariants as places
use Rattle.mj_seating.specs.Sitting.{is_key, back, at_held, placed_from, placed}
use Rattle.mj_deeds.specs.declared.answer.Answer.{Answer}
use Rattle.mj_deeds.specs.Answers.{is_in_form}
use Rattle.mj_wall.specs.declared.setting.Rules.{Rules}
use Rattle.mj_wall.specs.declared.setting.Setting.{Setting}
use Rattle.mj_wall.specs.Places.{is_wall}
use Rattle.mj_forms.specs.AnswerForms.{answer_of, join_of, join_in, name_of, text_in, value_of}
use Rattle.mj_history.specs.After.{After, Chair, before_all, after, is_present}
use Rattle.mj_history.specs.Legal.{has_name, is_over, can_sit, can_return, is_present_by, can_say, can_expire, is_permitted, all_permitted, has_wall, has_ground, IsLegal}
use Rattle.mj_history.specs.Sitting.{held_of, placing, entries_of_placing, author_at}
use Rattle.mj_history.specs.Arrivals.{ArrivalForm, Header, WallOf, Sit, Say, Leave, Expire, NoForm, form_of, Intake, setting_of, now_of, Arrival}
use Rattle.mj_history.specs.Arrivals.{Leads, Bad, header_arrives, wall_arrives, with_entries, sit_arrives, say_arrives, gone_arrives, expiry_arrives}
use Rattle.mj_history.specs.Arrivals.{behind_header, first_line, arrives, Input, at_end, intake_on, intake_from, nothing_read, input_of}
use Rattle.mj_history.proofs.Places.{no_length}
use Rattle.mj_history.proofs.Entries.{all_permitted-append}
use Rattle.mj_history.proofs.Seats.{legal_seats}
use Rattle.mj_forms.proofs.Forms.{answers_that_are_read_are_in_form}

-- What holds of a reading at each line: its game is legal, before an arrival there is no entry, and before a header there is
-- nothing.
record IsSound (reading : Intake) : Type 0 where
  legal : IsLegal (setting_of reading) reading.entries
  fresh : reading.begun ≡ false → (length reading.entries == 0) ≡ true
  bare : is_some reading.rules ≡ false → reading ≡ nothing_read

-- Where a line leads on, it leads to such a reading.
abbrev LeadsSoundly : Arrival → Type 0
LeadsSoundly (Leads next) = IsSound next
LeadsSoundly Bad = Unit {0}

by_test : (b : Bool) (x y : Arrival) → (b ≡ true → LeadsSoundly x) → (b ≡ false → LeadsSoundly y) → LeadsSoundly (if b then x else y)
by_test true x y f g = f refl
by_test false x y f g = g refl

by_option : {A : Type 0} (o : Option A) (f : A → Arrival) (d : Arrival) → ((x : A) → o ≡ Some x → LeadsSoundly (f x)) → LeadsSoundly d → LeadsSoundly (option_map_or f o d)
by_option None f d g h = h
by_option (Some x) f d g h = g x refl

both : (a b : Bool) → (a && b) ≡ true → (a ≡ true) × (b ≡ true)
both true b h = (refl, h)
both false b h = (cc, cc)

and : (a b : Bool) → a ≡ true → b ≡ true → (a && b) ≡ true
and true b h k = k
and false b h k = h

legal_at_start : (setting : Setting) (entries : List (Entry Answer)) → (length entries == 0) ≡ true → length setting.walls ≤ 200 →
    list_all (is_wall setting.rules.red) setting.walls ≡ true → IsLegal setting entries
legal_at_start setting [] e few whole = record { few = few; whole = whole; ground = refl; permitted = refl }
legal_at_start setting (entry ∷ entries) e few whole = absurd (no_length entry entries e)

header-sound : (rules : Rules) → LeadsSoundly (header_arrives nothing_read rules)
unfolding header_arrives
header-sound rules = record {
  legal = legal_at_start _ [] refl (omega arith) refl;
  fresh = λ h. refl;
  bare = λ h. cc;
}

-- One wall more.
few_more : (walls : List (List ℕ)) (wall : List ℕ) → nat_lt (length walls) 200 ≡ true → length (walls ++ wall ∷ []) ≤ 200
few_more walls wall h = subst (λ (n : ℕ). n ≤ 200) (sym (length-append walls (wall ∷ []))) (below (length walls) (ltb-true (length walls) 200 h))
  where
    below : (n : ℕ) → n < 200 → n + 1 ≤ 200
    below n h = omega arith

whole_more : (red : Bool) (walls : List (List ℕ)) (wall : List ℕ) → list_all (is_wall red) walls ≡ true → is_wall red wall ≡ true → list_all (is_wall red) (walls ++ wall ∷ []) ≡ true
whole_more red walls wall h k = list_all-append (is_wall red) walls (wall ∷ []) ∙ and (list_all (is_wall red) walls) _ h (and (is_wall red wall) true k refl)

wall-sound : (reading : Intake) (tiles : List ℕ) → IsSound reading → is_some reading.rules ≡ true → LeadsSoundly (wall_arrives reading tiles)
unfolding wall_arrives
wall-sound reading tiles sound headed =
    let red = (setting_of reading).rules.red in
    by_test (is_wall red tiles && not reading.begun && nat_lt (length reading.walls) 200) _ Bad
    (λ h. let parts = both (is_wall red tiles && not reading.begun) (nat_lt (length reading.walls) 200) h in
    let first = both (is_wall red tiles) (not reading.begun) parts.0 in
    record {
      legal = legal_at_start _ reading.entries (sound.fresh (not-true reading.begun first.1)) (few_more reading.walls tiles parts.1)
          (whole_more red reading.walls tiles sound.legal.whole first.0);
      fresh = sound.fresh;
      bare = λ k. cc;
    })
    (λ _. tt)

-- Entries that may be added: none, or one that is permitted.
abbrev pub MayAdd : Setting → After → List (Entry Answer) → Type 0
MayAdd setting now [] = Unit {0}
MayAdd setting now (entry ∷ []) = is_permitted setting now entry ≡ true
MayAdd setting now (entry ∷ other ∷ entries) = ⊥

ground-more : (walls : List (List ℕ)) (entries more : List (Entry Answer)) → has_wall walls ≡ true → has_ground walls (entries ++ more) ≡ true
ground-more walls [] [] h = refl
ground-more walls [] (entry ∷ more) h = h
ground-more walls (e ∷ entries) more h = h

permitted-more : (setting : Setting) (entries more : List (Entry Answer)) → all_permitted setting before_all entries ≡ true →
    MayAdd setting (after setting entries) more → all_permitted setting before_all (entries ++ more) ≡ true
permitted-more setting entries [] h may = ap (all_permitted setting before_all) (append-nil entries) ∙ h
permitted-more setting entries (entry ∷ []) h may = all_permitted-append setting before_all entries entry ∙ and (all_permitted setting before_all entries) _ h may
permitted-more setting entries (entry ∷ other ∷ more) h may = absurd may

entries-sound : (reading : Intake) (more : List (Entry Answer)) → IsSound reading → is_some reading.rules ≡ true → has_wall reading.walls ≡ true →
    MayAdd (setting_of reading) (now_of reading) more → IsSound (with_entries reading more)
entries-sound reading more sound headed wall may = record {
  legal = record {
    few = sound.legal.few;
    whole = sound.legal.whole;
    ground = ground-more reading.walls reading.entries more wall;
    permitted = permitted-more (setting_of reading) reading.entries more sound.legal.permitted may;
  };
  fresh = λ k. cc;
  bare = λ k. cc;
}

-- The name of a join is a name.
abbrev pub IsNamed : Option JoinLine → Type 0
IsNamed None = Unit {0}
IsNamed (Some join) = is_name join.name ≡ true

abbrev IsGood : Option (List ℕ) → Type 0
IsGood None = Unit {0}
IsGood (Some name) = is_name name ≡ true

name_of-good : (text : List ℕ) → IsGood (name_of text)
name_of-good text = if_good (is_name text) refl
  where
    if_good : (b : Bool) → is_name text ≡ b → IsGood (if b then Some text else None)
    if_good true h = h
    if_good false h = tt

then_good : (text : Option (List ℕ)) → IsGood (option_and_then name_of text)
then_good None = tt
then_good (Some text) = name_of-good text

then_named : {A : Type 0} (f : A → Option JoinLine) (o : Option A) → ((x : A) → IsNamed (f x)) → IsNamed (option_and_then f o)
then_named f None g = tt
then_named f (Some x) g = g x

good_named : (f : List ℕ → Option JoinLine) (o : Option (List ℕ)) → IsGood o → ((name : List ℕ) → is_name name ≡ true → IsNamed (f name)) → IsNamed (option_and_then f o)
good_named f None h g = tt
good_named f (Some name) h g = g name h

if_named : (b : Bool) (o : Option JoinLine) → IsNamed o → IsNamed (if b then o else None)
if_named true o h = h
if_named false o h = tt

key_named : (name : List ℕ) (key : Option (Option (List ℕ))) → is_name name ≡ true → IsNamed (option_map (λ (k : Option (List ℕ)). let join : JoinLine = record { name = name; key = k } in join) key)
key_named name None h = tt
key_named name (Some key) h = h

join_in-named : (value : Data) → IsNamed (join_in value)
unfolding join_in
join_in-named value =
    then_named _ (text_in (codes "type") value) (λ type. if_named (bytes_eq type (codes "join")) _
    (good_named _ (option_and_then name_of (text_in (codes "name") value)) (then_good (text_in (codes "name") value))
    (λ name good. key_named name _ good)))

pub join_of-named : (text : List ℕ) → IsNamed (join_of text)
unfolding join_of
join_of-named text = then_named join_in (value_of text) join_in-named

-- who sits down or comes back

-- A seat may be taken back as far as it alone tells.
abbrev may_come : Chair → Bool
may_come chair = not (is_present chair) && is_some chair.key && nat_lt chair.returns 64

-- The place of a seat that may be taken back, among seats counted from a number on.
record ComesBack (number : ℕ) (chairs : List Chair) (seat : ℕ) : Type 0 where
  place : ℕ
  at : seat ≡ number + place
  may : option_map_or may_come (slice_get chairs place) false ≡ true

-- What a place says of the seats, counted from a number on: a new one has a new name and isn't the fifth, and one that is
-- taken back may be.
abbrev IsRight : ℕ → List Chair → List ℕ → Placed → Type 0
IsRight number chairs name (places.Sat seat) = (list_any (has_name name) chairs ≡ false) × ((number + length chairs == 4) ≡ false)
IsRight number chairs name (places.Back seat) = ComesBack number chairs seat
IsRight number chairs name (places.Refused why) = Unit {0}

held-right : (number : ℕ) (chair : Chair) (chairs : List Chair) (name : List ℕ) (said : Option (List ℕ)) → IsRight number (chair ∷ chairs) name (at_held number (held_of chair) said)
held-right number chair chairs name said = by_present (is_present chair) refl
  where
    all_three : (a b c : Bool) → a ≡ false → b ≡ true → c ≡ true → (not a && b && c) ≡ true
    all_three a b c h k l = rw (h, k, l) refl

    by_tests : (other_key often : Bool) → is_present chair ≡ false → is_some chair.key ≡ true → nat_le 64 chair.returns ≡ often →
        IsRight number (chair ∷ chairs) name (if other_key then places.Refused WrongKey else (if often then places.Refused TooOften else places.Back number))
    by_tests true often out keyed e = tt
    by_tests false true out keyed e = tt
    by_tests false false out keyed e = record {
      place = 0;
      at = same number;
      may = all_three (is_present chair) (is_some chair.key) (nat_lt chair.returns 64) out keyed (lt-ltb chair.returns 64 (leb-false 64 chair.returns e));
    }
      where
        same : (n : ℕ) → n ≡ n + 0
        same n = omega arith

    by_key : (key : Option (List ℕ)) → is_present chair ≡ false → chair.key ≡ key → IsRight number (chair ∷ chairs) name (back number chair.returns key said)
    by_key None out e = tt
    by_key (Some key) out e = by_tests (not (is_key key said)) (nat_le 64 chair.returns) out (ap is_some e) refl

    by_present : (b : Bool) → is_present chair ≡ b → IsRight number (chair ∷ chairs) name (if b then places.Refused NameTaken else back number chair.returns chair.key said)
    by_present true e = tt
    by_present false e = by_key chair.key e refl

-- One seat more in front.
right-more : (number : ℕ) (chair : Chair) (chairs : List Chair) (name : List ℕ) (place : Placed) → has_name name chair ≡ false →
    IsRight (number + 1) chairs name place → IsRight number (chair ∷ chairs) name place
right-more number chair chairs name (places.Sat seat) apart r = (neither (has_name name chair) _ apart r.0, ap (λ n. n == 4) (longer number (length chairs)) ∙ r.1)
  where
    neither : (a b : Bool) → a ≡ false → b ≡ false → (a || b) ≡ false
    neither a b h k = rw (h, k) refl

    longer : (n m : ℕ) → n + suc m ≡ n + 1 + m
    longer n m = omega arith
right-more number chair chairs name (places.Back seat) apart r = record { place = suc r.place; at = further number r.place seat r.at; may = r.may }
  where
    further : (n m seat : ℕ) → seat ≡ n + 1 + m → seat ≡ n + suc m
    further n m seat h = omega (arith, h)
right-more number chair chairs name (places.Refused why) apart r = tt

from-right : (number : ℕ) (chairs : List Chair) (join : JoinLine) → IsRight number chairs join.name (placed_from number (map held_of chairs) join)
from-right number [] join = by_count (number == 4) refl
  where
    none_more : (n : ℕ) → n + 0 ≡ n
    none_more n = omega arith

    by_count : (b : Bool) → (number == 4) ≡ b → IsRight number [] join.name (if b then places.Refused Full else places.Sat number)
    by_count true e = tt
    by_count false e = (refl, ap (λ n. n == 4) (none_more number) ∙ e)
from-right number (chair ∷ chairs) join = by_name (has_name join.name chair) refl (from-right (number + 1) chairs join)
  where
    by_name : (b : Bool) → has_name join.name chair ≡ b → IsRight (number + 1) chairs join.name (placed_from (number + 1) (map held_of chairs) join) →
        IsRight number (chair ∷ chairs) join.name (if b then at_held number (held_of chair) join.key else placed_from (number + 1) (map held_of chairs) join)
    by_name true e others = held-right number chair chairs join.name join.key
    by_name false e others = right-more number chair chairs join.name (placed_from (number + 1) (map held_of chairs) join) e others

-- So the entry that a join makes is permitted.
from_none : (n : ℕ) → 0 + n ≡ n
from_none n = omega arith

fewer : (n : ℕ) → n ≤ 4 → (0 + n == 4) ≡ false → nat_lt n 4 ≡ true
fewer n few h = lt-ltb n 4 (below n few (eqb-false n 4 (ap (λ m. m == 4) (sym (from_none n)) ∙ h)))
  where
    below : (n : ℕ) → n ≤ 4 → (n ≡ 4 → ⊥) → n < 4
    below n few ne = omega (arith, few, ne)

right-may : (setting : Setting) (now : After) (author : ℕ) (join : JoinLine) (place : Placed) → is_name join.name ≡ true → length now.chairs ≤ 4 →
    is_over now.deeds ≡ false → IsRight 0 now.chairs join.name place →
    MayAdd setting now (entries_of_placing author (Some join) place)
unfolding can_sit can_return
right-may setting now author join (places.Sat seat) named few goes r =
    and (is_name join.name) _ named (and (nat_lt (length now.chairs) 4) _ (fewer (length now.chairs) few r.1) (ap not r.0))
right-may setting now author join (places.Back seat) named few goes r =
    subst (λ (n : ℕ). option_map_or (can_return now) (slice_get now.chairs n) false ≡ true) (sym (r.at ∙ from_none r.place)) (by_held (slice_get now.chairs r.place) r.may)
  where
    by_held : (o : Option Chair) → option_map_or may_come o false ≡ true → option_map_or (can_return now) o false ≡ true
    by_held None h = h
    by_held (Some chair) h = and (may_come chair) _ h (ap not goes)
right-may setting now author join (places.Refused why) named few goes r = tt

pub placing-may : (setting : Setting) (now : After) (author : ℕ) (join : Option JoinLine) → IsNamed join → length now.chairs ≤ 4 →
    MayAdd setting now (entries_of_placing author join (placing now join))
unfolding placing placed
placing-may setting now author None named few = tt
placing-may setting now author (Some join) named few = by_end (is_over now.deeds) refl
  where
    by_end : (b : Bool) → is_over now.deeds ≡ b → MayAdd setting now (entries_of_placing author (Some join) (if b then places.Refused Over else placed (map held_of now.chairs) join))
    by_end true e = tt
    by_end false e = right-may setting now author join (placed_from 0 (map held_of now.chairs) join) named few e (from-right 0 now.chairs join)

some_wall : (walls : List (List ℕ)) → (length walls == 0) ≡ false → has_wall walls ≡ true
some_wall [] h = cc
some_wall (wall ∷ walls) h = refl

sit-sound : (reading : Intake) (text : List ℕ) → IsSound reading → is_some reading.rules ≡ true → LeadsSoundly (sit_arrives reading text)
unfolding sit_arrives
sit-sound reading text sound headed =
    by_test (length reading.walls == 0) Bad _ (λ _. tt)
    (λ h. entries-sound reading (entries_of_placing 1 (join_of text) (placing (now_of reading) (join_of text))) sound headed (some_wall reading.walls h)
    (placing-may (setting_of reading) (now_of reading) 1 (join_of text) (join_of-named text) (legal_seats (setting_of reading) reading.entries sound.legal).few))

-- who says a line or leaves

-- A seat is held only where there was an entry, and so a wall.
author-wall : (setting : Setting) (entries : List (Entry Answer)) (seat author : ℕ) → has_ground setting.walls entries ≡ true →
    author_at (after setting entries) seat ≡ Some author → has_wall setting.walls ≡ true
author-wall setting [] seat author ground h = cc
author-wall setting (entry ∷ entries) seat author ground h = ground

say-sound : (reading : Intake) (seat : ℕ) (text : List ℕ) → IsSound reading → is_some reading.rules ≡ true → LeadsSoundly (say_arrives reading seat text)
unfolding say_arrives
say-sound reading seat text sound headed =
    by_option (author_at (now_of reading) seat) _ Bad
    (λ author at. by_test (can_say (now_of reading) author seat) _ Bad
    (λ may. entries-sound reading (Said author seat (answer_of text) ∷ []) sound headed
    (author-wall (setting_of reading) reading.entries seat author sound.legal.ground at)
    (and (is_in_form (answer_of text)) _ (answers_that_are_read_are_in_form text) may))
    (λ _. tt))
    tt

pub present_by : (now : After) (seat author : ℕ) → author_at now seat ≡ Some author → option_map_or (is_present_by author) (slice_get now.chairs seat) false ≡ true
present_by now seat author at = by_held (slice_get now.chairs seat) at
  where
    by_held : (o : Option Chair) → option_map_or (λ (chair : Chair). chair.author) o None ≡ Some author → option_map_or (is_present_by author) o false ≡ true
    by_held None h = cc
    by_held (Some chair) h = ap (λ (o : Option ℕ). option_map_or (λ by. by == author) o false) h ∙ eq-eqb author author refl

gone-sound : (reading : Intake) (seat : ℕ) → IsSound reading → is_some reading.rules ≡ true → LeadsSoundly (gone_arrives reading seat)
unfolding gone_arrives
gone-sound reading seat sound headed =
    by_option (author_at (now_of reading) seat) _ Bad
    (λ author at. entries-sound reading (Gone author seat ∷ []) sound headed
    (author-wall (setting_of reading) reading.entries seat author sound.legal.ground at)
    (present_by (now_of reading) seat author at))
    tt

-- whose time runs out

pub expiry-may : (setting : Setting) (now : After) (author window t1 t2 : ℕ) →
    MayAdd setting now (if can_expire setting.rules.limit now.deeds window t1 t2 then Expired author window t1 t2 ∷ [] else [])
expiry-may setting now author window t1 t2 = by_time (can_expire setting.rules.limit now.deeds window t1 t2) refl
  where
    by_time : (b : Bool) → can_expire setting.rules.limit now.deeds window t1 t2 ≡ b → MayAdd setting now (if b then Expired author window t1 t2 ∷ [] else [])
    by_time true e = e
    by_time false e = tt

expiry-sound : (reading : Intake) (window t1 t2 : ℕ) → IsSound reading → is_some reading.rules ≡ true → LeadsSoundly (expiry_arrives reading window t1 t2)
unfolding expiry_arrives
expiry-sound reading window t1 t2 sound headed =
    by_test (length reading.walls == 0) Bad _ (λ _. tt)
    (λ h. entries-sound reading _ sound headed (some_wall reading.walls h) (expiry-may (setting_of reading) (now_of reading) 0 window t1 t2))

behind-sound : (reading : Intake) (form : ArrivalForm) → IsSound reading → is_some reading.rules ≡ true → LeadsSoundly (behind_header reading form)
behind-sound reading (Header rules) sound headed = tt
behind-sound reading (WallOf tiles) sound headed = wall-sound reading tiles sound headed
behind-sound reading (Sit text) sound headed = sit-sound reading text sound headed
behind-sound reading (Say seat text) sound headed = say-sound reading seat text sound headed
behind-sound reading (Leave seat) sound headed = gone-sound reading seat sound headed
behind-sound reading (Expire window t1 t2) sound headed = expiry-sound reading window t1 t2 sound headed
behind-sound reading NoForm sound headed = tt

first-sound : (form : ArrivalForm) → LeadsSoundly (first_line nothing_read form)
first-sound (Header rules) = header-sound rules
first-sound (WallOf tiles) = tt
first-sound (Sit text) = tt
first-sound (Say seat text) = tt
first-sound (Leave seat) = tt
first-sound (Expire window t1 t2) = tt
first-sound NoForm = tt

line-sound : (reading : Intake) (text : List ℕ) → IsSound reading → LeadsSoundly (arrives reading text)
unfolding arrives
line-sound reading text sound =
    by_test (is_some reading.rules) (behind_header reading (form_of text)) (first_line reading (form_of text))
    (λ headed. behind-sound reading (form_of text) sound headed)
    (λ bare. let P : Intake → Type 0 = λ r. LeadsSoundly (first_line r (form_of text)) in subst P (sym (sound.bare bare)) (first-sound (form_of text)))

end-sound : (reading : Intake) (number : ℕ) (rest : List ℕ) → IsSound reading → IsSound (at_end reading number rest).reading
end-sound reading number [] sound = sound
end-sound reading number (byte ∷ bytes) sound = sound

intake_on-sound : (arrival : Arrival) (onwards : Intake → Input) (reading : Intake) (number : ℕ) → LeadsSoundly arrival →
    ((next : Intake) → IsSound next → IsSound (onwards next).reading) → IsSound reading → IsSound (intake_on arrival onwards reading number).reading
intake_on-sound (Leads next) onwards reading number leads go sound = go next leads
intake_on-sound Bad onwards reading number leads go sound = sound

intake_from-sound : (reading : Intake) (number : ℕ) (texts : List (List ℕ)) (rest : List ℕ) → IsSound reading → IsSound (intake_from reading number texts rest).reading
intake_from-sound reading number [] rest sound = end-sound reading number rest sound
intake_from-sound reading number (text ∷ texts) rest sound =
    intake_on-sound (arrives reading text) (λ next. intake_from next (number + 1) texts rest) reading number
    (line-sound reading text sound)
    (λ next next_sound. intake_from-sound next (number + 1) texts rest next_sound)
    sound

nothing-sound : IsSound nothing_read
nothing-sound = record {
  legal = legal_at_start (setting_of nothing_read) [] refl (omega arith) refl;
  fresh = λ _. refl;
  bare = λ _. refl;
}

-- The game that is read off any input is legal.
pub read_game_is_legal : (input : List ℕ) → IsLegal (setting_of (input_of input).reading) (input_of input).reading.entries
read_game_is_legal input = (intake_from-sound nothing_read 1 (whole_lines input) (unfinished input) nothing-sound).legal
