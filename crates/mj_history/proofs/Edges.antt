-- The laws of the edges of a game.
use Rattle.std.proofs.Common.{◌≡◌, ℕ, zero, suc, ◌+◌, ◌≤◌, ◌==◌, ◌&&◌, not, inl, inr, List, [], ◌∷◌, ◌++◌, length, map, Bool, true, false, refl, ap, ◌∙◌, sym, arith, append-nil, append_assoc}
use Rattle.std.specs.Prelude.{if◌then◌else◌, Option, Some, None, is_some, slice_get, bytes_eq, nat_lt}
use Rattle.std.specs.Option.{option_map_or}
use Rattle.std.specs.List.{list_any}
use Rattle.std.proofs.lemmas.Bool.{and_parts, or_parts, not-true, ltb-true, lt-leb, eq-eqb, ne_eqb}
use Rattle.std.proofs.lemmas.Bool.Decides.{eqb_tells}
use Rattle.std.proofs.lemmas.List.{length-map}
use Rattle.std.proofs.lemmas.Option.{same_Some}
use Rattle.std.proofs.lemmas.Slice.Eq.{bytes_eq-Decides}
use Rattle.mj_ports.specs.Names.{are_different}
use Rattle.mj_ports.specs.declared.entry.Entry.{Entry}
use Rattle.mj_ports.specs.declared.entry.Entry.TheVariants.{Sat, Back, Said, Gone, Expired}
use Rattle.mj_ports.specs.declared.sitting.JoinLine.{JoinLine}
use Rattle.mj_ports.specs.declared.sitting.SitRefused.TheVariants.{NameTaken, WrongKey, TooOften, Over}
use Rattle.mj_seating.specs.declared.desk.Placed.TheVariants as places
use Rattle.mj_seating.specs.Sitting.{is_key, back, at_held, placed_from, placed}
use Rattle.mj_deeds.specs.declared.answer.Answer.{Answer}
use Rattle.mj_deeds.specs.declared.deed.Deed.{Deed}
use Rattle.mj_deeds.specs.declared.deed.Deed.TheVariants.{StartGame}
use Rattle.mj_wall.specs.declared.setting.Rules.{Rules}
use Rattle.mj_wall.specs.declared.setting.Setting.{Setting}
use Rattle.mj_rules.specs.Outcome.{outcome}
use Rattle.mj_history.specs.After.{After, Chair, after_said, after_gone, after_back, own_part, names_of, answers_in, is_present, is_window_closed, next_deed, step, after_from, after, before_all}
use Rattle.mj_history.specs.Legal.{IsLegal, is_over, can_return, is_permitted, all_permitted}
use Rattle.mj_history.specs.Sitting.{held_of, placing}
use Rattle.mj_history.specs.Edges.{sits_as, seated_names, FourStart, TheFourthStarts, ReturnsAreSeated}
use Rattle.mj_history.proofs.Entries.{after-append}
use Rattle.mj_history.proofs.Entered.{listed, step-chairs, step-deeds, own_seats}
use Rattle.mj_history.proofs.Fitting.{own_deeds}
use Rattle.mj_history.proofs.Seated.{beginnings_are_legal}
use Rattle.mj_history.proofs.Seats.{names_in, AreSeats, names_sat, names_said, step_seats, no_seats, legal_seats}
use Rattle.mj_history.proofs.Seats.{own_seats as own_are_seats}

-- the names of the seats are those of the joins

said_named : (rules : Rules) (now : After) (seat : ℕ) (answer : Answer) (held : Option Chair) → slice_get now.chairs seat ≡ held →
    names_in (option_map_or (after_said rules now seat answer) held now).chairs ≡ names_in now.chairs
unfolding after_said
said_named rules now seat answer None e = refl
said_named rules now seat answer (Some chair) e = names_said now.chairs seat chair _ e refl

gone_named : (rules : Rules) (now : After) (seat : ℕ) (held : Option Chair) → slice_get now.chairs seat ≡ held →
    names_in (option_map_or (after_gone rules now seat) held now).chairs ≡ names_in now.chairs
unfolding after_gone
gone_named rules now seat None e = refl
gone_named rules now seat (Some chair) e = names_said now.chairs seat chair _ e refl

back_named : (rules : Rules) (now : After) (author seat : ℕ) (held : Option Chair) → slice_get now.chairs seat ≡ held →
    names_in (option_map_or (after_back rules now author seat) held now).chairs ≡ names_in now.chairs
unfolding after_back
back_named rules now author seat None e = refl
back_named rules now author seat (Some chair) e = names_said now.chairs seat chair _ e refl

own_named : (setting : Setting) (now : After) (entry : Entry Answer) → names_in (own_part setting now entry).chairs ≡ names_in now.chairs ++ sits_as entry
unfolding own_part
own_named setting now (Sat author name key) = names_sat now.chairs _
own_named setting now (Said author seat answer) = said_named setting.rules now seat answer (slice_get now.chairs seat) refl ∙ sym (append-nil (names_in now.chairs))
own_named setting now (Back author seat) = back_named setting.rules now author seat (slice_get now.chairs seat) refl ∙ sym (append-nil (names_in now.chairs))
own_named setting now (Gone author seat) = gone_named setting.rules now seat (slice_get now.chairs seat) refl ∙ sym (append-nil (names_in now.chairs))
own_named setting now (Expired author window t1 t2) = sym (append-nil (names_in now.chairs))

more_named : (setting : Setting) (now : After) (entries : List (Entry Answer)) → names_in (after_from setting now entries).chairs ≡ names_in now.chairs ++ seated_names entries
more_named setting now [] = sym (append-nil (names_in now.chairs))
more_named setting now (entry ∷ entries) =
    more_named setting (step setting now entry) entries
    ∙ ap (λ (names : List (List ℕ)). names ++ seated_names entries) (ap names_in (step-chairs setting now entry) ∙ own_named setting now entry)
    ∙ append_assoc (names_in now.chairs) (sits_as entry) (seated_names entries)

named : (setting : Setting) (entries : List (Entry Answer)) → names_in (after setting entries).chairs ≡ seated_names entries
named setting entries = more_named setting before_all entries

seats_named : (setting : Setting) (entries : List (Entry Answer)) → length (seated_names entries) ≡ length (after setting entries).chairs
seats_named setting entries = ap (λ (names : List (List ℕ)). length names) (sym (named setting entries)) ∙ length-map (after setting entries).chairs (λ (chair : Chair). chair.name)

-- when the game starts

abbrev HasBegun : After → Type 0
HasBegun now = not (length now.deeds == 0) ≡ (length now.chairs == 4)

four_stay : (setting : Setting) (now : After) (entry : Entry Answer) → is_permitted setting now entry ≡ true → AreSeats now.chairs →
    (length now.chairs == 4) ≡ true → (length (own_part setting now entry).chairs == 4) ≡ true
four_stay setting now entry p seats e = eq-eqb (length (own_part setting now entry).chairs) 4 (four _ _ _ (own_seats setting now entry)
    (own_are_seats setting now entry p seats).few (is_four (length now.chairs) e))
  where
    four : (n m k : ℕ) → n ≡ m + k → n ≤ 4 → m ≡ 4 → n ≡ 4
    four n m k e h f = omega arith

    is_four : (n : ℕ) → (n == 4) ≡ true → n ≡ 4
    is_four n e = elim (eqb_tells n 4) [ inl s ↦ s.1 | inr s ↦ absurd (both (n == 4) e s.0) ]
      where
        both : (b : Bool) → b ≡ true → b ≡ false → ⊥
        both b h k = cc

with_more : (deeds more : List Deed) → (length deeds == 0) ≡ false → (length (deeds ++ more) == 0) ≡ false
with_more [] more h = cc
with_more (deed ∷ deeds) more h = never (length (deeds ++ more))
  where
    never : (n : ℕ) → (suc n == 0) ≡ false
    never n = ne_eqb (suc n) 0 (apart n)
      where
        apart : (n : ℕ) → suc n ≡ 0 → ⊥
        apart n e = omega arith

-- Where there is a deed there are more; and where there is none the game starts where four seats are held.
step_begun : (setting : Setting) (now : After) (entry : Entry Answer) → is_permitted setting now entry ≡ true → AreSeats now.chairs → HasBegun now → HasBegun (step setting now entry)
unfolding step next_deed
step_begun setting now entry p seats begun = by (length now.deeds == 0) refl
  where
    own : After
    own = own_part setting now entry

    chairs_are : (step setting now entry).chairs ≡ own.chairs
    chairs_are = step-chairs setting now entry

    same : (length (own_part setting now entry).deeds == 0) ≡ (length now.deeds == 0)
    same = ap (λ (ds : List Deed). length ds == 0) (own_deeds setting now entry)

    started : (four : Bool) → (length (own_part setting now entry).chairs == 4) ≡ four → (length now.deeds == 0) ≡ true
        → not (length (now.deeds ++ listed (if four then Some (StartGame (names_of (own_part setting now entry).chairs)) else None)) == 0) ≡ four
    started true f e = ap not (one now.deeds e)
      where
        one : (ds : List Deed) → (length ds == 0) ≡ true → (length (ds ++ StartGame (names_of (own_part setting now entry).chairs) ∷ []) == 0) ≡ false
        one [] e = refl
        one (d ∷ ds) e = with_more (d ∷ ds) _ (ne_eqb (length (d ∷ ds)) 0 (apart (length ds)))
          where
            apart : (n : ℕ) → suc n ≡ 0 → ⊥
            apart n e = omega arith
    started false f e = ap not (ap (λ (ds : List Deed). length ds == 0) (append-nil now.deeds) ∙ e)

    added : (length now.deeds == 0) ≡ true → next_deed setting (own_part setting now entry) entry ≡ (if length (own_part setting now entry).chairs ==
        4 then Some (StartGame (names_of (own_part setting now entry).chairs)) else None)
    added e = ap (λ (b : Bool).
        if b
        then (if length (own_part setting now entry).chairs == 4 then Some (StartGame (names_of (own_part setting now entry).chairs)) else None)
        else (if is_window_closed (own_part setting now entry) entry then outcome setting.rules setting.walls (own_part setting now entry).deeds
        (answers_in setting.rules (own_part setting now entry).deeds (own_part setting now entry).slots) else None)) (same ∙ e)

    by : (b : Bool) → (length now.deeds == 0) ≡ b → not (length (step setting now entry).deeds == 0) ≡ (length (step setting now entry).chairs == 4)
    by true e =
        ap (λ (ds : List Deed). not (length ds == 0)) (step-deeds setting now entry ∙ ap (λ (o : Option Deed). now.deeds ++ listed o) (added e))
        ∙ started (length (own_part setting now entry).chairs == 4) refl e
        ∙ ap (λ (cs : List Chair). length cs == 4) (sym chairs_are)
    by false e =
        ap (λ (ds : List Deed). not (length ds == 0)) (step-deeds setting now entry)
        ∙ ap not (with_more now.deeds (listed (next_deed setting (own_part setting now entry) entry)) e)
        ∙ sym (four_stay setting now entry p seats (sym begun ∙ ap not e))
        ∙ ap (λ (cs : List Chair). length cs == 4) (sym chairs_are)

game_begun : (setting : Setting) (now : After) (entries : List (Entry Answer)) → all_permitted setting now entries ≡ true → AreSeats now.chairs →
    HasBegun now → HasBegun (after_from setting now entries)
game_begun setting now [] p seats begun = begun
game_begun setting now (entry ∷ entries) p seats begun =
    let parts = and_parts (is_permitted setting now entry) (all_permitted setting (step setting now entry) entries) p in
    game_begun setting (step setting now entry) entries parts.1 (step_seats setting now entry parts.0 seats) (step_begun setting now entry parts.0 seats begun)

legal_begun : (setting : Setting) (entries : List (Entry Answer)) → IsLegal setting entries → HasBegun (after setting entries)
legal_begun setting entries legal = game_begun setting before_all entries legal.permitted no_seats refl

pub four_start : FourStart
four_start setting entries legal = legal_begun setting entries legal ∙ ap (λ (n : ℕ). n == 4) (sym (seats_named setting entries))

-- who sits down as the fourth

empty_is : {A : Type 0} (xs : List A) → (length xs == 0) ≡ true → xs ≡ []
empty_is [] e = refl
empty_is (x ∷ xs) e = absurd (never (length xs) e)
  where
    never : (n : ℕ) → (suc n == 0) ≡ true → ⊥
    never n h = grind (arith, h)

four_in_order : (chairs : List Chair) → length chairs ≡ 4 → names_in chairs ≡ (names_of chairs).first ∷ (names_of chairs).second ∷ (names_of chairs).third ∷ (names_of chairs).fourth ∷ []
four_in_order (a ∷ b ∷ c ∷ d ∷ []) e = refl
four_in_order [] e = absurd (omega (arith, e))
four_in_order (a ∷ []) e = absurd (omega (arith, e))
four_in_order (a ∷ b ∷ []) e = absurd (omega (arith, e))
four_in_order (a ∷ b ∷ c ∷ []) e = absurd (omega (arith, e))
four_in_order (a ∷ b ∷ c ∷ d ∷ f ∷ chairs) e = absurd (more (length chairs) e)
  where
    more : (n : ℕ) → suc (suc (suc (suc (suc n)))) ≡ 4 → ⊥
    more n e = omega arith

first_deed : (setting : Setting) (own : After) (entry : Entry Answer) → (length own.deeds == 0) ≡ true → length own.chairs ≡ 4 → next_deed setting own entry ≡ Some (StartGame (names_of own.chairs))
unfolding next_deed
first_deed setting own entry none four =
    (λ i.
    if none i
    then (if eq-eqb (length own.chairs) 4 four i then Some (StartGame (names_of own.chairs)) else None)
    else (if is_window_closed own entry then outcome setting.rules setting.walls own.deeds (answers_in setting.rules own.deeds own.slots) else None))

pub the_fourth_starts : TheFourthStarts
the_fourth_starts setting entries author name key legal four =
    let now : After = after setting entries in
    let entry : Entry Answer = Sat author name key in
    let own : After = own_part setting now entry in
    let next : After = step setting now entry in
    let before : IsLegal setting entries = beginnings_are_legal setting entries (entry ∷ []) legal in
    let next_is : after setting (entries ++ entry ∷ []) ≡ next = after-append setting entries entry in
    let chairs_are : (after setting (entries ++ entry ∷ [])).chairs ≡ own.chairs = ap (λ (a : After). a.chairs) next_is ∙ step-chairs setting now entry in
    let held : length own.chairs ≡ 4 = ap (λ (cs : List Chair). length cs) (sym chairs_are) ∙ sym (seats_named setting (entries ++ entry ∷ [])) ∙ four in
    let none : (length now.deeds == 0) ≡ true = empty_now (length now.deeds == 0) (length now.chairs == 4) (legal_begun setting entries before)
    (ne_eqb (length now.chairs) 4 (fewer (length own.chairs) (length now.chairs) (own_seats setting now entry) held)) in
    record {
      four = names_of own.chairs;
      in_order = sym (named setting (entries ++ entry ∷ [])) ∙ ap names_in chairs_are ∙ four_in_order own.chairs held;
      started = ap (λ (a : After). a.deeds) next_is ∙ step-deeds setting now entry
          ∙ (λ i. empty_is now.deeds none i ++ listed (first_deed setting own entry (ap (λ (ds : List Deed). length ds == 0) (own_deeds setting now entry) ∙ none) held i));
    }
  where
    fewer : (n m : ℕ) → n ≡ m + 1 → n ≡ 4 → m ≡ 4 → ⊥
    fewer n m e f g = omega arith

    empty_now : (b c : Bool) → not b ≡ c → c ≡ false → b ≡ true
    empty_now true c e f = refl
    empty_now false c e f = cc

-- who comes back

is_itself : (name : List ℕ) → bytes_eq name name ≡ true
is_itself name = (bytes_eq-Decides name name).1 refl

none_of : {A : Type 0} (test : A → Bool) (xs : List A) (i : ℕ) (x : A) → list_any test xs ≡ false → slice_get xs i ≡ Some x → test x ≡ false
none_of test [] i x h e = cc
none_of test (y ∷ ys) zero x h e = ap test (same_Some x y (sym e)) ∙ (or_parts (test y) (list_any test ys) h).0
none_of test (y ∷ ys) (suc i) x h e = none_of test ys i x (or_parts (test y) (list_any test ys) h).1 e

named_at : (chairs : List Chair) (seat : ℕ) (chair : Chair) → slice_get chairs seat ≡ Some chair → slice_get (names_in chairs) seat ≡ Some chair.name
named_at [] seat chair e = cc
named_at (first ∷ chairs) zero chair e = ap (λ (c : Chair). Some c.name) (same_Some first chair e)
named_at (first ∷ chairs) (suc seat) chair e = named_at chairs seat chair e

back_at : (number : ℕ) (chair : Chair) (said : Option (List ℕ)) → is_present chair ≡ false → is_some chair.key ≡ true →
    nat_lt chair.returns 64 ≡ true → said ≡ chair.key → at_held number (held_of chair) said ≡ places.Back number
back_at number chair said out keyed few same = ap (λ (b : Bool). if b then places.Refused NameTaken else back number chair.returns chair.key said) out ∙ by chair.key keyed same
  where
    by : (key : Option (List ℕ)) → is_some key ≡ true → said ≡ key → back number chair.returns key said ≡ places.Back number
    by None k s = cc
    by (Some key) k s =
        (λ i. if not ((ap (is_key key) s ∙ is_itself key) i) then places.Refused WrongKey
        else (if lt-leb 64 chair.returns (ltb-true chair.returns 64 few) i then places.Refused TooOften else places.Back number))

back_from : (number : ℕ) (chairs : List Chair) (seat : ℕ) (chair : Chair) (join : JoinLine) → are_different (names_in chairs) ≡ true → slice_get chairs seat ≡ Some chair → join.name ≡ chair.name
    → ((n : ℕ) → at_held n (held_of chair) join.key ≡ places.Back n) → placed_from number (map held_of chairs) join ≡ places.Back (number + seat)
back_from number [] seat chair join apart e name back = cc
back_from number (first ∷ chairs) zero chair join apart e name back =
    ap (λ (b : Bool). if b then at_held number (held_of first) join.key else placed_from (number + 1) (map held_of chairs) join)
    (ap (bytes_eq first.name) (name ∙ ap (λ (c : Chair). c.name) (same_Some chair first (sym e))) ∙ is_itself first.name)
    ∙ ap (λ (c : Chair). at_held number (held_of c) join.key) (same_Some first chair e) ∙ back number ∙ ap (λ (n : ℕ). places.Back n) (none number)
  where
    none : (n : ℕ) → n ≡ n + 0
    none n = omega arith
back_from number (first ∷ chairs) (suc seat) chair join apart e name back =
    let parts = and_parts (not (list_any (λ other. bytes_eq first.name other) (names_in chairs))) (are_different (names_in chairs)) apart in
    ap (λ (b : Bool). if b then at_held number (held_of first) join.key else placed_from (number + 1) (map held_of chairs) join)
    (ap (bytes_eq first.name) name ∙ none_of (λ other. bytes_eq first.name other) (names_in chairs) seat chair.name (not-true _ parts.0) (named_at chairs seat chair e))
    ∙ back_from (number + 1) chairs seat chair join parts.1 e name back ∙ ap (λ (n : ℕ). places.Back n) (one number seat)
  where
    one : (n m : ℕ) → n + 1 + m ≡ n + suc m
    one n m = omega arith

returned : (now : After) (seat : ℕ) (chair : Chair) (join : JoinLine) → AreSeats now.chairs → slice_get now.chairs seat ≡ Some chair →
    can_return now chair ≡ true → join.name ≡ chair.name → join.key ≡ chair.key
    → placing now (Some join) ≡ places.Back seat
unfolding placing placed can_return
returned now seat chair join seats e may name key =
    let outer = and_parts (not (is_present chair) && is_some chair.key && nat_lt chair.returns 64) (not (is_over now.deeds)) may in
    let mid = and_parts (not (is_present chair) && is_some chair.key) (nat_lt chair.returns 64) outer.0 in
    let inner = and_parts (not (is_present chair)) (is_some chair.key) mid.0 in
    ap (λ (b : Bool). if b then places.Refused Over else placed_from 0 (map held_of now.chairs) join) (not-true (is_over now.deeds) outer.1)
    ∙ back_from 0 now.chairs seat chair join (and_parts _ (are_different (names_in now.chairs)) seats.named).1 e name
    (λ n. back_at n chair join.key (not-true (is_present chair) inner.0) inner.1 mid.1 key)
    ∙ ap (λ (n : ℕ). places.Back n) (none seat)
  where
    none : (n : ℕ) → 0 + n ≡ n
    none n = omega arith

pub returns_are_seated : ReturnsAreSeated
returns_are_seated setting entries seat chair join legal e may name key = returned (after setting entries) seat chair join (legal_seats setting entries legal) e may name key
