-- Each window is decided by its own answers: the slots hold what was taken since the newest deed, and each deed is what they came to.
use Rattle.std.proofs.Common.{◌≡◌, ◌⊎◌, ℕ, suc, ◌+◌, ◌<◌, ◌≤◌, ◌==◌, ◌&&◌, inl, inr, List, [], ◌∷◌, ◌++◌, length, Bool, true, false, refl, ap, ◌∙◌, sym, subst, arith, append-nil, append_assoc}
use Rattle.std.specs.Prelude.{if◌then◌else◌, Option, Some, None, is_some, option_map, option_to_list, unwrap_or, slice_get, nat_lt}
use Rattle.std.specs.Option.{option_map_or}
use Rattle.std.proofs.lemmas.Bool.{and_parts, eq-eqb, ne_eqb}
use Rattle.std.proofs.lemmas.Bool.Decides.{eqb_tells}
use Rattle.std.proofs.lemmas.List.{length-append}
use Rattle.std.proofs.lemmas.Option.{slice_get_within}
use Rattle.mj_ports.specs.declared.entry.Entry.{Entry}
use Rattle.mj_ports.specs.declared.entry.Entry.TheVariants.{Sat, Back, Said, Gone, Expired}
use Rattle.mj_deeds.specs.declared.four.Four.{Four}
use Rattle.mj_deeds.specs.declared.answer.Answer.{Answer}
use Rattle.mj_deeds.specs.declared.deed.Deed.{Deed}
use Rattle.mj_deeds.specs.declared.deed.Deed.TheVariants.{StartGame}
use Rattle.mj_deeds.specs.Answers.{is_in_form}
use Rattle.mj_deeds.specs.Four.{at_seat, for_each_seat}
use Rattle.mj_wall.specs.declared.setting.Rules.{Rules}
use Rattle.mj_wall.specs.declared.setting.Setting.{Setting}
use Rattle.mj_window.specs.Slots.{empty_slots}
use Rattle.mj_rules.specs.Default.{default_answer}
use Rattle.mj_rules.specs.Outcome.{outcome}
use Rattle.mj_history.specs.After.{After, Chair, Verdict, Taken, Late, Refused, Closing, verdict_on, slots_after, after_said, after_gone, after_back}
use Rattle.mj_history.specs.After.{own_part, names_of, answers_in, is_window_closed, next_deed, with_deed, step, after_from, after, before_all}
use Rattle.mj_history.specs.Legal.{IsLegal, is_present_by, may_say, can_say, is_permitted, all_permitted}
use Rattle.mj_history.specs.Windows.{is_taken, taken, taken_from, taken_in, SlotsHoldTheTaken, WindowsDecide}
use Rattle.mj_history.proofs.Places.{slot-empty, slot-put_at}
use Rattle.mj_history.proofs.Fitting.{own_deeds}
use Rattle.mj_history.proofs.Seats.{AreSeats, step_seats, no_seats}
use Rattle.mj_history.proofs.Filled.{AreFilled, below_four, others_slot, past_at, step_filled, nothing_filled}

-- What was taken of each seat, after so many deeds.
abbrev Takes : Type 0
Takes = ℕ → ℕ → List Answer

-- What the four answered after deeds, by what was taken.
abbrev given_by : Rules → Takes → List Deed → Four Answer
given_by rules takes deeds = for_each_seat (λ seat. unwrap_or (slice_get (takes (length deeds) seat) 0) (default_answer rules deeds seat))

-- What is true of deeds and slots as far as entries have come, by what was taken of them.
record Decided (setting : Setting) (deeds : List Deed) (held : Four (Option Answer)) (takes : Takes) : Type 0 where
  slots : (seat : ℕ) → seat < 4 → option_to_list (at_seat held seat) ≡ takes (length deeds) seat
  none : (number seat : ℕ) → length deeds < number → takes number seat ≡ []
  decided : (before later : List Deed) (deed : Deed) → 1 ≤ length before → deeds ≡ before ++ deed ∷ later → outcome setting.rules setting.walls before (given_by setting.rules takes before) ≡ Some deed

abbrev and_taken : Setting → After → Entry Answer → Takes → Takes
and_taken setting now entry takes = λ number seat. takes number seat ++ taken setting number seat now entry

-- what an entry has taken

if_no : (b c : Bool) (answer : Answer) → b ≡ false → (if b && c then answer ∷ [] else []) ≡ []
if_no b c answer e = ap (λ (d : Bool). if d && c then answer ∷ [] else []) e

-- Nothing is taken in a window but that on the newest deed.
elsewhere : (setting : Setting) (number seat : ℕ) (now : After) (entry : Entry Answer) → (length now.deeds == number) ≡ false → taken setting number seat now entry ≡ []
elsewhere setting number seat now (Said author who answer) e = by (who == seat) (length now.deeds == number) _ e
  where
    by : (a b c : Bool) → b ≡ false → (if a && b && c then answer ∷ [] else []) ≡ []
    by true b c e = if_no b c answer e
    by false b c e = refl
elsewhere setting number seat now (Sat author name key) e = refl
elsewhere setting number seat now (Back author who) e = refl
elsewhere setting number seat now (Gone author who) e = refl
elsewhere setting number seat now (Expired author window t1 t2) e = refl

-- The slots once an entry has changed what is its own seat's.
abbrev Holds : Four (Option Answer) → Four (Option Answer) → (ℕ → List Answer) → Type 0
Holds slots others takes = (seat : ℕ) → seat < 4 → option_to_list (at_seat others seat) ≡ option_to_list (at_seat slots seat) ++ takes seat

as_before : (slots : Four (Option Answer)) → Holds slots slots (λ seat. [])
as_before slots seat small = sym (append-nil (option_to_list (at_seat slots seat)))

no_answer : (o : Option Answer) → (is_some o ≡ true → ⊥) → option_to_list o ≡ []
no_answer None h = refl
no_answer (Some answer) h = absurd (h refl)

own_taken : (n who : ℕ) (b : Bool) (answer : Answer) → (if who == who && n == n && b then answer ∷ [] else []) ≡ (if b then answer ∷ [] else [])
own_taken n who b answer = (λ i. if eq-eqb who who refl i && eq-eqb n n refl i && b then answer ∷ [] else [])

held_said : (n : ℕ) (slots : Four (Option Answer)) (who : ℕ) (answer : Answer) (v : Verdict) → who < 4 → (is_some (at_seat slots who) ≡ true → ⊥)
    → Holds slots (slots_after v slots who answer) (λ seat. if who == seat && n == n && is_taken v then answer ∷ [] else [])
held_said n slots who answer v known empty seat small = elim (eqb_tells who seat) [
  | inl p ↦ subst (λ (k : ℕ). option_to_list (at_seat (slots_after v slots who answer) k) ≡ option_to_list (at_seat slots k) ++ (if who == k && n == n && is_taken v then answer ∷ [] else [])) p.1
      (own v ∙ ap (λ (xs : List Answer). option_to_list (at_seat slots who) ++ xs) (sym (own_taken n who (is_taken v) answer)))
  | inr p ↦ ap (λ (o : Option Answer). option_to_list o) (others_slot slots who seat answer v known small p.1) ∙ sym (append-nil (option_to_list (at_seat slots seat)))
      ∙ ap (λ (xs : List Answer). option_to_list (at_seat slots seat) ++ xs) (sym (ap (λ (b : Bool). if b && n == n && is_taken v then answer ∷ [] else []) p.0))
]
  where
    own : (w : Verdict) → option_to_list (at_seat (slots_after w slots who answer) who) ≡ option_to_list (at_seat slots who) ++ (if is_taken w then answer ∷ [] else [])
    own Taken = ap (λ (o : Option Answer). option_to_list o) (slot-put_at slots who answer known) ∙ ap (λ (xs : List Answer). xs ++ answer ∷ []) (sym (no_answer (at_seat slots who) empty))
    own Late = sym (append-nil (option_to_list (at_seat slots who)))
    own (Refused rule) = sym (append-nil (option_to_list (at_seat slots who)))
    own (Closing rule) = sym (append-nil (option_to_list (at_seat slots who)))

said_holds : (rules : Rules) (now : After) (author who : ℕ) (answer : Answer) (held : Option Chair) → slice_get now.chairs who ≡ held →
    length now.chairs ≤ 4 → option_map_or (may_say now author) held false ≡ true → AreFilled now
    → Holds now.slots (option_map_or (after_said rules now who answer) held now).slots
    (λ seat. if who == seat && length now.deeds == length now.deeds && option_map_or is_taken
    (option_map (λ (chair : Chair). verdict_on rules now.deeds who answer chair.progress) held) false then answer ∷ [] else [])
unfolding after_said may_say
said_holds rules now author who answer None e few may filled = cc
said_holds rules now author who answer (Some chair) e few may filled =
    held_said (length now.deeds) now.slots who answer (verdict_on rules now.deeds who answer chair.progress) (below_four who (length now.chairs) (slice_get_within now.chairs who chair e) few)
    (λ s. both (nat_lt chair.progress.due (length now.deeds)) (and_parts (is_present_by author chair) (nat_lt chair.progress.due (length now.deeds))
    may).1 (past_at (length now.deeds) now.chairs now.slots who chair e few filled s))
  where
    both : (b : Bool) → b ≡ true → b ≡ false → ⊥
    both b h k = cc

gone_holds : (rules : Rules) (now : After) (who : ℕ) (held : Option Chair) → Holds now.slots (option_map_or (after_gone rules now who) held now).slots (λ seat. [])
unfolding after_gone
gone_holds rules now who None = as_before now.slots
gone_holds rules now who (Some chair) = as_before now.slots

back_holds : (rules : Rules) (now : After) (author who : ℕ) (held : Option Chair) → Holds now.slots (option_map_or (after_back rules now author who) held now).slots (λ seat. [])
unfolding after_back
back_holds rules now author who None = as_before now.slots
back_holds rules now author who (Some chair) = as_before now.slots

own_holds : (setting : Setting) (now : After) (entry : Entry Answer) → is_permitted setting now entry ≡ true → AreSeats now.chairs → AreFilled now
    → Holds now.slots (own_part setting now entry).slots (λ seat. taken setting (length now.deeds) seat now entry)
unfolding own_part
own_holds setting now (Sat author name key) p seats filled = as_before now.slots
own_holds setting now (Said author who answer) p seats filled = said_holds setting.rules now author who answer (slice_get now.chairs who) refl
    seats.few (and_parts (is_in_form answer) (can_say now author who) p).1 filled
own_holds setting now (Back author who) p seats filled = back_holds setting.rules now author who (slice_get now.chairs who)
own_holds setting now (Gone author who) p seats filled = gone_holds setting.rules now who (slice_get now.chairs who)
own_holds setting now (Expired author window t1 t2) p seats filled = as_before now.slots

-- one entry more, before its deed

longer : (n m : ℕ) → n < m → (n == m) ≡ false
longer n m h = ne_eqb n m (apart n m h)
  where
    apart : (n m : ℕ) → n < m → n ≡ m → ⊥
    apart n m h e = omega arith

given_same : (rules : Rules) (takes others : Takes) (deeds : List Deed) → ((seat : ℕ) → takes (length deeds) seat ≡ others (length deeds) seat) →
    given_by rules takes deeds ≡ given_by rules others deeds
given_same rules takes others deeds same = λ i. for_each_seat (λ seat. unwrap_or (slice_get (same seat i) 0) (default_answer rules deeds seat))

within : (deeds before later : List Deed) (deed : Deed) → deeds ≡ before ++ deed ∷ later → length before < length deeds
within deeds before later deed e = less _ _ _ (ap (λ (ds : List Deed). length ds) e ∙ length-append before (deed ∷ later))
  where
    less : (n m k : ℕ) → n ≡ m + suc k → m < n
    less n m k e = omega arith

own_decided : (setting : Setting) (now : After) (entry : Entry Answer) (takes : Takes) → is_permitted setting now entry ≡ true → AreSeats now.chairs → AreFilled now
    → Decided setting now.deeds now.slots takes → Decided setting now.deeds (own_part setting now entry).slots (and_taken setting now entry takes)
own_decided setting now entry takes p seats filled d = record {
  slots = λ seat small. own_holds setting now entry p seats filled seat small ∙ ap (λ (xs : List Answer). xs ++ taken setting (length now.deeds) seat now entry) (d.slots seat small);
  none = λ number seat past. (λ i. d.none number seat past i ++ elsewhere setting number seat now entry (longer (length now.deeds) number past) i);
  decided = λ before later deed some e.
      ap (outcome setting.rules setting.walls before) (given_same setting.rules (and_taken setting now entry takes) takes before (λ seat.
      ap (λ (xs : List Answer). takes (length before) seat ++ xs) (elsewhere setting (length before) seat now entry
      (shorter (length now.deeds) (length before) (within now.deeds before later deed e))) ∙ append-nil (takes (length before) seat)))
      ∙ d.decided before later deed some e;
}
  where
    shorter : (n m : ℕ) → m < n → (n == m) ≡ false
    shorter n m h = ne_eqb n m (apart n m h)
      where
        apart : (n m : ℕ) → m < n → n ≡ m → ⊥
        apart n m h e = omega arith

-- its deed

-- A deed of a list with one more is the last one or stands in the list.
abbrev LastOr : List Deed → Deed → List Deed → Deed → List Deed → Type 0
LastOr deeds last before deed later = ((before ≡ deeds) × (deed ≡ last)) ⊎ ((more : List Deed) × (deeds ≡ before ++ deed ∷ more))

last_or : (deeds : List Deed) (last : Deed) (before : List Deed) (deed : Deed) (later : List Deed) → deeds ++ last ∷ [] ≡ before ++ deed ∷ later → LastOr deeds last before deed later
last_or [] last [] deed later e = inl (refl, first_is deed last later [] (sym e))
  where
    first_is : (x y : Deed) (xs ys : List Deed) → x ∷ xs ≡ y ∷ ys → x ≡ y
    first_is x y xs ys e = cc
last_or [] last (first ∷ []) deed later e = cc
last_or [] last (first ∷ second ∷ before) deed later e = cc
last_or (one ∷ deeds) last [] deed later e = inr (deeds, ap (λ (d : Deed). d ∷ deeds) (first_is one deed (deeds ++ last ∷ []) later e))
  where
    first_is : (x y : Deed) (xs ys : List Deed) → x ∷ xs ≡ y ∷ ys → x ≡ y
    first_is x y xs ys e = cc
last_or (one ∷ deeds) last (first ∷ before) deed later e = elim (last_or deeds last before deed later (rest_is one first (deeds ++ last ∷ []) (before ++ deed ∷ later) e)) [
  | inl p ↦ inl ((λ i. sym (first_is one first (deeds ++ last ∷ []) (before ++ deed ∷ later) e) i ∷ p.0 i), p.1)
  | inr p ↦ inr (p.0, (λ i. first_is one first (deeds ++ last ∷ []) (before ++ deed ∷ later) e i ∷ p.1 i))
]
  where
    first_is : (x y : Deed) (xs ys : List Deed) → x ∷ xs ≡ y ∷ ys → x ≡ y
    first_is x y xs ys e = cc

    rest_is : (x y : Deed) (xs ys : List Deed) → x ∷ xs ≡ y ∷ ys → xs ≡ ys
    rest_is x y xs ys e = cc

listed_first : (o : Option Answer) (answer : Answer) → unwrap_or o answer ≡ unwrap_or (slice_get (option_to_list o) 0) answer
listed_first None answer = refl
listed_first (Some said) answer = refl

-- The answers in the slots are those that were taken.
slots_given : (setting : Setting) (deeds : List Deed) (slots : Four (Option Answer)) (takes : Takes) → Decided setting deeds slots takes →
    answers_in setting.rules deeds slots ≡ given_by setting.rules takes deeds
slots_given setting deeds slots takes d = λ i. record { first = one 0 (omega arith) i; second = one 1 (omega arith) i; third = one 2 (omega arith) i; fourth = one 3 (omega arith) i }
  where
    one : (seat : ℕ) → seat < 4 → unwrap_or (at_seat slots seat) (default_answer setting.rules deeds seat) ≡ unwrap_or
        (slice_get (takes (length deeds) seat) 0) (default_answer setting.rules deeds seat)
    one seat small =
        listed_first (at_seat slots seat) (default_answer setting.rules deeds seat)
        ∙ ap (λ (xs : List Answer). unwrap_or (slice_get xs 0) (default_answer setting.rules deeds seat)) (d.slots seat small)

one_longer : (n m : ℕ) → n ≡ m + 1 → m < n
one_longer n m e = omega arith

deed_decided : (setting : Setting) (deeds : List Deed) (slots : Four (Option Answer)) (takes : Takes) (last : Deed) → Decided setting deeds slots takes
    → (1 ≤ length deeds → outcome setting.rules setting.walls deeds (answers_in setting.rules deeds slots) ≡ Some last) → Decided setting (deeds ++ last ∷ []) empty_slots takes
deed_decided setting deeds slots takes last d gives = record {
  slots = λ seat small. ap (λ (o : Option Answer). option_to_list o) (slot-empty seat) ∙ sym (d.none _ seat (one_longer _ _ (length-append deeds (last ∷ []))));
  none = λ number seat past. d.none number seat (further _ _ _ (length-append deeds (last ∷ [])) past);
  decided = λ before later deed some e. elim (last_or deeds last before deed later e) [
    | inl p ↦ subst (λ (ds : List Deed). outcome setting.rules setting.walls ds (given_by setting.rules takes ds) ≡ Some deed) (sym p.0)
        (ap (outcome setting.rules setting.walls deeds) (sym (slots_given setting deeds slots takes d))
        ∙ gives (subst (λ (ds : List Deed). 1 ≤ length ds) p.0 some) ∙ ap (λ (x : Deed). Some x) (sym p.1))
    | inr p ↦ d.decided before p.0 deed some p.1
  ];
}
  where
    further : (n m k : ℕ) → n ≡ m + 1 → n < k → m < k
    further n m k e h = omega arith

next_gives : (setting : Setting) (own : After) (entry : Entry Answer) (last : Deed) → next_deed setting own entry ≡ Some last → 1 ≤ length own.deeds →
    outcome setting.rules setting.walls own.deeds (answers_in setting.rules own.deeds own.slots) ≡ Some last
unfolding next_deed
next_gives setting own entry last e some = by_length (length own.deeds == 0) (is_window_closed own entry) (begun (length own.deeds) some) e
  where
    begun : (n : ℕ) → 1 ≤ n → (n == 0) ≡ false
    begun n h = ne_eqb n 0 (apart n h)
      where
        apart : (n : ℕ) → 1 ≤ n → n ≡ 0 → ⊥
        apart n h e = omega arith

    by_length : (b c : Bool) → b ≡ false
        → (if b then (if length own.chairs == 4 then Some (StartGame (names_of own.chairs)) else None)
        else (if c then outcome setting.rules setting.walls own.deeds (answers_in setting.rules own.deeds own.slots) else None)) ≡ Some last
        → outcome setting.rules setting.walls own.deeds (answers_in setting.rules own.deeds own.slots) ≡ Some last
    by_length true c h e = cc
    by_length false true h e = e
    by_length false false h e = cc

with_deed_decided : (setting : Setting) (own : After) (entry : Entry Answer) (takes : Takes) (added : Option Deed) → next_deed setting own entry ≡ added → Decided setting own.deeds own.slots takes
    → Decided setting (with_deed own added).deeds (with_deed own added).slots takes
with_deed_decided setting own entry takes None e d = d
with_deed_decided setting own entry takes (Some last) e d = deed_decided setting own.deeds own.slots takes last d (next_gives setting own entry last e)

-- a whole game

step_decided : (setting : Setting) (now : After) (entry : Entry Answer) (takes : Takes) → is_permitted setting now entry ≡ true →
    AreSeats now.chairs → AreFilled now → Decided setting now.deeds now.slots takes
    → Decided setting (step setting now entry).deeds (step setting now entry).slots (and_taken setting now entry takes)
unfolding step
step_decided setting now entry takes p seats filled d =
    let own : After = own_part setting now entry in
    with_deed_decided setting own entry (and_taken setting now entry takes) (next_deed setting own entry) refl
    (subst (λ (ds : List Deed). Decided setting ds own.slots (and_taken setting now entry takes)) (sym (own_deeds setting now entry)) (own_decided setting now entry takes p seats filled d))

game_decided : (setting : Setting) (now : After) (entries : List (Entry Answer)) (takes : Takes) → all_permitted setting now entries ≡ true →
    AreSeats now.chairs → AreFilled now → Decided setting now.deeds now.slots takes
    → Decided setting (after_from setting now entries).deeds (after_from setting now entries).slots (λ number seat. takes number seat ++ taken_from setting number seat now entries)
game_decided setting now [] takes p seats filled d = subst (λ (t : Takes). Decided setting now.deeds now.slots t) (λ i number seat. sym (append-nil (takes number seat)) i) d
game_decided setting now (entry ∷ entries) takes p seats filled d =
    let parts = and_parts (is_permitted setting now entry) (all_permitted setting (step setting now entry) entries) p in
    let next : After = step setting now entry in
    subst (λ (t : Takes). Decided setting (after_from setting next entries).deeds (after_from setting next entries).slots t)
    (λ i number seat. append_assoc (takes number seat) (taken setting number seat now entry) (taken_from setting number seat next entries) i)
    (game_decided setting next entries (and_taken setting now entry takes) parts.1 (step_seats setting now entry parts.0 seats) (step_filled setting now entry parts.0 seats filled)
    (step_decided setting now entry takes parts.0 seats filled d))

nothing_decided : (setting : Setting) → Decided setting [] empty_slots (λ number seat. [])
nothing_decided setting = record {
  slots = λ seat small. ap (λ (o : Option Answer). option_to_list o) (slot-empty seat);
  none = λ number seat past. refl;
  decided = λ before later deed some e. absurd (nothing before later deed e);
}
  where
    nothing : (before later : List Deed) (deed : Deed) → [] ≡ before ++ deed ∷ later → ⊥
    nothing [] later deed e = cc
    nothing (first ∷ before) later deed e = cc

legal_decided : (setting : Setting) (entries : List (Entry Answer)) → IsLegal setting entries → Decided setting (after setting entries).deeds (after setting entries).slots (taken_in setting entries)
legal_decided setting entries legal = game_decided setting before_all entries (λ number seat. []) legal.permitted no_seats nothing_filled (nothing_decided setting)

pub slots_hold_the_taken : SlotsHoldTheTaken
slots_hold_the_taken setting entries seat legal small = (legal_decided setting entries legal).slots seat small

pub windows_decide : WindowsDecide
windows_decide setting entries legal = (legal_decided setting entries legal).decided
