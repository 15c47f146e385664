-- What is tried of the answers that a seat may give, and why no other is lawful.
use Rattle.std.proofs.Common.{◌≡◌, ℕ, ◌+◌, ◌-◌, ◌%◌, ◌<◌, ◌≤◌, ◌==◌, ◌&&◌, ◌||◌, ◌⊎◌, inl, inr, Bool, true, false, not, cond, eqb, ltb, List}
use Rattle.std.proofs.Common.{[], ◌∷◌, ◌++◌, length, map, take, drop, get_or, refl, sym, ap, ◌∙◌, arith, append-nil, append_assoc}
use Rattle.std.specs.List.{list_any}
use Rattle.std.specs.Prelude.{Option, Some, None, is_none, nat_lt, filter, flat_map, slice_index, All, bytes_eq, option_to_list, min}
use Rattle.std.proofs.lemmas.Bool.{both_ways, false≢true, false_from_ne_true, and_parts, and_from, or_parts, or_cases, not-false, eq-eqb, eqb-true, ltb-false, le-leb, agree_below_at}
use Rattle.std.proofs.lemmas.List.{take_more, take_all, flat_map_more, map-append}
use Rattle.std.proofs.lemmas.List.Elements.{All-head, All-tail, All-nil, All-cons, All-map, filter-append}
use Rattle.std.proofs.lemmas.List.Sums.{sum_by-cons}
use Rattle.std.proofs.lemmas.Slice.Eq.{bytes_eq-Decides}
use Rattle.mj_tiles.specs.Faces.{kind_of, number_in, tile_order}
use Rattle.mj_tiles.proofs.Faces.{all_faces}
use Rattle.mj_tiles.specs.declared.meld.Meld.{Meld}
use Rattle.mj_calls.specs.Shapes.{is_among, is_run_of, makes_run}
use Rattle.mj_deeds.specs.declared.answer.Pai.TheVariants.{Known}
use Rattle.mj_deeds.specs.declared.answer.Answer.{Answer}
use Rattle.mj_deeds.specs.declared.answer.Answer.TheVariants.{Pass, Discard, Chi, ClosedKan, AddedKan, Reach, Win, NineKinds}
use Rattle.mj_deeds.specs.declared.answer.Pai.{Pai}
use Rattle.mj_deeds.specs.declared.deed.Deed.{Deed}
use Rattle.mj_deeds.specs.declared.rule.Rule.{Rule}
use Rattle.mj_deeds.specs.declared.rule.Rule.TheVariants.{NotNow, Locked}
use Rattle.mj_deeds.specs.Facts.{is_pon}
use Rattle.mj_wall.specs.declared.setting.Rules.{Rules}
use Rattle.mj_rules.specs.View.{WindowTurn, Drew, Discarded, Added, Reached, Called, Nobodys, SeatView, view_of, held_count}
use Rattle.mj_rules.specs.Broken.{is_open, is_before, is_wrongly_marked, is_not_nine, questions, first_broken, broken_by}
use Rattle.mj_rules.specs.Possible.{is_lawful, faces_of, discards_of, all_discards, chis_with, all_chis, all_calls, closed_kans_of}
use Rattle.mj_rules.specs.Possible.{all_closed_kans, added_kans_of, all_added_kans, triplets, all_wins, possible_by, possible}
use Rattle.mj_rules.proofs.Listed.{lawful_clear}
use Rattle.mj_rules.proofs.ListedOrder.{of_all, all_mapped, all_joined}
use Rattle.mj_judge.specs.Inner.Tried.{lawful_among, is_own_draw, is_discarding, is_winning, is_near, red_of}
use Rattle.mj_judge.proofs.Verdicts.{others_decide}

-- where nothing is lawful

-- An answer that is not lawful, in the words of a test.
abbrev pub Fails : Rules → ℕ → SeatView → Answer → Type 0
Fails rules seat view answer = is_lawful rules seat view answer ≡ false

pub none_pass : {A : Type 0} (p : A → Bool) (xs : List A) → All (λ x. p x ≡ false) xs → filter p xs ≡ []
none_pass p [] fail = refl
none_pass p (x ∷ xs) fail =
    ap (λ b. cond b (x ∷ filter p xs) (filter p xs)) (All-head (λ y. p y ≡ false) x xs fail) ∙ none_pass p xs (All-tail (λ y. p y ≡ false) x xs fail)

pub one_fails : (rules : Rules) (ds : List Deed) (seat : ℕ) (answer : Answer) → Fails rules seat (view_of ds seat) answer → lawful_among rules ds seat (answer ∷ []) ≡ []
unfolding lawful_among
one_fails rules ds seat answer fails = none_pass (is_lawful rules seat (view_of ds seat)) (answer ∷ []) (All-cons (Fails rules seat (view_of ds seat))
    answer [] fails (All-nil (Fails rules seat (view_of ds seat))))

-- It is not open to the seat.
pub not_open : (rules : Rules) (seat : ℕ) (view : SeatView) (answer : Answer) → is_open rules seat view.turn view.accepted answer ≡ false → Fails rules seat view answer
not_open rules seat view answer shut = false_from_ne_true (is_lawful rules seat view answer)
    (λ lawful. both_ways (is_open rules seat view.turn view.accepted answer) shut
    (not-false (is_open rules seat view.turn view.accepted answer) (lawful_clear rules seat view answer lawful).1.1.0))

both_false : (b : Bool) → cond b false false ≡ false
both_false true = refl
both_false false = refl

-- A discard is not where the seat may not discard.
discard_shut : (rules : Rules) (seat : ℕ) (turn : WindowTurn) (accepted : Bool) (face : ℕ) (drawn : Bool) → is_discarding seat turn ≡ false →
    is_open rules seat turn accepted (Discard seat (Known face) drawn) ≡ false
discard_shut rules seat (Drew who) accepted face drawn h = ap (λ b. cond b true false) h
discard_shut rules seat (Reached who) accepted face drawn h = ap (λ b. cond b true false) h
discard_shut rules seat (Called who banned) accepted face drawn h = ap (λ b. cond b true false) h
discard_shut rules seat (Discarded who tile) accepted face drawn h = both_false (who == seat)
discard_shut rules seat (Added who tile) accepted face drawn h = both_false (who == seat)
discard_shut rules seat Nobodys accepted face drawn h = refl

-- Nor is a kan of one's own tiles but at one's own draw.
closed_shut : (rules : Rules) (seat : ℕ) (turn : WindowTurn) (accepted : Bool) (a b c d : ℕ) → is_own_draw seat turn ≡ false →
    is_open rules seat turn accepted (ClosedKan seat (Known a) (Known b) (Known c) (Known d)) ≡ false
closed_shut rules seat (Drew who) accepted a b c d h = ap (λ b. cond b true false) h
closed_shut rules seat (Reached who) accepted a b c d h = both_false (who == seat)
closed_shut rules seat (Called who banned) accepted a b c d h = both_false (who == seat)
closed_shut rules seat (Discarded who tile) accepted a b c d h = both_false (who == seat)
closed_shut rules seat (Added who tile) accepted a b c d h = both_false (who == seat)
closed_shut rules seat Nobodys accepted a b c d h = refl

added_shut : (rules : Rules) (seat : ℕ) (turn : WindowTurn) (accepted : Bool) (face a b c : ℕ) → is_own_draw seat turn ≡ false →
    is_open rules seat turn accepted (AddedKan seat (Known face) (Known a) (Known b) (Known c)) ≡ false
added_shut rules seat (Drew who) accepted face a b c h = ap (λ b. cond b true false) h
added_shut rules seat (Reached who) accepted face a b c h = both_false (who == seat)
added_shut rules seat (Called who banned) accepted face a b c h = both_false (who == seat)
added_shut rules seat (Discarded who tile) accepted face a b c h = both_false (who == seat)
added_shut rules seat (Added who tile) accepted face a b c h = both_false (who == seat)
added_shut rules seat Nobodys accepted face a b c h = refl

-- Nor are a reach and nine kinds.
pub reach_shut : (rules : Rules) (seat : ℕ) (turn : WindowTurn) (accepted : Bool) → is_own_draw seat turn ≡ false → is_open rules seat turn accepted (Reach seat) ≡ false
reach_shut rules seat (Drew who) accepted h = ap (λ b. cond b (not accepted) false) h
reach_shut rules seat (Reached who) accepted h = both_false (who == seat)
reach_shut rules seat (Called who banned) accepted h = both_false (who == seat)
reach_shut rules seat (Discarded who tile) accepted h = both_false (who == seat)
reach_shut rules seat (Added who tile) accepted h = both_false (who == seat)
reach_shut rules seat Nobodys accepted h = refl

nine_shut : (rules : Rules) (seat : ℕ) (turn : WindowTurn) (accepted : Bool) → is_own_draw seat turn ≡ false → is_open rules seat turn accepted (NineKinds seat) ≡ false
nine_shut rules seat (Drew who) accepted h = ap (λ b. cond b rules.draws false) h
nine_shut rules seat (Reached who) accepted h = both_false (who == seat)
nine_shut rules seat (Called who banned) accepted h = both_false (who == seat)
nine_shut rules seat (Discarded who tile) accepted h = both_false (who == seat)
nine_shut rules seat (Added who tile) accepted h = both_false (who == seat)
nine_shut rules seat Nobodys accepted h = refl

pub no_reach : (rules : Rules) (ds : List Deed) (seat : ℕ) → is_own_draw seat (view_of ds seat).turn ≡ false → lawful_among rules ds seat (Reach seat ∷ []) ≡ []
no_reach rules ds seat shut =
    let view = view_of ds seat in
    one_fails rules ds seat (Reach seat) (not_open rules seat view (Reach seat) (reach_shut rules seat view.turn view.accepted shut))

pub no_nine_kinds : (rules : Rules) (ds : List Deed) (seat : ℕ) → is_own_draw seat (view_of ds seat).turn ≡ false → lawful_among rules ds seat (NineKinds seat ∷ []) ≡ []
no_nine_kinds rules ds seat shut =
    let view = view_of ds seat in
    one_fails rules ds seat (NineKinds seat) (not_open rules seat view (NineKinds seat) (nine_shut rules seat view.turn view.accepted shut))

-- A win is on the own draw, or on the tile of another.
pub not_nine : (rules : Rules) (ds : List Deed) (seat : ℕ) → is_not_nine (view_of ds seat) (NineKinds seat) ≡ true → lawful_among rules ds seat (NineKinds seat ∷ []) ≡ []
not_nine rules ds seat refused =
    let view = view_of ds seat in
    one_fails rules ds seat (NineKinds seat)
    (false_from_ne_true (is_lawful rules seat view (NineKinds seat))
    (λ lawful. both_ways (is_not_nine view (NineKinds seat)) (lawful_clear rules seat view (NineKinds seat) lawful).1.1.1.1.1.1.1.1.1.1.1.1.1.1.1.1.1.1.1.1.1.1.1.0 refused))

pub no_wins : (rules : Rules) (ds : List Deed) (seat : ℕ) → is_winning seat (view_of ds seat).turn ≡ false → lawful_among rules ds seat (all_wins seat (view_of ds seat).turn) ≡ []
unfolding lawful_among
no_wins rules ds seat shut = by_turn (view_of ds seat).turn refl shut
  where
    fails : (who : ℕ) (turn : WindowTurn) → (view_of ds seat).turn ≡ turn → is_open rules seat turn (view_of ds seat).accepted (Win seat who None) ≡
        false → lawful_among rules ds seat (Win seat who None ∷ []) ≡ []
    fails who turn is closed =
        one_fails rules ds seat (Win seat who None) (not_open rules seat (view_of ds seat) (Win seat who None)
        (ap (λ (t : WindowTurn). is_open rules seat t (view_of ds seat).accepted (Win seat who None)) is ∙ closed))

    own_alone : (b : Bool) → not b ≡ false → cond b false true ≡ false
    own_alone b h = ap (λ c. cond c false true) (not-false b h)

    by_turn : (turn : WindowTurn) → (view_of ds seat).turn ≡ turn → is_winning seat turn ≡ false → lawful_among rules ds seat (all_wins seat turn) ≡ []
    by_turn (Drew who) is h = fails who (Drew who) is (ap (λ b. cond b true false) h)
    by_turn (Discarded who tile) is h = fails who (Discarded who tile) is (own_alone (who == seat) h)
    by_turn (Added who tile) is h = fails who (Added who tile) is (own_alone (who == seat) h)
    by_turn (Reached who) is h = refl
    by_turn (Called who banned) is h = refl
    by_turn Nobodys is h = refl

-- A pass is open, and so lawful, where the seat may not discard.
pass_open : (rules : Rules) (seat : ℕ) (turn : WindowTurn) (accepted : Bool) → is_open rules seat turn accepted (Pass None) ≡ not (is_discarding seat turn)
pass_open rules seat turn accepted = at turn
  where
    other : (b : Bool) → cond b false true ≡ not b
    other true = refl
    other false = refl

    always : (b : Bool) → cond b true true ≡ true
    always true = refl
    always false = refl

    at : (turn : WindowTurn) → is_open rules seat turn accepted (Pass None) ≡ not (is_discarding seat turn)
    at (Drew who) = other (who == seat)
    at (Reached who) = other (who == seat)
    at (Called who banned) = other (who == seat)
    at (Discarded who tile) = always (who == seat)
    at (Added who tile) = always (who == seat)
    at Nobodys = refl

pub pass_lawful : (rules : Rules) (seat : ℕ) (view : SeatView) → is_lawful rules seat view (Pass None) ≡ not (is_discarding seat view.turn)
unfolding is_lawful broken_by
pass_lawful rules seat view = refused_alone (is_open rules seat view.turn view.accepted (Pass None)) view.accepted ∙ pass_open rules seat view.turn view.accepted
  where
    refused_alone : (b a : Bool) → is_none {T = Rule} (cond (not b) (Some NotNow) (cond (a && false) (Some Locked) None)) ≡ b
    refused_alone true true = refl
    refused_alone true false = refl
    refused_alone false a = refl

-- A pass that is lawful breaks no rule.
pub pass_unbroken : (rules : Rules) (seat : ℕ) (view : SeatView) → is_lawful rules seat view (Pass None) ≡ true → None ≡ broken_by rules seat view (Pass None)
unfolding is_lawful
pass_unbroken rules seat view h = none_of (broken_by rules seat view (Pass None)) h
  where
    none_of : (o : Option Rule) → is_none o ≡ true → None ≡ o
    none_of None h = refl
    none_of (Some rule) h = absurd (false≢true h)

-- A discard that is open to the seat breaks at most a rule that comes after.
discard_open : (rules : Rules) (seat : ℕ) (turn : WindowTurn) (accepted : Bool) (face : Pai) (drawn : Bool) → is_discarding seat turn ≡ true →
    is_open rules seat turn accepted (Discard seat face drawn) ≡ true
discard_open rules seat (Drew who) accepted face drawn h = ap (λ b. cond b true false) h
discard_open rules seat (Reached who) accepted face drawn h = ap (λ b. cond b true false) h
discard_open rules seat (Called who banned) accepted face drawn h = ap (λ b. cond b true false) h
discard_open rules seat (Discarded who tile) accepted face drawn h = absurd (false≢true h)
discard_open rules seat (Added who tile) accepted face drawn h = absurd (false≢true h)
discard_open rules seat Nobodys accepted face drawn h = absurd (false≢true h)

-- So the rules of discards decide.
pub discard_decided : (rules : Rules) (seat actor : ℕ) (view : SeatView) (tile : Pai) (drawn : Bool) → actor ≡ seat → is_discarding seat view.turn ≡ true →
    first_broken (drop 3 (questions rules seat view (Discard actor tile drawn))) ≡ broken_by rules seat view (Discard actor tile drawn)
unfolding broken_by
discard_decided rules seat actor view tile drawn own may =
    let asked : List (Bool × Rule) = questions rules seat view (Discard actor tile drawn) in
    sym (others_decide (take 3 asked) (drop 3 asked) (
      refl,
      (
        ap not (eq-eqb actor seat own),
        (
          ap not (ap (λ (who : ℕ). is_open rules seat view.turn view.accepted (Discard who tile drawn)) own
              ∙ discard_open rules seat view.turn view.accepted tile drawn may),
          tt,
        ),
      ),
    ))

pub discard_judged : (rules : Rules) (seat actor : ℕ) (view : SeatView) (tile : Pai) (drawn : Bool) → actor ≡ seat → is_discarding seat view.turn ≡ true →
    is_lawful rules seat view (Discard actor tile drawn) ≡ is_none (first_broken (drop 3 (questions rules seat view (Discard actor tile drawn))))
unfolding is_lawful
discard_judged rules seat actor view tile drawn own may = ap is_none (sym (discard_decided rules seat actor view tile drawn own may))

pub no_discards : (rules : Rules) (ds : List Deed) (seat : ℕ) → is_discarding seat (view_of ds seat).turn ≡ false → lawful_among rules ds seat (all_discards seat) ≡ []
unfolding lawful_among all_discards
no_discards rules ds seat shut =
    let view = view_of ds seat in
    let fails : (face : ℕ) (drawn : Bool) → Fails rules seat view (Discard seat (Known face) drawn) =
    λ face drawn. not_open rules seat view (Discard seat (Known face) drawn) (discard_shut rules seat view.turn view.accepted face drawn shut) in
    none_pass (is_lawful rules seat view) (flat_map (discards_of seat) tile_order)
    (all_joined (Fails rules seat view) (discards_of seat) tile_order
    (λ face. All-cons (Fails rules seat view) (Discard seat (Known face) false) (Discard seat (Known face) true ∷ []) (fails face false)
    (All-cons (Fails rules seat view) (Discard seat (Known face) true) [] (fails face true) (All-nil (Fails rules seat view)))))

pub no_closed_kans : (rules : Rules) (ds : List Deed) (seat : ℕ) → is_own_draw seat (view_of ds seat).turn ≡ false → lawful_among rules ds seat (all_closed_kans seat) ≡ []
unfolding lawful_among all_closed_kans
no_closed_kans rules ds seat shut =
    let view = view_of ds seat in
    none_pass (is_lawful rules seat view) (flat_map (λ a. closed_kans_of seat a (faces_of (kind_of a))) tile_order)
    (all_joined (Fails rules seat view) (λ a. closed_kans_of seat a (faces_of (kind_of a))) tile_order
    (λ a. all_joined (Fails rules seat view) (λ b. flat_map (λ c. map (λ d. ClosedKan seat (Known a) (Known b) (Known c) (Known d))
    (faces_of (kind_of a))) (faces_of (kind_of a))) (faces_of (kind_of a))
    (λ b. all_joined (Fails rules seat view) (λ c. map (λ d. ClosedKan seat (Known a) (Known b) (Known c) (Known d)) (faces_of (kind_of a))) (faces_of (kind_of a))
    (λ c. all_mapped (Fails rules seat view) (λ d. ClosedKan seat (Known a) (Known b) (Known c) (Known d)) (faces_of (kind_of a))
    (λ d. not_open rules seat view (ClosedKan seat (Known a) (Known b) (Known c) (Known d)) (closed_shut rules seat view.turn view.accepted a b c d shut))))))

-- The kans by adding a tile of a face, where each fails.
added_fail : (rules : Rules) (seat : ℕ) (view : SeatView) (face : ℕ) (melds : List Meld) →
    ((meld : Meld) → Fails rules seat view (AddedKan seat (Known face) (Known meld.a) (Known meld.b) (Known meld.c))) →
    All (Fails rules seat view) (added_kans_of seat face melds)
added_fail rules seat view face melds each =
    All-map (Fails rules seat view) (λ (meld : Meld). AddedKan seat (Known face) (Known meld.a) (Known meld.b) (Known meld.c)) melds
    (of_all (λ (meld : Meld). Fails rules seat view (AddedKan seat (Known face) (Known meld.a) (Known meld.b) (Known meld.c))) melds each)

pub no_added_kans : (rules : Rules) (ds : List Deed) (seat : ℕ) (melds : List Meld) → is_own_draw seat (view_of ds seat).turn ≡ false → lawful_among rules ds seat (all_added_kans seat melds) ≡ []
unfolding lawful_among all_added_kans
no_added_kans rules ds seat melds shut =
    let view = view_of ds seat in
    none_pass (is_lawful rules seat view) (flat_map (λ face. added_kans_of seat face melds) tile_order)
    (all_joined (Fails rules seat view) (λ face. added_kans_of seat face melds) tile_order
    (λ face. added_fail rules seat view face melds (λ meld. not_open rules seat view (AddedKan seat (Known face) (Known meld.a) (Known meld.b) (Known meld.c))
    (added_shut rules seat view.turn view.accepted face meld.a meld.b meld.c shut))))

-- Nor is one where no triplet was taken.
none_among : {A : Type 0} (p : A → Bool) (xs : List A) → list_any p xs ≡ false → filter p xs ≡ []
none_among p [] none = refl
none_among p (x ∷ xs) none =
    let parts = or_parts (p x) (list_any p xs) none in
    ap (λ b. cond b (x ∷ filter p xs) (filter p xs)) parts.0 ∙ none_among p xs parts.1

none_to_add_to : (rules : Rules) (ds : List Deed) (seat : ℕ) → lawful_among rules ds seat (all_added_kans seat []) ≡ []
unfolding lawful_among all_added_kans tile_order
none_to_add_to rules ds seat = refl

pub no_pon : (rules : Rules) (ds : List Deed) (seat : ℕ) (melds : List Meld) (has : Bool) → melds ≡ (view_of ds seat).melds → has ≡ list_any (λ (meld : Meld). is_pon meld.form) melds → has ≡ false →
    lawful_among rules ds seat (all_added_kans seat (triplets (view_of ds seat))) ≡ []
no_pon rules ds seat melds has are is none =
    ap (λ (ms : List Meld). lawful_among rules ds seat (all_added_kans seat (filter (λ (meld : Meld). is_pon meld.form) ms))) (sym are)
    ∙ ap (λ (ms : List Meld). lawful_among rules ds seat (all_added_kans seat ms)) (none_among (λ (meld : Meld). is_pon meld.form) melds (sym is ∙ none))
    ∙ none_to_add_to rules ds seat

-- A chi is of the seat after the discarder alone.
pub no_chis : (rules : Rules) (ds : List Deed) (seat who tile : ℕ) → is_before (view_of ds seat).turn seat ≡ false → lawful_among rules ds seat (all_chis seat who tile) ≡ []
unfolding lawful_among all_chis
no_chis rules ds seat who tile other =
    let view = view_of ds seat in
    none_pass (is_lawful rules seat view) (flat_map (chis_with seat who tile) tile_order)
    (all_joined (Fails rules seat view) (chis_with seat who tile) tile_order
    (λ a. all_mapped (Fails rules seat view) (λ b. Chi seat who (Known tile) (Known a) (Known b)) tile_order
    (λ b. false_from_ne_true (is_lawful rules seat view (Chi seat who (Known tile) (Known a) (Known b)))
    (λ lawful. both_ways (is_before view.turn seat) other
    (not-false (is_before view.turn seat) (lawful_clear rules seat view (Chi seat who (Known tile) (Known a) (Known b)) lawful).1.1.1.1.1.1.1.1.1.1.0)))))

-- a tile that is not held

one_of : (face : ℕ) (faces : List ℕ) → 0 < number_in (face ∷ faces) face
one_of face faces = some _ _ _ (sum_by-cons (λ x. cond (eqb x face) 1 0) face faces) (ap (λ b. cond b 1 0) (eq-eqb face face refl))
  where
    some : (a b c : ℕ) → a ≡ b + c → b ≡ 1 → 0 < a
    some a b c e f = omega (arith, e, f)

second_of : (face other : ℕ) (faces : List ℕ) → 0 < number_in (other ∷ face ∷ faces) face
second_of face other faces = some _ _ _ (sum_by-cons (λ x. cond (eqb x face) 1 0) other (face ∷ faces)) (one_of face faces)
  where
    some : (a b c : ℕ) → a ≡ b + c → 0 < c → 0 < a
    some a b c e f = omega (arith, e, f)

-- None is held where a table says so.
pub none_held : (got gone counted : ℕ) → counted ≡ min (got - gone) 4 → counted ≡ 0 → got - gone ≡ 0
none_held got gone counted is none = zero_of (got - gone) counted is none
  where
    zero_of : (n m : ℕ) → m ≡ min n 4 → m ≡ 0 → n ≡ 0
    zero_of n m e h = omega (arith, e, h)

short : (held named : ℕ) → held ≡ 0 → 0 < named → ltb held named ≡ false → ⊥
short held named none some enough = no held named none some (ltb-false held named enough)
  where
    no : (h n : ℕ) → h ≡ 0 → 0 < n → n ≤ h → ⊥
    no h n e f g = omega (arith, e, f, g)

not_held-discard : (rules : Rules) (seat : ℕ) (view : SeatView) (face : ℕ) (drawn : Bool) → held_count view face ≡ 0 → Fails rules seat view (Discard seat (Known face) drawn)
not_held-discard rules seat view face drawn none = false_from_ne_true (is_lawful rules seat view (Discard seat (Known face) drawn))
    (λ lawful. short (held_count view face) (number_in (face ∷ []) face) none (one_of face [])
    (or_parts (nat_lt (held_count view face) (number_in (face ∷ []) face)) _ (lawful_clear rules seat view (Discard seat (Known face) drawn) lawful).1.1.1.1.1.1.0).0)

pub not_held-chi : (rules : Rules) (seat : ℕ) (view : SeatView) (who tile a b : ℕ) → held_count view a ≡ 0 → Fails rules seat view (Chi seat who (Known tile) (Known a) (Known b))
not_held-chi rules seat view who tile a b none = false_from_ne_true (is_lawful rules seat view (Chi seat who (Known tile) (Known a) (Known b)))
    (λ lawful. short (held_count view a) (number_in (a ∷ b ∷ []) a) none (one_of a (b ∷ []))
    (or_parts (nat_lt (held_count view a) (number_in (a ∷ b ∷ []) a)) _ (lawful_clear rules seat view (Chi seat who (Known tile) (Known a) (Known b)) lawful).1.1.1.1.1.1.0).0)

pub other_not_held-chi : (rules : Rules) (seat : ℕ) (view : SeatView) (who tile a b : ℕ) → held_count view b ≡ 0 → Fails rules seat view (Chi seat who (Known tile) (Known a) (Known b))
other_not_held-chi rules seat view who tile a b none = false_from_ne_true (is_lawful rules seat view (Chi seat who (Known tile) (Known a) (Known b)))
    (λ lawful. short (held_count view b) (number_in (a ∷ b ∷ []) b) none (second_of b a [])
    (or_parts (nat_lt (held_count view b) (number_in (a ∷ b ∷ []) b)) _
    (or_parts (nat_lt (held_count view a) (number_in (a ∷ b ∷ []) a)) _ (lawful_clear rules seat view (Chi seat who (Known tile) (Known a) (Known b)) lawful).1.1.1.1.1.1.0).1).0)

pub not_run-chi : (rules : Rules) (seat : ℕ) (view : SeatView) (who tile a b : ℕ) → makes_run tile a b ≡ false → Fails rules seat view (Chi seat who (Known tile) (Known a) (Known b))
not_run-chi rules seat view who tile a b none = false_from_ne_true (is_lawful rules seat view (Chi seat who (Known tile) (Known a) (Known b)))
    (λ lawful. both_ways (makes_run tile a b) none
    (not-false (makes_run tile a b) (lawful_clear rules seat view (Chi seat who (Known tile) (Known a) (Known b)) lawful).1.1.1.1.1.1.1.1.1.0))

not_held-closed : (rules : Rules) (seat : ℕ) (view : SeatView) (a b c d : ℕ) → held_count view a ≡ 0 → Fails rules seat view (ClosedKan seat (Known a) (Known b) (Known c) (Known d))
not_held-closed rules seat view a b c d none = false_from_ne_true (is_lawful rules seat view (ClosedKan seat (Known a) (Known b) (Known c) (Known d)))
    (λ lawful. short (held_count view a) (number_in (a ∷ b ∷ c ∷ d ∷ []) a) none (one_of a (b ∷ c ∷ d ∷ []))
    (or_parts (nat_lt (held_count view a) (number_in (a ∷ b ∷ c ∷ d ∷ []) a)) _ (lawful_clear rules seat view (ClosedKan seat (Known a) (Known b) (Known c) (Known d)) lawful).1.1.1.1.1.1.0).0)

not_held-added : (rules : Rules) (seat : ℕ) (view : SeatView) (face a b c : ℕ) → held_count view face ≡ 0 → Fails rules seat view (AddedKan seat (Known face) (Known a) (Known b) (Known c))
not_held-added rules seat view face a b c none = false_from_ne_true (is_lawful rules seat view (AddedKan seat (Known face) (Known a) (Known b) (Known c)))
    (λ lawful. short (held_count view face) (number_in (face ∷ []) face) none (one_of face [])
    (or_parts (nat_lt (held_count view face) (number_in (face ∷ []) face)) _ (lawful_clear rules seat view (AddedKan seat (Known face) (Known a) (Known b) (Known c)) lawful).1.1.1.1.1.1.0).0)

-- A discard that is marked as the drawn tile and isn't that one.
not_drawn-discard : (rules : Rules) (seat : ℕ) (view : SeatView) (face : ℕ) → is_wrongly_marked view (Known face) true ≡ true → Fails rules seat view (Discard seat (Known face) true)
not_drawn-discard rules seat view face wrong = false_from_ne_true (is_lawful rules seat view (Discard seat (Known face) true))
    (λ lawful. both_ways (is_wrongly_marked view (Known face) true) (lawful_clear rules seat view (Discard seat (Known face) true) lawful).1.1.1.1.1.1.1.0 wrong)

-- In lists of such answers none is lawful.

pub no_discards_of : (rules : Rules) (ds : List Deed) (seat face : ℕ) → held_count (view_of ds seat) face ≡ 0 → lawful_among rules ds seat (discards_of seat face) ≡ []
unfolding lawful_among
no_discards_of rules ds seat face none =
    let view = view_of ds seat in
    none_pass (is_lawful rules seat view) (discards_of seat face)
    (All-cons (Fails rules seat view) (Discard seat (Known face) false) (Discard seat (Known face) true ∷ []) (not_held-discard rules seat view face false none)
    (All-cons (Fails rules seat view) (Discard seat (Known face) true) [] (not_held-discard rules seat view face true none) (All-nil (Fails rules seat view))))

pub no_chis_with : (rules : Rules) (ds : List Deed) (seat who tile a : ℕ) → held_count (view_of ds seat) a ≡ 0 → lawful_among rules ds seat (chis_with seat who tile a) ≡ []
unfolding lawful_among
no_chis_with rules ds seat who tile a none =
    let view = view_of ds seat in
    none_pass (is_lawful rules seat view) (chis_with seat who tile a)
    (all_mapped (Fails rules seat view) (λ b. Chi seat who (Known tile) (Known a) (Known b)) tile_order (λ b. not_held-chi rules seat view who tile a b none))

pub no_chi : (rules : Rules) (ds : List Deed) (seat who tile a b : ℕ) → held_count (view_of ds seat) b ≡ 0 → lawful_among rules ds seat (Chi seat who (Known tile) (Known a) (Known b) ∷ []) ≡ []
no_chi rules ds seat who tile a b none = one_fails rules ds seat (Chi seat who (Known tile) (Known a) (Known b)) (other_not_held-chi rules seat (view_of ds seat) who tile a b none)

pub no_run : (rules : Rules) (ds : List Deed) (seat who tile a b : ℕ) → makes_run tile a b ≡ false → lawful_among rules ds seat (Chi seat who (Known tile) (Known a) (Known b) ∷ []) ≡ []
no_run rules ds seat who tile a b none = one_fails rules ds seat (Chi seat who (Known tile) (Known a) (Known b)) (not_run-chi rules seat (view_of ds seat) who tile a b none)

-- The tiles of a run are near one another.
near_run : (x y z : ℕ) → is_run_of x y z ≡ true → ((y ≤ x + 2) × (x ≤ y + 2)) × ((z ≤ x + 2) × (x ≤ z + 2))
unfolding is_run_of
near_run x y z run =
    let low = min x (min y z) in
    let last = and_parts (nat_lt low 27 && nat_lt (low % 9) 7 && is_among (low + 1) x y z) (is_among (low + 2) x y z) run in
    let next = and_parts (nat_lt low 27 && nat_lt (low % 9) 7) (is_among (low + 1) x y z) last.0 in
    by_places low (low + 1) (low + 2) x y z refl refl refl (among (low + 1) x y z next.1) (among (low + 2) x y z last.1)
  where
    among : (kind x y z : ℕ) → is_among kind x y z ≡ true → (kind ≡ x) ⊎ ((kind ≡ y) ⊎ (kind ≡ z))
    among kind x y z h = elim (or_cases (kind == x || kind == y) (kind == z) h) [
      | inl other ↦ elim (or_cases (kind == x) (kind == y) other) [ inl e ↦ inl (eqb-true kind x e) | inr e ↦ inr (inl (eqb-true kind y e)) ]
      | inr e ↦ inr (inr (eqb-true kind z e))
    ]

    by_places : (low next last x y z : ℕ) → low ≡ min x (min y z) → next ≡ low + 1 → last ≡ low + 2 → (next ≡ x) ⊎ ((next ≡ y) ⊎ (next ≡ z)) → (last ≡ x) ⊎ ((last ≡ y) ⊎ (last ≡ z)) →
        ((y ≤ x + 2) × (x ≤ y + 2)) × ((z ≤ x + 2) × (x ≤ z + 2))
    by_places low next last x y z a b c (inl d) (inl e) = ((omega (arith, a, b, c, d, e), omega (arith, a, b, c, d, e)), (omega (arith, a, b, c, d, e), omega (arith, a, b, c, d, e)))
    by_places low next last x y z a b c (inl d) (inr (inl e)) = ((omega (arith, a, b, c, d, e), omega (arith, a, b, c, d, e)), (omega (arith, a, b, c, d, e), omega (arith, a, b, c, d, e)))
    by_places low next last x y z a b c (inl d) (inr (inr e)) = ((omega (arith, a, b, c, d, e), omega (arith, a, b, c, d, e)), (omega (arith, a, b, c, d, e), omega (arith, a, b, c, d, e)))
    by_places low next last x y z a b c (inr (inl d)) (inl e) = ((omega (arith, a, b, c, d, e), omega (arith, a, b, c, d, e)), (omega (arith, a, b, c, d, e), omega (arith, a, b, c, d, e)))
    by_places low next last x y z a b c (inr (inl d)) (inr (inl e)) = ((omega (arith, a, b, c, d, e), omega (arith, a, b, c, d, e)), (omega (arith, a, b, c, d, e), omega (arith, a, b, c, d, e)))
    by_places low next last x y z a b c (inr (inl d)) (inr (inr e)) = ((omega (arith, a, b, c, d, e), omega (arith, a, b, c, d, e)), (omega (arith, a, b, c, d, e), omega (arith, a, b, c, d, e)))
    by_places low next last x y z a b c (inr (inr d)) (inl e) = ((omega (arith, a, b, c, d, e), omega (arith, a, b, c, d, e)), (omega (arith, a, b, c, d, e), omega (arith, a, b, c, d, e)))
    by_places low next last x y z a b c (inr (inr d)) (inr (inl e)) = ((omega (arith, a, b, c, d, e), omega (arith, a, b, c, d, e)), (omega (arith, a, b, c, d, e), omega (arith, a, b, c, d, e)))
    by_places low next last x y z a b c (inr (inr d)) (inr (inr e)) = ((omega (arith, a, b, c, d, e), omega (arith, a, b, c, d, e)), (omega (arith, a, b, c, d, e), omega (arith, a, b, c, d, e)))

far_run : (tile a b : ℕ) → is_near tile a ≡ false → makes_run tile a b ≡ false
far_run tile a b far = false_from_ne_true (makes_run tile a b)
    (λ run. let near = (near_run (kind_of tile) (kind_of a) (kind_of b) run).0 in
    both_ways (is_near tile a) far (and_from _ _ (le-leb _ _ near.0) (le-leb _ _ near.1)))

far_other : (tile a b : ℕ) → is_near tile b ≡ false → makes_run tile a b ≡ false
far_other tile a b far = false_from_ne_true (makes_run tile a b)
    (λ run. let near = (near_run (kind_of tile) (kind_of a) (kind_of b) run).1 in
    both_ways (is_near tile b) far (and_from _ _ (le-leb _ _ near.0) (le-leb _ _ near.1)))

pub no_far_chi : (rules : Rules) (ds : List Deed) (seat who tile a b : ℕ) → is_near tile b ≡ false → lawful_among rules ds seat (Chi seat who (Known tile) (Known a) (Known b) ∷ []) ≡ []
no_far_chi rules ds seat who tile a b far = no_run rules ds seat who tile a b (far_other tile a b far)

pub no_far_chis : (rules : Rules) (ds : List Deed) (seat who tile a : ℕ) → is_near tile a ≡ false → lawful_among rules ds seat (chis_with seat who tile a) ≡ []
unfolding lawful_among
no_far_chis rules ds seat who tile a far =
    let view = view_of ds seat in
    none_pass (is_lawful rules seat view) (chis_with seat who tile a)
    (all_mapped (Fails rules seat view) (λ b. Chi seat who (Known tile) (Known a) (Known b)) tile_order (λ b. not_run-chi rules seat view who tile a b (far_run tile a b far)))

-- A kan of fewer than four.
three_of : (a plain : ℕ) → 3 ≤ number_in (a ∷ plain ∷ plain ∷ plain ∷ []) plain
three_of a plain =
    many _ _ _ _ _ _ _ (sum_by-cons one a (plain ∷ plain ∷ plain ∷ [])) (sum_by-cons one plain (plain ∷ plain ∷ [])) (sum_by-cons one plain (plain ∷ [])) (sum_by-cons one plain [])
    (ap (λ b. cond b 1 0) (eq-eqb plain plain refl))
  where
    one : ℕ → ℕ
    one x = cond (eqb x plain) 1 0

    many : (a b c d e f g : ℕ) → a ≡ f + b → b ≡ g + c → c ≡ g + d → d ≡ g + e → g ≡ 1 → 3 ≤ a
    many a b c d e f g p q r s t = omega (arith, p, q, r, s, t)

not_held-plain : (rules : Rules) (seat : ℕ) (view : SeatView) (a plain : ℕ) → held_count view plain < 3 → Fails rules seat view (ClosedKan seat (Known a) (Known plain) (Known plain) (Known plain))
not_held-plain rules seat view a plain few = false_from_ne_true (is_lawful rules seat view (ClosedKan seat (Known a) (Known plain) (Known plain) (Known plain)))
    (λ lawful. no (held_count view plain) (number_in (a ∷ plain ∷ plain ∷ plain ∷ []) plain) few (three_of a plain)
    (ltb-false (held_count view plain) (number_in (a ∷ plain ∷ plain ∷ plain ∷ []) plain)
    (or_parts (nat_lt (held_count view plain) (number_in (a ∷ plain ∷ plain ∷ plain ∷ []) plain)) _
    (or_parts (nat_lt (held_count view a) (number_in (a ∷ plain ∷ plain ∷ plain ∷ []) a)) _
    (lawful_clear rules seat view (ClosedKan seat (Known a) (Known plain) (Known plain) (Known plain)) lawful).1.1.1.1.1.1.0).1).0))
  where
    no : (h n : ℕ) → h < 3 → 3 ≤ n → n ≤ h → ⊥
    no h n e f g = omega (arith, e, f, g)

-- Fewer than three are held where a table says so.
pub few_held : (got gone counted : ℕ) → counted ≡ min (got - gone) 4 → counted < 3 → got - gone < 3
few_held got gone counted is few = few_of (got - gone) counted is few
  where
    few_of : (n m : ℕ) → m ≡ min n 4 → m < 3 → n < 3
    few_of n m e h = omega (arith, e, h)

pub no_plain_kan : (rules : Rules) (ds : List Deed) (seat a plain : ℕ) → held_count (view_of ds seat) plain < 3 →
    lawful_among rules ds seat (ClosedKan seat (Known a) (Known plain) (Known plain) (Known plain) ∷ []) ≡ []
no_plain_kan rules ds seat a plain few = one_fails rules ds seat (ClosedKan seat (Known a) (Known plain) (Known plain) (Known plain)) (not_held-plain rules seat (view_of ds seat) a plain few)

pub no_closed_kans_of : (rules : Rules) (ds : List Deed) (seat a : ℕ) (faces : List ℕ) → held_count (view_of ds seat) a ≡ 0 → lawful_among rules ds seat (closed_kans_of seat a faces) ≡ []
unfolding lawful_among
no_closed_kans_of rules ds seat a faces none =
    let view = view_of ds seat in
    none_pass (is_lawful rules seat view) (closed_kans_of seat a faces)
    (all_joined (Fails rules seat view) (λ b. flat_map (λ c. map (λ d. ClosedKan seat (Known a) (Known b) (Known c) (Known d)) faces) faces) faces
    (λ b. all_joined (Fails rules seat view) (λ c. map (λ d. ClosedKan seat (Known a) (Known b) (Known c) (Known d)) faces) faces
    (λ c. all_mapped (Fails rules seat view) (λ d. ClosedKan seat (Known a) (Known b) (Known c) (Known d)) faces (λ d. not_held-closed rules seat view a b c d none))))

pub no_added_kans_of : (rules : Rules) (ds : List Deed) (seat face : ℕ) (melds : List Meld) → held_count (view_of ds seat) face ≡ 0 → lawful_among rules ds seat (added_kans_of seat face melds) ≡ []
unfolding lawful_among
no_added_kans_of rules ds seat face melds none =
    let view = view_of ds seat in
    none_pass (is_lawful rules seat view) (added_kans_of seat face melds)
    (added_fail rules seat view face melds (λ meld. not_held-added rules seat view face meld.a meld.b meld.c none))

-- nothing added

pub none_added : (rules : Rules) (ds : List Deed) (seat : ℕ) (tried old : List Answer) → lawful_among rules ds seat tried ≡ [] → old ≡ old ++ lawful_among rules ds seat tried
none_added rules ds seat tried old none = sym (append-nil old) ∙ ap (λ xs. old ++ xs) (sym none)

pub nothing_added : (rules : Rules) (ds : List Deed) (seat : ℕ) (old : List Answer) → old ≡ old ++ lawful_among rules ds seat []
unfolding lawful_among
nothing_added rules ds seat old = sym (append-nil old)

-- a meld that is no triplet, and one that is

pub no_triplet : (rules : Rules) (ds : List Deed) (seat face : ℕ) (meld : Meld) → is_pon meld.form ≡ false →
    lawful_among rules ds seat (added_kans_of seat face (filter (λ (m : Meld). is_pon m.form) (meld ∷ []))) ≡ []
unfolding lawful_among
no_triplet rules ds seat face meld other = ap (λ b. filter (is_lawful rules seat (view_of ds seat)) (added_kans_of seat face (cond b (meld ∷ []) []))) other

pub one_triplet : (rules : Rules) (ds : List Deed) (seat face : ℕ) (meld : Meld) (old new : List Answer) → is_pon meld.form ≡ true →
    new ≡ old ++ lawful_among rules ds seat (AddedKan seat (Known face) (Known meld.a) (Known meld.b) (Known meld.c) ∷ []) →
    new ≡ old ++ lawful_among rules ds seat (added_kans_of seat face (filter (λ (m : Meld). is_pon m.form) (meld ∷ [])))
one_triplet rules ds seat face meld old new pon added = added ∙ ap (λ b. old ++ lawful_among rules ds seat (added_kans_of seat face (cond b (meld ∷ []) []))) (sym pon)

-- a pass before the others

pub pass_fails : (rules : Rules) (ds : List Deed) (seat : ℕ) (others : List Answer) → is_lawful rules seat (view_of ds seat) (Pass None) ≡ false →
    others ≡ lawful_among rules ds seat (Pass None ∷ []) ++ others
pass_fails rules ds seat others fails = sym (ap (λ xs. xs ++ others) (one_fails rules ds seat (Pass None) fails))

pub pass_stands : (rules : Rules) (ds : List Deed) (seat : ℕ) (others : List Answer) → is_lawful rules seat (view_of ds seat) (Pass None) ≡ true →
    Pass None ∷ others ≡ lawful_among rules ds seat (Pass None ∷ []) ++ others
unfolding lawful_among
pass_stands rules ds seat others lawful = ap (λ b. cond b (Pass None ∷ []) [] ++ others) (sym lawful)

empty : (xs : List Answer) → length xs ≡ 0 → xs ≡ []
empty [] h = refl
empty (x ∷ xs) h = absurd (omega (arith, h))

pub pass_alone : (rules : Rules) (ds : List Deed) (seat : ℕ) (others : List Answer) → is_lawful rules seat (view_of ds seat) (Pass None) ≡ true →
    length others ≡ 0 → Pass None ∷ [] ≡ lawful_among rules ds seat (Pass None ∷ []) ++ others
pass_alone rules ds seat others lawful none = ap (λ xs. Pass None ∷ xs) (sym (empty others none)) ∙ pass_stands rules ds seat others lawful

-- one list after another

pub lawful-append : (rules : Rules) (ds : List Deed) (seat : ℕ) (xs ys : List Answer) → lawful_among rules ds seat (xs ++ ys) ≡ lawful_among rules ds seat xs ++ lawful_among rules ds seat ys
unfolding lawful_among
lawful-append rules ds seat xs ys = filter-append (is_lawful rules seat (view_of ds seat)) xs ys

pub added_after : (rules : Rules) (ds : List Deed) (seat : ℕ) (xs ys old now new : List Answer) → now ≡ old ++ lawful_among rules ds seat xs →
    new ≡ now ++ lawful_among rules ds seat ys → new ≡ old ++ lawful_among rules ds seat (xs ++ ys)
added_after rules ds seat xs ys old now new first second =
    second ∙ ap (λ zs. zs ++ lawful_among rules ds seat ys) first
    ∙ append_assoc old (lawful_among rules ds seat xs) (lawful_among rules ds seat ys)
    ∙ ap (λ zs. old ++ zs) (sym (lawful-append rules ds seat xs ys))

-- Of the discards of a face that isn't the drawn tile only the unmarked one may be lawful.
pub unmarked_alone : (rules : Rules) (ds : List Deed) (seat face : ℕ) (tried old new : List Answer) → is_wrongly_marked (view_of ds seat) (Known face) true ≡ true →
    tried ≡ Discard seat (Known face) false ∷ [] → new ≡ old ++ lawful_among rules ds seat tried → new ≡ old ++ lawful_among rules ds seat (discards_of seat face)
unmarked_alone rules ds seat face tried old new wrong are added =
    added
    ∙ ap (λ xs. old ++ lawful_among rules ds seat xs) are
    ∙ ap (λ xs. old ++ xs)
    (sym (append-nil (lawful_among rules ds seat (Discard seat (Known face) false ∷ [])))
    ∙ ap (λ xs. lawful_among rules ds seat (Discard seat (Known face) false ∷ []) ++ xs)
    (sym (one_fails rules ds seat (Discard seat (Known face) true) (not_drawn-discard rules seat (view_of ds seat) face wrong)))
    ∙ sym (lawful-append rules ds seat (Discard seat (Known face) false ∷ []) (Discard seat (Known face) true ∷ [])))

-- One meld more.
pub meld_more : (rules : Rules) (ds : List Deed) (seat face : ℕ) (melds : List Meld) (meld : Meld) (i : ℕ) (old now new : List Answer) → i < length melds → meld ≡ get_or melds i meld →
    now ≡ old ++ lawful_among rules ds seat (added_kans_of seat face (filter (λ (m : Meld). is_pon m.form) (take i melds))) →
    new ≡ now ++ lawful_among rules ds seat (added_kans_of seat face (filter (λ (m : Meld). is_pon m.form) (meld ∷ []))) →
    new ≡ old ++ lawful_among rules ds seat (added_kans_of seat face (filter (λ (m : Meld). is_pon m.form) (take (i + 1) melds)))
meld_more rules ds seat face melds meld i old now new low is before more =
    let taken : Meld → Bool = λ m. is_pon m.form in
    added_after rules ds seat (added_kans_of seat face (filter taken (take i melds))) (added_kans_of seat face (filter taken (meld ∷ []))) old now new before more
    ∙ ap (λ xs. old ++ lawful_among rules ds seat xs)
    (sym (map-append (λ (m : Meld). AddedKan seat (Known face) (Known m.a) (Known m.b) (Known m.c)) (filter taken (take i melds)) (filter taken (meld ∷ [])))
    ∙ ap (added_kans_of seat face)
    (sym (filter-append taken (take i melds) (meld ∷ []))
    ∙ ap (filter taken) (ap (λ (m : Meld). take i melds ++ m ∷ []) is ∙ sym (take_more melds i meld low))))

-- going through the faces

all_places : (i : ℕ) → i < 37 → i < length tile_order
all_places i h = omega (arith, all_faces)

past : (i : ℕ) → 37 ≤ i → length tile_order ≤ i
past i h = omega (arith, all_faces)

pub faces_start : (rules : Rules) (ds : List Deed) (seat : ℕ) (f : ℕ → List Answer) (old now : List Answer) → now ≡ old → now ≡ old ++ lawful_among rules ds seat (flat_map f (take 0 tile_order))
unfolding lawful_among
faces_start rules ds seat f old now same = same ∙ sym (append-nil old)

pub face_more : (rules : Rules) (ds : List Deed) (seat : ℕ) (f : ℕ → List Answer) (i tile : ℕ) (old now new : List Answer) → i < 37 → tile ≡ slice_index tile_order i →
    now ≡ old ++ lawful_among rules ds seat (flat_map f (take i tile_order)) → new ≡ now ++ lawful_among rules ds seat (f tile) →
    new ≡ old ++ lawful_among rules ds seat (flat_map f (take (i + 1) tile_order))
face_more rules ds seat f i tile old now new low is before more =
    added_after rules ds seat (flat_map f (take i tile_order)) (f tile) old now new before more
    ∙ ap (λ xs. old ++ lawful_among rules ds seat xs)
    (ap (λ (t : ℕ). flat_map f (take i tile_order) ++ f t) is
    ∙ flat_map_more f [] (take i tile_order) (get_or tile_order i 0)
    ∙ ap (flat_map f) (sym (take_more tile_order i 0 (all_places i low))))

pub faces_end : (rules : Rules) (ds : List Deed) (seat : ℕ) (f : ℕ → List Answer) (i : ℕ) (old now : List Answer) → 37 ≤ i →
    now ≡ old ++ lawful_among rules ds seat (flat_map f (take i tile_order)) → now ≡ old ++ lawful_among rules ds seat (flat_map f tile_order)
faces_end rules ds seat f i old now all is = is ∙ ap (λ (xs : List ℕ). old ++ lawful_among rules ds seat (flat_map f xs)) (take_all i tile_order (past i all))

-- Going through the faces with one answer a face.

pub mapped_start : (rules : Rules) (ds : List Deed) (seat : ℕ) (g : ℕ → Answer) (old now : List Answer) → now ≡ old → now ≡ old ++ lawful_among rules ds seat (map g (take 0 tile_order))
unfolding lawful_among
mapped_start rules ds seat g old now same = same ∙ sym (append-nil old)

pub mapped_more : (rules : Rules) (ds : List Deed) (seat : ℕ) (g : ℕ → Answer) (i tile : ℕ) (old now new : List Answer) → i < 37 → tile ≡ slice_index tile_order i →
    now ≡ old ++ lawful_among rules ds seat (map g (take i tile_order)) → new ≡ now ++ lawful_among rules ds seat (g tile ∷ []) →
    new ≡ old ++ lawful_among rules ds seat (map g (take (i + 1) tile_order))
mapped_more rules ds seat g i tile old now new low is before more =
    added_after rules ds seat (map g (take i tile_order)) (g tile ∷ []) old now new before more
    ∙ ap (λ xs. old ++ lawful_among rules ds seat xs)
    (ap (λ (t : ℕ). map g (take i tile_order) ++ g t ∷ []) is
    ∙ sym (map-append g (take i tile_order) (get_or tile_order i 0 ∷ []))
    ∙ ap (map g) (sym (take_more tile_order i 0 (all_places i low))))

pub mapped_end : (rules : Rules) (ds : List Deed) (seat : ℕ) (g : ℕ → Answer) (i : ℕ) (old now : List Answer) → 37 ≤ i →
    now ≡ old ++ lawful_among rules ds seat (map g (take i tile_order)) → now ≡ old ++ lawful_among rules ds seat (map g tile_order)
mapped_end rules ds seat g i old now all is = is ∙ ap (λ (xs : List ℕ). old ++ lawful_among rules ds seat (map g xs)) (take_all i tile_order (past i all))

-- the faces of a kind

pub faces_are : (kind : ℕ) → kind < 34 → faces_of kind ≡ kind ∷ option_to_list (red_of kind)
unfolding faces_of tile_order
faces_are kind low =
    (bytes_eq-Decides (faces_of kind) (kind ∷ option_to_list (red_of kind))).0
    (agree_below_at (λ k. bytes_eq (faces_of k) (k ∷ option_to_list (red_of k))) (λ k. true) 34 kind refl low)

pub plain_faces : (kind : ℕ) (red : Option ℕ) → kind < 34 → red ≡ red_of kind → red ≡ None → faces_of kind ≡ kind ∷ []
plain_faces kind red low is none = faces_are kind low ∙ ap (λ (o : Option ℕ). kind ∷ option_to_list o) (sym is ∙ none)

pub both_faces : (kind face : ℕ) (red : Option ℕ) → kind < 34 → red ≡ red_of kind → red ≡ Some face → faces_of kind ≡ kind ∷ face ∷ []
both_faces kind face red low is some = faces_are kind low ∙ ap (λ (o : Option ℕ). kind ∷ option_to_list o) (sym is ∙ some)

-- What is tried of a list of faces, where they are those of a kind.

pub of_plain : (rules : Rules) (ds : List Deed) (seat : ℕ) (f : List ℕ → List Answer) (kind plain : ℕ) (red : Option ℕ) (tried old new : List Answer)
    → kind < 34 → plain ≡ kind → red ≡ red_of kind → red ≡ None →
    tried ≡ f (plain ∷ []) → new ≡ old ++ lawful_among rules ds seat tried → new ≡ old ++ lawful_among rules ds seat (f (faces_of kind))
of_plain rules ds seat f kind plain red tried old new low same is none are added =
    added ∙ ap (λ xs. old ++ lawful_among rules ds seat xs) (are ∙ ap (λ (face : ℕ). f (face ∷ [])) same ∙ ap f (sym (plain_faces kind red low is none)))

pub of_both : (rules : Rules) (ds : List Deed) (seat : ℕ) (f : List ℕ → List Answer) (kind plain face : ℕ) (red : Option ℕ)
    (tried old new : List Answer) → kind < 34 → plain ≡ kind → red ≡ red_of kind → red ≡ Some face →
    tried ≡ f (plain ∷ face ∷ []) → new ≡ old ++ lawful_among rules ds seat tried → new ≡ old ++ lawful_among rules ds seat (f (faces_of kind))
of_both rules ds seat f kind plain face red tried old new low same is some are added =
    added ∙ ap (λ xs. old ++ lawful_among rules ds seat xs) (are ∙ ap (λ (first : ℕ). f (first ∷ face ∷ [])) same ∙ ap f (sym (both_faces kind face red low is some)))

-- all that is tried

-- The candidates after a pass.
abbrev after_a_pass : ℕ → SeatView → List Answer
after_a_pass seat view =
    all_discards seat
    ++ (all_calls seat view.turn
    ++ (all_closed_kans seat
    ++ (all_added_kans seat (triplets view)
    ++ ((Reach seat ∷ [])
    ++ (all_wins seat view.turn
    ++ (NineKinds seat ∷ []))))))

whole : (rules : Rules) (ds : List Deed) (seat : ℕ) → lawful_among rules ds seat ((Pass None ∷ []) ++ after_a_pass seat (view_of ds seat)) ≡ possible rules ds seat
unfolding lawful_among possible_by
whole rules ds seat = refl

pub all_tried : (rules : Rules) (ds : List Deed) (seat : ℕ) (start discards calls closed added reach wins nine result : List Answer) → start ≡ [] →
    discards ≡ start ++ lawful_among rules ds seat (all_discards seat) →
    calls ≡ discards ++ lawful_among rules ds seat (all_calls seat (view_of ds seat).turn) →
    closed ≡ calls ++ lawful_among rules ds seat (all_closed_kans seat) →
    added ≡ closed ++ lawful_among rules ds seat (all_added_kans seat (triplets (view_of ds seat))) →
    reach ≡ added ++ lawful_among rules ds seat (Reach seat ∷ []) →
    wins ≡ reach ++ lawful_among rules ds seat (all_wins seat (view_of ds seat).turn) →
    nine ≡ wins ++ lawful_among rules ds seat (NineKinds seat ∷ []) →
    result ≡ lawful_among rules ds seat (Pass None ∷ []) ++ nine → result ≡ possible rules ds seat
all_tried rules ds seat start discards calls closed added reach wins nine result none by_discards by_calls by_closed by_added by_reach by_wins by_nine whole_is =
    whole_is
    ∙ ap (λ xs. lawful_among rules ds seat (Pass None ∷ []) ++ xs)
    (added_after rules ds seat _ _ start discards nine by_discards
    (added_after rules ds seat _ _ discards calls nine by_calls
    (added_after rules ds seat _ _ calls closed nine by_closed
    (added_after rules ds seat _ _ closed added nine by_added
    (added_after rules ds seat _ _ added reach nine by_reach
    (added_after rules ds seat _ _ reach wins nine by_wins by_nine)))))
    ∙ ap (λ xs. xs ++ lawful_among rules ds seat (after_a_pass seat (view_of ds seat))) none)
    ∙ sym (lawful-append rules ds seat (Pass None ∷ []) (after_a_pass seat (view_of ds seat)))
    ∙ whole rules ds seat
