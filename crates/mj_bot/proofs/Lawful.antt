-- Which discards are lawful: their kinds, the last of them, and the best.
use Rattle.std.proofs.Common.{◌≡◌, ℕ, zero, suc, ◌+◌, ◌-◌, ◌<◌, ◌≤◌, ◌==◌, ◌&&◌, ◌||◌, not, inl, inr, Bool, true, false, cond, eqb, ltb, List, []}
use Rattle.std.proofs.Common.{◌∷◌, ◌++◌, append-nil, length, take, drop, get_or, min, Option, Some, None, refl, sym, ap, ◌∙◌, subst, arith}
use Rattle.std.specs.Prelude.{nat_lt, is_none, filter, map, slice_get, slice_index, IsTrue, MatchOption, MatchBool}
use Rattle.std.specs.List.{list_all}
use Rattle.std.proofs.lemmas.Bool.{and_parts, and_from, ltb-true, lt-leb, true≢false, false≢true, cases_eq, eqb-true, eq-eqb}
use Rattle.std.proofs.lemmas.Bool.Decides.{nat_tests}
use Rattle.std.proofs.lemmas.List.{drop_more, drop_all, take-append-drop}
use Rattle.std.proofs.lemmas.List.Elements.{filter-append}
use Rattle.std.proofs.lemmas.Option.{slice_get-get_or}
use Rattle.mj_tiles.specs.Faces.{is_red, kind_of, number_in, tile_order}
use Rattle.mj_tiles.specs.Counts.{all_kinds, kind_counts}
use Rattle.mj_tiles.specs.Kinds.{has_kind, no_kinds, with_kind, set_of}
use Rattle.mj_tiles.proofs.Faces.{all_faces, either_way}
use Rattle.mj_tiles.proofs.CountSteps.{get_or-kind_counts}
use Rattle.mj_tiles.proofs.EachKind.{each_kind}
use Rattle.mj_tiles.proofs.KindSets.{has_kind-with}
use Rattle.mj_calls.specs.Bans.{is_banned}
use Rattle.mj_readings.specs.declared.reading.Set.{Set}
use Rattle.mj_readings.specs.Sets.{set_of_meld}
use Rattle.mj_shanten.specs.Discards.{IsDiscard, IsBestDiscard}
use Rattle.mj_deeds.specs.declared.answer.Pai.{Pai}
use Rattle.mj_deeds.specs.declared.answer.Pai.TheVariants.{Known}
use Rattle.mj_deeds.specs.declared.answer.Answer.TheVariants.{Discard}
use Rattle.mj_deeds.specs.declared.rule.Rule.{Rule}
use Rattle.mj_deeds.specs.Fits.{is_face}
use Rattle.mj_wall.specs.declared.setting.Rules.{Rules}
use Rattle.mj_table.proofs.OneLess.{count_without, some_left}
use Rattle.mj_rules.specs.Broken.{is_open, is_that, is_wrongly_marked, is_banned_tile, banned_in, discards_unready, questions, broken_by}
use Rattle.mj_rules.specs.View.{SeatView, WindowTurn, Drew, Discarded, Added, Reached, Called, Nobodys, held_count, concealed, room}
use Rattle.mj_rules.specs.Default.{discard_of, lawful_faces, last_face}
use Rattle.mj_rules.proofs.Questions.{all_no, none_broken}
use Rattle.mj_judge.proofs.Places.{last_passes}
use Rattle.mj_judge.proofs.Swaps.{swap_of}
use Rattle.mj_judge.specs.Measured.{is_measured}
use Rattle.mj_bot.specs.Choice.{lawful_of, IsBestLawful, IsBest}
use Rattle.mj_bot.specs.Inner.Measured.{IsMeasuredHand}
use Rattle.mj_bot.specs.Inner.Turns.{is_own_turn, is_own_draw, is_free, is_among}

-- The discard of a face breaks no rule.
abbrev pub passes : Rules → ℕ → SeatView → ℕ → Bool
passes rules seat view face = is_none (broken_by rules seat view (discard_of seat view face))

pub none_is : (o : Option Rule) → is_none o ≡ true → o ≡ None
none_is None h = refl
none_is (Some rule) h = cc

-- A tile is one.
one_of : (tile : ℕ) → number_in (tile ∷ []) tile ≡ 1
one_of tile = rw (eq-eqb tile tile refl) refl

-- A lawful discard is held.
pub held_of_lawful : (rules : Rules) (seat : ℕ) (view : SeatView) (face : ℕ) → passes rules seat view face ≡ true → 0 < held_count view face
unfolding broken_by
held_of_lawful rules seat view face h =
    let each = all_no (questions rules seat view (discard_of seat view face)) (none_is (broken_by rules seat view (discard_of seat view face)) h) in
    enough (held_count view face) (number_in (face ∷ []) face) (one_of face) each.1.1.1.1.1.1.0
  where
    enough : (held n : ℕ) → n ≡ 1 → (ltb held n || false) ≡ false → 0 < held
    enough zero n e k = absurd (false≢true (sym k ∙ ap (λ m. ltb 0 m || false) e))
    enough (suc m) n e k = omega arith

-- And open to the seat.
open_of_lawful : (rules : Rules) (seat : ℕ) (view : SeatView) (face : ℕ) → passes rules seat view face ≡ true → is_open rules seat view.turn view.accepted (discard_of seat view face) ≡ true
unfolding broken_by
open_of_lawful rules seat view face h =
    let each = all_no (questions rules seat view (discard_of seat view face)) (none_is (broken_by rules seat view (discard_of seat view face)) h) in
    opened (is_open rules seat view.turn view.accepted (discard_of seat view face)) each.1.1.0
  where
    opened : (b : Bool) → not b ≡ false → b ≡ true
    opened true k = refl
    opened false k = cc

pub kind_small : (face : ℕ) → face < 37 → kind_of face < 34
kind_small face h = grind (arith, nat_tests)

-- Its kind stands among the concealed tiles.
pub counted_of_lawful : (rules : Rules) (seat : ℕ) (view : SeatView) (face : ℕ) → face < 37 → passes rules seat view face ≡ true → 0 < get_or (kind_counts (concealed view)) (kind_of face) 0
counted_of_lawful rules seat view face small h =
    positive _ _ _ _ (get_or-kind_counts (concealed view) (kind_of face) (kind_small face small))
    (count_without (λ t. eqb (kind_of t) (kind_of face)) (concealed view) face (some_left view.tiles_gained view.tiles_lost face (held_of_lawful rules seat view face h) small))
    (ap (λ b. cond b 1 0) (eq-eqb (kind_of face) (kind_of face) refl))
  where
    positive : (a b c d : ℕ) → a ≡ b → b ≡ c + d → d ≡ 1 → 0 < a
    positive a b c d e f g = omega (arith, e, f, g)

-- A tile that isn't held may not go.
pub none_held : (rules : Rules) (seat : ℕ) (view : SeatView) (face held : ℕ) → held ≡ min (held_count view face) 4 → held ≡ 0 → false ≡ passes rules seat view face
none_held rules seat view face held much none = by_test (passes rules seat view face) refl
  where
    none_of : (n m : ℕ) → m ≡ min n 4 → m ≡ 0 → 0 < n → ⊥
    none_of n m e h k = omega (arith, e, h, k)

    by_test : (b : Bool) → passes rules seat view face ≡ b → false ≡ b
    by_test true h = absurd (none_of (held_count view face) held much none (held_of_lawful rules seat view face h))
    by_test false h = refl

-- each held tile may go

drew : (seat : ℕ) (turn : WindowTurn) → is_own_draw seat turn ≡ true → turn ≡ Drew seat
drew seat (Drew who) h = ap Drew (eqb-true who seat h)
drew seat (Discarded who tile) h = absurd (false≢true h)
drew seat (Added who tile) h = absurd (false≢true h)
drew seat (Reached who) h = absurd (false≢true h)
drew seat (Called who banned) h = absurd (false≢true h)
drew seat Nobodys h = absurd (false≢true h)

-- A seat that has drawn and isn't in riichi may discard what it holds, where the game has such a tile.
pub free_passes : (rules : Rules) (seat : ℕ) (view : SeatView) (face held : ℕ) → is_free view.accepted seat view.turn ≡ true → is_face rules.red face ≡ true
    → held ≡ min (held_count view face) 4 → (held ≡ 0 → ⊥) → true ≡ passes rules seat view face
unfolding broken_by
free_passes rules seat view face held free game much some =
    sym (ap is_none (none_broken (questions rules seat view (discard_of seat view face)) (
      refl,
      (
        ap not itself,
        (
          ap (λ t. not (is_open rules seat t view.accepted (discard_of seat view face))) at
              ∙ ap (λ b. not (cond b true false)) itself,
          (
            neither (is_red face && not rules.red) (there rules.red game),
            (
              refl,
              (
                refl,
                (
                  enough,
                  (
                    marked_right (is_that view.drawn face) refl,
                    (
                      ap (λ a. a && not (is_that view.drawn face)) (off view.accepted both.0),
                      (
                        refl,
                        (
                          refl,
                          (
                            ap (λ t. is_banned_tile (banned_in t) (Known face)) at,
                            (refl, (refl, (refl, (refl, (refl, (refl, (refl, (ap (λ t. discards_unready view t (Known face)) at, (refl, (refl, (refl, (refl, tt)))))))))))),
                          ),
                        ),
                      ),
                    ),
                  ),
                ),
              ),
            ),
          ),
        ),
      ),
    )))
  where
    none_with : (b : Bool) → not (b && false) ≡ true
    none_with true = refl
    none_with false = refl

    there : (red : Bool) → is_face red face ≡ true → not (is_red face && not red) ≡ true
    there true h = none_with (is_red face)
    there false h = ap (λ b. not (b && true)) (lt-leb 34 face (ltb-true face 34 h))

    both : (not view.accepted ≡ true) × (is_own_draw seat view.turn ≡ true)
    both = and_parts (not view.accepted) (is_own_draw seat view.turn) free

    at : view.turn ≡ Drew seat
    at = drew seat view.turn both.1

    itself : eqb seat seat ≡ true
    itself = eq-eqb seat seat refl

    neither : (b : Bool) → not b ≡ true → (b || false) ≡ false
    neither true h = absurd (false≢true h)
    neither false h = refl

    off : (b : Bool) → not b ≡ true → b ≡ false
    off true h = absurd (false≢true h)
    off false h = refl

    few : (n m : ℕ) → m ≡ min n 4 → (m ≡ 0 → ⊥) → n < 1 → ⊥
    few n m e h k = h (omega (arith, e, k))

    enough : (ltb (held_count view face) (number_in (face ∷ []) face) || false) ≡ false
    enough = ap (λ (n : ℕ). ltb (held_count view face) n || false) (one_of face) ∙ by_test (ltb (held_count view face) 1) refl
      where
        by_test : (b : Bool) → ltb (held_count view face) 1 ≡ b → (b || false) ≡ false
        by_test true e = absurd (few (held_count view face) held much some (ltb-true (held_count view face) 1 e))
        by_test false e = refl

    marked_right : (b : Bool) → is_that view.drawn face ≡ b → is_wrongly_marked view (Known face) (is_that view.drawn face) ≡ false
    marked_right true e = ap (is_wrongly_marked view (Known face)) e ∙ ap not e
    marked_right false e = ap (is_wrongly_marked view (Known face)) e ∙ ap (λ b. b && eqb (held_count view face) 1) e

-- whose turn it is

closed : (rules : Rules) (seat : ℕ) (turn : WindowTurn) (accepted : Bool) (tile : Pai) (drawn : Bool) → is_own_turn seat turn ≡ false
    → is_open rules seat turn accepted (Discard seat tile drawn) ≡ false
closed rules seat (Drew who) accepted tile drawn h = ap (λ b. cond b true false) h
closed rules seat (Discarded who called) accepted tile drawn h = same (eqb who seat)
  where
    same : (b : Bool) → cond b false false ≡ false
    same true = refl
    same false = refl
closed rules seat (Added who called) accepted tile drawn h = same (eqb who seat)
  where
    same : (b : Bool) → cond b false (false || false) ≡ false
    same true = refl
    same false = refl
closed rules seat (Reached who) accepted tile drawn h = ap (λ b. cond b true false) h
closed rules seat (Called who banned) accepted tile drawn h = ap (λ b. cond b true false) h
closed rules seat Nobodys accepted tile drawn h = refl

filter_none : (p : ℕ → Bool) (xs : List ℕ) → ((x : ℕ) → p x ≡ false) → filter p xs ≡ []
filter_none p [] never = refl
filter_none p (x ∷ xs) never = ap (λ b. cond b (x ∷ filter p xs) (filter p xs)) (never x) ∙ filter_none p xs never

-- Out of its turn a seat has no lawful discard.
pub none_lawful : (rules : Rules) (seat : ℕ) (view : SeatView) → is_own_turn seat view.turn ≡ false → lawful_faces rules seat view ≡ []
unfolding lawful_faces
none_lawful rules seat view h = filter_none (passes rules seat view) tile_order never
  where
    never : (face : ℕ) → passes rules seat view face ≡ false
    never face = by_test (passes rules seat view face) refl
      where
        by_test : (b : Bool) → passes rules seat view face ≡ b → b ≡ false
        by_test true k = absurd (true≢false (sym (open_of_lawful rules seat view face k) ∙ closed rules seat view.turn view.accepted (Known face) (is_that view.drawn face) h))
        by_test false k = refl

-- the kinds of the lawful discards

kinds_step : (p : ℕ → Bool) (i tile : ℕ) (b : Bool) → i < 37 → tile ≡ slice_index tile_order i → p tile ≡ b →
    set_of (map kind_of (filter p (drop i tile_order))) ≡ cond b (with_kind (set_of (map kind_of (filter p (drop (i + 1) tile_order)))) (kind_of tile))
    (set_of (map kind_of (filter p (drop (i + 1) tile_order))))
kinds_step p i tile b low is test =
    ap (λ (xs : List ℕ). set_of (map kind_of (filter p xs))) (drop_more tile_order i 0 (omega (arith, low, all_faces)) ∙ ap (λ (t : ℕ). t ∷ drop (i + 1) tile_order) (sym is))
    ∙ ap (λ c. set_of (map kind_of (cond c (tile ∷ filter p (drop (i + 1) tile_order)) (filter p (drop (i + 1) tile_order))))) test
    ∙ by_test b
  where
    by_test : (c : Bool) → set_of (map kind_of (cond c (tile ∷ filter p (drop (i + 1) tile_order)) (filter p (drop (i + 1) tile_order)))) ≡
        cond c (with_kind (set_of (map kind_of (filter p (drop (i + 1) tile_order)))) (kind_of tile)) (set_of (map kind_of (filter p (drop (i + 1) tile_order))))
    by_test true = refl
    by_test false = refl

-- The set from a place on.
abbrev pub kinds_from : (ℕ → Bool) → ℕ → ℕ
kinds_from p place = set_of (map kind_of (filter p (drop place tile_order)))

one_more : (place next : ℕ) → 0 < place → next ≡ place - 1 → place ≡ next + 1
one_more place next some at = omega (arith, some, at)

pub kinds_none : (p : ℕ → Bool) (place kinds : ℕ) → 37 ≤ place → kinds ≡ no_kinds → kinds ≡ kinds_from p place
kinds_none p place kinds all is = is ∙ sym (ap (λ (xs : List ℕ). set_of (map kind_of (filter p xs))) (drop_all place tile_order (omega (arith, all, all_faces))))

pub kinds_with : (p : ℕ → Bool) (place next tile kind before kinds : ℕ) → 0 < place → place ≤ 37 → next ≡ place - 1 → tile ≡ slice_index tile_order next → kind ≡ kind_of tile
    → p tile ≡ true → before ≡ kinds_from p place →
    kinds ≡ with_kind before kind → kinds ≡ kinds_from p next
kinds_with p place next tile kind before kinds some low at_next is at passed was told =
    told ∙ (λ i. with_kind (was i) (at i)) ∙ ap (λ n. with_kind (kinds_from p n) (kind_of tile)) (one_more place next some at_next)
    ∙ sym (kinds_step p next tile true (omega (arith, some, low, at_next)) is passed)

pub kinds_stay : (p : ℕ → Bool) (place next tile before kinds : ℕ) → 0 < place → place ≤ 37 → next ≡ place - 1 → tile ≡ slice_index tile_order next → p tile ≡ false
    → before ≡ kinds_from p place → kinds ≡ before →
    kinds ≡ kinds_from p next
kinds_stay p place next tile before kinds some low at_next is failed was told =
    told ∙ was ∙ ap (kinds_from p) (one_more place next some at_next) ∙ sym (kinds_step p next tile false (omega (arith, some, low, at_next)) is failed)

-- the last of them

pub both_filters : (p q : ℕ → Bool) (xs : List ℕ) → filter (λ x. q x && p x) xs ≡ filter q (filter p xs)
both_filters p q [] = refl
both_filters p q (x ∷ xs) = by_tests (p x) (q x) refl refl (both_filters p q xs)
  where
    by_tests : (b c : Bool) → p x ≡ b → q x ≡ c → filter (λ x. q x && p x) xs ≡ filter q (filter p xs) → filter (λ x. q x && p x) (x ∷ xs) ≡ filter q (filter p (x ∷ xs))
    by_tests true true e f same =
        ap (λ a. cond a (x ∷ filter (λ x. q x && p x) xs) (filter (λ x. q x && p x) xs)) (λ i. f i && e i)
        ∙ ap (λ (ys : List ℕ). x ∷ ys) same
        ∙ sym (ap (λ a. filter q (cond a (x ∷ filter p xs) (filter p xs))) e ∙ ap (λ a. cond a (x ∷ filter q (filter p xs)) (filter q (filter p xs))) f)
    by_tests true false e f same =
        ap (λ a. cond a (x ∷ filter (λ x. q x && p x) xs) (filter (λ x. q x && p x) xs)) (λ i. f i && e i)
        ∙ same
        ∙ sym (ap (λ a. filter q (cond a (x ∷ filter p xs) (filter p xs))) e ∙ ap (λ a. cond a (x ∷ filter q (filter p xs)) (filter q (filter p xs))) f)
    by_tests false true e f same =
        ap (λ a. cond a (x ∷ filter (λ x. q x && p x) xs) (filter (λ x. q x && p x) xs)) (λ i. f i && e i)
        ∙ same
        ∙ sym (ap (λ a. filter q (cond a (x ∷ filter p xs) (filter p xs))) e)
    by_tests false false e f same =
        ap (λ a. cond a (x ∷ filter (λ x. q x && p x) xs) (filter (λ x. q x && p x) xs)) (λ i. f i && e i)
        ∙ same
        ∙ sym (ap (λ a. filter q (cond a (x ∷ filter p xs) (filter p xs))) e)

pub all_kept : (q : ℕ → Bool) (xs : List ℕ) → list_all q xs ≡ true → filter q xs ≡ xs
all_kept q [] each = refl
all_kept q (x ∷ xs) each =
    let parts = and_parts (q x) (list_all q xs) each in
    ap (λ b. cond b (x ∷ filter q xs) (filter q xs)) parts.0 ∙ ap (λ (ys : List ℕ). x ∷ ys) (all_kept q xs parts.1)

-- Each is of its own kind.
pub weaker : (p q : ℕ → Bool) (xs : List ℕ) → ((x : ℕ) → p x ≡ true → q x ≡ true) → list_all p xs ≡ true → list_all q xs ≡ true
weaker p q [] more each = refl
weaker p q (x ∷ xs) more each =
    let parts = and_parts (p x) (list_all p xs) each in
    and_from (q x) (list_all q xs) (more x parts.0) (weaker p q xs more parts.1)

each_among : (xs : List ℕ) → list_all (λ face. is_banned (map kind_of xs) (kind_of face)) xs ≡ true
each_among [] = refl
each_among (x ∷ xs) =
    and_from (is_banned (map kind_of (x ∷ xs)) (kind_of x)) (list_all (λ face. is_banned (map kind_of (x ∷ xs)) (kind_of face)) xs)
    (ap (λ b. b || is_banned (map kind_of xs) (kind_of x)) (eq-eqb (kind_of x) (kind_of x) refl))
    (weaker (λ face. is_banned (map kind_of xs) (kind_of face)) (λ face. is_banned (map kind_of (x ∷ xs)) (kind_of face)) xs (λ face h. either (eqb (kind_of x) (kind_of face)) h) (each_among xs))
  where
    either : {b : Bool} (a : Bool) → b ≡ true → (a || b) ≡ true
    either true h = refl
    either false h = h

-- All lawful ones are of the lawful kinds.
kept : (xs : List ℕ) → filter (is_among (set_of (map kind_of xs))) xs ≡ xs
kept xs =
    (λ i. filter (λ (face : ℕ). swap_of (map kind_of xs) (kind_of face) i) xs)
    ∙ all_kept (λ face. is_banned (map kind_of xs) (kind_of face)) xs (each_among xs)

-- Those of one kind.
of_one : (kind : ℕ) (xs : List ℕ) → filter (is_among (with_kind no_kinds kind)) xs ≡ filter (λ other. kind_of other == kind) xs
of_one kind xs i = filter (λ (face : ℕ). one_kind face i) xs
  where
    or-false : (b : Bool) → (b || false) ≡ b
    or-false true = refl
    or-false false = refl

    one_kind : (face : ℕ) → has_kind (with_kind no_kinds kind) (kind_of face) ≡ eqb (kind_of face) kind
    one_kind face = swap_of (kind ∷ []) (kind_of face) ∙ or-false (eqb kind (kind_of face)) ∙ either_way kind (kind_of face)

-- A tile that is picked out of a list by a test passes it.
pub picked : (p : ℕ → Bool) (xs : List ℕ) (i tile : ℕ) → slice_get (filter p xs) i ≡ Some tile → p tile ≡ true
picked p [] i tile h = cc
picked p (x ∷ xs) i tile h = by_test (p x) refl (λ k. picked p xs k tile) i h
  where
    some_is : (a b : ℕ) → Some a ≡ Some b → a ≡ b
    some_is a b e = cc

    by_test : (b : Bool) → p x ≡ b → ((k : ℕ) → slice_get (filter p xs) k ≡ Some tile → p tile ≡ true) → (i : ℕ) → slice_get (cond b (x ∷ filter p xs) (filter p xs)) i ≡ Some tile → p tile ≡ true
    by_test true e others zero k = ap p (sym (some_is x tile k)) ∙ e
    by_test true e others (suc i) k = others i k
    by_test false e others i k = others i k

pub some_last : (xs : List ℕ) → last_face xs ≡ None → xs ≡ []
some_last [] h = refl
some_last (x ∷ xs) h = absurd (never (get_or (x ∷ xs) (length (x ∷ xs) - 1) 0) (sym (slice_get-get_or (x ∷ xs) (length (x ∷ xs) - 1) 0 (omega arith)) ∙ h))
  where
    never : (a : ℕ) → Some a ≡ None → ⊥
    never a e = cc

-- the best

-- A best discard is lawful.
pub best_passes : (rules : Rules) (seat : ℕ) (view : SeatView) (face : ℕ) → IsBest rules seat view face → passes rules seat view face ≡ true
unfolding lawful_faces
best_passes rules seat view face best = by_test (is_measured (kind_counts (concealed view)) (room view) (map set_of_meld view.melds)) best
  where
    last_of : last_face (lawful_faces rules seat view) ≡ Some face → passes rules seat view face ≡ true
    last_of h = picked (passes rules seat view) tile_order (length (lawful_faces rules seat view) - 1) face h

    of_kind : last_face (filter (λ other. kind_of other == kind_of face) (filter (passes rules seat view) tile_order)) ≡ Some face → passes rules seat view face ≡ true
    of_kind h =
        let both = picked (λ other. (kind_of other == kind_of face) && passes rules seat view other) tile_order (length (lawful_of rules seat view (kind_of face)) - 1) face
        (ap (λ (xs : List ℕ). slice_get xs (length (lawful_of rules seat view (kind_of face)) - 1)) (both_filters (passes rules seat view) (λ other. kind_of other == kind_of face) tile_order) ∙ h) in
        (and_parts (kind_of face == kind_of face) (passes rules seat view face) both).1

    by_test : (b : Bool) → MatchBool b (IsBestLawful rules seat view face) (last_face (lawful_faces rules seat view) ≡ Some face) → passes rules seat view face ≡ true
    by_test true k = of_kind k.face_is
    by_test false k = last_of k

-- Where shanten isn't said, the last.
pub unmeasured : (rules : Rules) (seat : ℕ) (view : SeatView) (counts left : List ℕ) (melds : List Set) (measured : Bool) (last : Option ℕ) (kinds : ℕ)
    → counts ≡ kind_counts (concealed view) → left ≡ room view → melds ≡ map set_of_meld view.melds →
    measured ≡ is_measured counts left melds → measured ≡ false → kinds ≡ set_of (map kind_of (lawful_faces rules seat view))
    → last ≡ last_face (filter (is_among kinds) (lawful_faces rules seat view)) → MatchOption last (lawful_faces rules seat view ≡ []) (IsBest rules seat view)
unmeasured rules seat view counts left melds measured last kinds is beside sets told not_so set last_is = by_last last refl
  where
    no : is_measured (kind_counts (concealed view)) (room view) (map set_of_meld view.melds) ≡ false
    no = sym (told ∙ (λ i. is_measured (is i) (beside i) (sets i))) ∙ not_so

    all : last ≡ last_face (lawful_faces rules seat view)
    all = last_is ∙ ap (λ s. last_face (filter (is_among s) (lawful_faces rules seat view))) set ∙ ap last_face (kept (lawful_faces rules seat view))

    by_last : (o : Option ℕ) → last ≡ o → MatchOption o (lawful_faces rules seat view ≡ []) (IsBest rules seat view)
    by_last None e = some_last (lawful_faces rules seat view) (sym all ∙ e)
    by_last (Some face) e = subst (λ b. MatchBool b (IsBestLawful rules seat view face) (last_face (lawful_faces rules seat view) ≡ Some face)) (sym no) (sym all ∙ e)

-- Where it is said, the last of the best kind.
any_of : (kind : ℕ) (xs : List ℕ) → is_banned (map kind_of xs) kind ≡ true → filter (λ other. kind_of other == kind) xs ≡ [] → ⊥
any_of kind [] h e = cc
any_of kind (x ∷ xs) h e = by_test (eqb (kind_of x) kind) (any_of kind xs) h e
  where
    by_test : (b : Bool) → (is_banned (map kind_of xs) kind ≡ true → filter (λ other. kind_of other == kind) xs ≡ [] → ⊥) → (b || is_banned (map kind_of xs) kind) ≡ true →
        cond b (x ∷ filter (λ other. kind_of other == kind) xs) (filter (λ other. kind_of other == kind) xs) ≡ [] → ⊥
    by_test true f k l = cc
    by_test false f k l = f k l

small_faces : list_all (λ face. nat_lt face 37) tile_order ≡ true
unfolding tile_order
small_faces = refl

-- The first that is picked.
first_picked : (p q : ℕ → Bool) (xs : List ℕ) (face : ℕ) (others : List ℕ) → list_all q xs ≡ true → filter p xs ≡ face ∷ others → (p face ≡ true) × (q face ≡ true)
first_picked p q [] face others each h = cc
first_picked p q (x ∷ xs) face others each h = by_test (p x) refl (first_picked p q xs face others (and_parts (q x) (list_all q xs) each).1) h
  where
    by_test : (b : Bool) → p x ≡ b → (filter p xs ≡ face ∷ others → (p face ≡ true) × (q face ≡ true)) → cond b (x ∷ filter p xs) (filter p xs) ≡ face ∷ others → (p face ≡ true) × (q face ≡ true)
    by_test true e later k = (let same : x ≡ face = cc in (ap p (sym same) ∙ e, ap q (sym same) ∙ (and_parts (q x) (list_all q xs) each).0))
    by_test false e later k = later k

-- No kind may be discarded where no discard is lawful, and only there.
pub no_kind_lawful : (rules : Rules) (seat kinds : ℕ) (view : SeatView) (counts : List ℕ) → counts ≡ kind_counts (concealed view) → kinds ≡ set_of (map kind_of (lawful_faces rules seat view)) →
    ((kind : ℕ) → IsDiscard counts kinds kind → ⊥) → lawful_faces rules seat view ≡ []
unfolding lawful_faces
no_kind_lawful rules seat kinds view counts is set none = by_list (lawful_faces rules seat view) refl
  where
    by_list : (xs : List ℕ) → lawful_faces rules seat view ≡ xs → xs ≡ []
    by_list [] e = refl
    by_list (face ∷ others) e =
        let first = first_picked (passes rules seat view) (λ t. nat_lt t 37) tile_order face others small_faces e in
        let small : face < 37 = ltb-true face 37 first.1 in
        absurd (none (kind_of face) (record {
          kind_is = kind_small face small;
          among =
              ap (λ s. has_kind s (kind_of face)) (set ∙ ap (λ (xs : List ℕ). set_of (map kind_of xs)) e) ∙ swap_of (kind_of face ∷ map kind_of others) (kind_of face)
              ∙ ap (λ b. b || is_banned (map kind_of others) (kind_of face)) (eq-eqb (kind_of face) (kind_of face) refl);
          held = subst (λ (ns : List ℕ). 0 < get_or ns (kind_of face) 0) (sym is) (counted_of_lawful rules seat view face small first.0);
        }))

-- What the code asks for, read of the view: the last of the best lawful kind.
pub measured_best : (rules : Rules) (seat kinds kind number missing : ℕ) (view : SeatView) (counts left : List ℕ) (last : Option ℕ) → IsMeasuredHand view counts left number missing
    → kinds ≡ set_of (map kind_of (lawful_faces rules seat view)) →
    IsBestDiscard counts left number kinds kind → last ≡ last_face (lawful_of rules seat view kind) → MatchOption last (lawful_faces rules seat view ≡ []) (IsBest rules seat view)
measured_best rules seat kinds kind number missing view counts left last hand set best last_is = by_last last refl
  where
    here : IsBestDiscard (kind_counts (concealed view)) (room view) (length view.melds) (set_of (map kind_of (lawful_faces rules seat view))) kind
    here =
        subst (λ (s : ℕ). IsBestDiscard (kind_counts (concealed view)) (room view) (length view.melds) s kind) set
        (subst (λ (m : ℕ). IsBestDiscard (kind_counts (concealed view)) (room view) m kinds kind) hand.melds_are
        (subst (λ (r : List ℕ). IsBestDiscard (kind_counts (concealed view)) r number kinds kind) hand.left_is
        (subst (λ (ns : List ℕ). IsBestDiscard ns left number kinds kind) hand.counts_are best)))

    some : lawful_of rules seat view kind ≡ [] → ⊥
    some = any_of kind (lawful_faces rules seat view) (sym (swap_of (map kind_of (lawful_faces rules seat view)) kind) ∙ here.is_discard.among)

    by_last : (o : Option ℕ) → last ≡ o → MatchOption o (lawful_faces rules seat view ≡ []) (IsBest rules seat view)
    by_last None e = absurd (some (some_last (lawful_of rules seat view kind) (sym last_is ∙ e)))
    by_last (Some face) e =
        let at : kind_of face ≡ kind = eqb-true (kind_of face) kind
        (picked (λ other. kind_of other == kind) (lawful_faces rules seat view) (length (lawful_of rules seat view kind) - 1) face (sym last_is ∙ e)) in
        subst (λ b. MatchBool b (IsBestLawful rules seat view face) (last_face (lawful_faces rules seat view) ≡ Some face)) (sym hand.measured) (record {
          kind_is = subst (IsBestDiscard (kind_counts (concealed view)) (room view) (length view.melds) (set_of (map kind_of (lawful_faces rules seat view)))) (sym at) here;
          face_is = ap (λ k. last_face (lawful_of rules seat view k)) at ∙ sym last_is ∙ e;
        })

-- The best of all kinds is the best of those among which it is.
narrowed : (counts room : List ℕ) (melds all some kind : ℕ) → ((k : ℕ) → k < 34 → IsTrue (has_kind all k)) → has_kind some kind ≡ true → IsBestDiscard counts room melds all kind
    → IsBestDiscard counts room melds some kind
narrowed counts room melds all some kind each among best = record {
  is_discard = record { kind_is = best.is_discard.kind_is; among = among; held = best.is_discard.held };
  number = best.number;
  leaves = best.leaves;
  best = λ other others discard theirs. best.best other others record { kind_is = discard.kind_is; among = each other discard.kind_is; held = discard.held } theirs;
}

-- A kind of which some face is picked is among them.
pub one_among : (kind : ℕ) (xs : List ℕ) (i tile : ℕ) → slice_get (filter (λ other. kind_of other == kind) xs) i ≡ Some tile → is_banned (map kind_of xs) kind ≡ true
one_among kind [] i tile h = cc
one_among kind (x ∷ xs) i tile h = by_test (eqb (kind_of x) kind) (λ k. one_among kind xs i tile k) h
  where
    by_test : (b : Bool) → (slice_get (filter (λ other. kind_of other == kind) xs) i ≡ Some tile → is_banned (map kind_of xs) kind ≡ true) →
        slice_get (cond b (x ∷ filter (λ other. kind_of other == kind) xs) (filter (λ other. kind_of other == kind) xs)) i ≡ Some tile → (b || is_banned (map kind_of xs) kind) ≡ true
    by_test true f k = refl
    by_test false f k = f k

-- The best of all kinds, where a discard of it is lawful.
pub held_best : (rules : Rules) (seat all kind number missing : ℕ) (view : SeatView) (counts left : List ℕ) (last : Option ℕ) (tile : ℕ)
    → IsMeasuredHand view counts left number missing → ((k : ℕ) → k < 34 → IsTrue (has_kind all k)) →
    IsBestDiscard counts left number all kind → last ≡ last_face (lawful_of rules seat view kind) → last ≡ Some tile → IsBest rules seat view tile
held_best rules seat all kind number missing view counts left last tile hand each best last_is some =
    subst (λ o. MatchOption o (lawful_faces rules seat view ≡ []) (IsBest rules seat view)) some
    (measured_best rules seat (set_of (map kind_of (lawful_faces rules seat view))) kind number missing view counts left last hand refl
    (narrowed counts left number all (set_of (map kind_of (lawful_faces rules seat view))) kind each among best) last_is)
  where
    among : has_kind (set_of (map kind_of (lawful_faces rules seat view))) kind ≡ true
    among = swap_of (map kind_of (lawful_faces rules seat view)) kind ∙ one_among kind (lawful_faces rules seat view) (length (lawful_of rules seat view kind) - 1) tile (sym last_is ∙ some)

-- ---- the walk down from the last place of a kind

-- The face is of the kind, and its discard breaks no rule.
abbrev pub is_of : Rules → ℕ → SeatView → ℕ → ℕ → Bool
is_of rules seat view kind face = (kind_of face == kind) && passes rules seat view face

far_off : list_all (λ kind. list_all (λ face. not (kind_of face == kind)) (drop (kind + 4) tile_order)) all_kinds ≡ true
unfolding tile_order all_kinds
far_off = refl

filter_off : (p q : ℕ → Bool) (xs : List ℕ) → list_all (λ x. not (q x)) xs ≡ true → filter (λ x. q x && p x) xs ≡ []
filter_off p q [] each = refl
filter_off p q (x ∷ xs) each = by_test (q x) (and_parts (not (q x)) (list_all (λ x. not (q x)) xs) each).0 (filter_off p q xs (and_parts (not (q x)) (list_all (λ x. not (q x)) xs) each).1)
  where
    by_test : (b : Bool) → not b ≡ true → filter (λ x. q x && p x) xs ≡ [] → cond (b && p x) (x ∷ filter (λ x. q x && p x) xs) (filter (λ x. q x && p x) xs) ≡ []
    by_test true k none = absurd (false≢true k)
    by_test false k none = none

-- Past it none is of the kind.
pub none_past : (p : ℕ → Bool) (kind place : ℕ) → kind < 34 → place ≡ kind + 4 → filter (λ face. (kind_of face == kind) && p face) (drop place tile_order) ≡ []
none_past p kind place low at =
    ap (λ n. filter (λ face. (kind_of face == kind) && p face) (drop n tile_order)) at
    ∙ filter_off p (λ face. kind_of face == kind) (drop (kind + 4) tile_order) (each_kind (λ k. list_all (λ face. not (kind_of face == k)) (drop (k + 4) tile_order)) kind low far_off)

pub none_here : (p : ℕ → Bool) (place next tile : ℕ) → 0 < place → place ≤ 37 → next ≡ place - 1 → tile ≡ slice_index tile_order next → p tile ≡ false
    → filter p (drop place tile_order) ≡ [] → filter p (drop next tile_order) ≡ []
none_here p place next tile some low at_next is test none =
    ap (λ (xs : List ℕ). filter p xs) (drop_more tile_order next 0 (omega (arith, some, low, at_next, all_faces)) ∙ ap (λ (t : ℕ). t ∷ drop (next + 1) tile_order) (sym is))
    ∙ ap (λ b. cond b (tile ∷ filter p (drop (next + 1) tile_order)) (filter p (drop (next + 1) tile_order))) test
    ∙ ap (λ n. filter p (drop n tile_order)) (sym (one_more place next some at_next)) ∙ none

pub last_here : (p : ℕ → Bool) (place next tile : ℕ) → 0 < place → place ≤ 37 → next ≡ place - 1 → tile ≡ slice_index tile_order next → p tile ≡ true
    → filter p (drop place tile_order) ≡ [] → Some tile ≡ last_face (filter p tile_order)
last_here p place next tile some low at_next is test none =
    last_passes p next tile (omega (arith, some, low, at_next)) is test
    ∙ ap (λ n. last_face (filter p (take n tile_order))) (sym (one_more place next some at_next))
    ∙ ap last_face (sym (append-nil (filter p (take place tile_order))) ∙ ap (λ (xs : List ℕ). filter p (take place tile_order) ++ xs) (sym none)
    ∙ sym (filter-append p (take place tile_order) (drop place tile_order)) ∙ ap (filter p) (take-append-drop place tile_order))

pub none_at_all : (p : ℕ → Bool) (place : ℕ) → place ≡ 0 → filter p (drop place tile_order) ≡ [] → None ≡ last_face (filter p tile_order)
none_at_all p place first none = sym (ap last_face (ap (λ n. filter p (drop n tile_order)) (sym first) ∙ none))

-- ---- all kinds

pub every_more : (kinds next number kind : ℕ) → next ≡ with_kind kinds kind → kind ≡ number → ((k : ℕ) → k < number → IsTrue (has_kind kinds k)) → (k : ℕ) → k < number + 1 → IsTrue (has_kind next k)
every_more kinds next number kind is at before k low = ap (λ s. has_kind s k) is ∙ has_kind-with kinds kind k ∙ elim (cases_eq kind k) [
  | inl same ↦ ap (λ b. b || has_kind kinds k) (eq-eqb kind k same)
  | inr other ↦ either (eqb kind k) (before k (let apart : number ≡ k → ⊥ = λ e. other (at ∙ e) in omega (arith, low, apart)))
]
  where
    either : {b : Bool} (a : Bool) → b ≡ true → (a || b) ≡ true
    either true h = refl
    either false h = h
