-- The default answer is lawful.
use Rattle.std.proofs.Common.{◌≡◌, ℕ, zero, suc, ◌-◌, ◌<◌, ◌==◌, ◌&&◌, ◌||◌, not, Bool, true, false, cond, eqb, List, [], ◌∷◌, length, get_or, inl, inr, Option, Some, None, refl, sym, ap, ◌∙◌, arith}
use Rattle.std.specs.Prelude.{nat_lt, is_none, slice_get, option_map, option_and_then, filter}
use Rattle.std.specs.List.{list_all}
use Rattle.std.proofs.lemmas.Bool.{cases_eq, ne_eqb, eq-eqb, and_parts, ltb-true, lt-ltb, lt-leb, not-true, true≢false}
use Rattle.std.proofs.lemmas.Option.{slice_get-get_or}
use Rattle.mj_tiles.specs.Faces.{kind_of, number_in, is_red, tile_order}
use Rattle.mj_calls.specs.Bans.{is_banned, banned_kinds}
use Rattle.mj_deeds.specs.declared.answer.Pai.TheVariants.{Known}
use Rattle.mj_deeds.specs.declared.answer.Answer.TheVariants.{Pass, Discard}
use Rattle.mj_deeds.specs.Answers.{is_in_form}
use Rattle.mj_deeds.specs.declared.rule.Rule.{Rule}
use Rattle.mj_deeds.specs.declared.deed.Deed.{Deed}
use Rattle.mj_deeds.specs.declared.deed.Deed.TheVariants as deeds
use Rattle.mj_deeds.specs.Facts.{newest, before_newest, tiles_gained, tiles_lost, holds_drawn, drawn_tile}
use Rattle.mj_deeds.specs.Hand.{hand}
use Rattle.mj_deeds.specs.Fits.{is_face}
use Rattle.mj_deeds.proofs.RealTiles.{member_passes}
use Rattle.mj_wall.specs.declared.setting.Rules.{Rules}
use Rattle.mj_rules.specs.Broken.{is_ready_without, discards_unready, is_open, is_no_tile, is_wrongly_marked, is_banned_tile, banned_in, is_that, broken_by}
use Rattle.mj_rules.specs.View.{SeatView, view_of, WindowTurn, Drew, Discarded, Added, Reached, Called, Nobodys, turn_by, turn_in, held_count}
use Rattle.mj_rules.specs.Default.{discard_of, lawful_faces, default_in, default_by, discard_or_pass, last_face, can_discard_in}
use Rattle.mj_rules.specs.Laws.{SomeDiscardIsLawful, FittingDefaultIsLawful, PlayedDefaultIsLawful}
use Rattle.mj_rules.proofs.Turns.{turn_is}
use Rattle.mj_rules.proofs.Freeing.{held_faces, free_faces, ready_faces, has_free_in, some_tile_is_free}
use Rattle.mj_rules.proofs.Playing.{played_deeds_fit}
use Rattle.mj_rules.proofs.Lawful.{pass_lawful, discard_lawful}
use Rattle.mj_rules.proofs.Given.{Owns, owns}

-- A tile that is picked out of a list by a test passes it.
picked : (p : ℕ → Bool) (xs : List ℕ) (i tile : ℕ) → slice_get (filter p xs) i ≡ Some tile → p tile ≡ true
picked p [] i tile h = cc
picked p (x ∷ xs) i tile h = by_test (p x) refl (λ k. picked p xs k tile) i h
  where
    some_is : (a b : ℕ) → Some a ≡ Some b → a ≡ b
    some_is a b e = cc

    by_test : (b : Bool) → p x ≡ b → ((k : ℕ) → slice_get (filter p xs) k ≡ Some tile → p tile ≡ true) → (i : ℕ) → slice_get (cond b (x ∷ filter p xs) (filter p xs)) i ≡ Some tile → p tile ≡ true
    by_test true e others zero k = ap p (sym (some_is x tile k)) ∙ e
    by_test true e others (suc i) k = others i k
    by_test false e others i k = others i k

last_is : (xs : List ℕ) → 0 < length xs → last_face xs ≡ Some (get_or xs (length xs - 1) 0)
last_is xs h = slice_get-get_or xs (length xs - 1) 0 (omega arith)

-- What a discard at one's own turn is out of.
record Good (red : Bool) (view : SeatView) (tile : ℕ) (drawn : Bool) : Type 0 where
  real : is_no_tile red (Known tile) ≡ false
  some : 0 < held_count view tile
  marked : is_wrongly_marked view (Known tile) drawn ≡ false
  free : is_banned_tile (banned_in view.turn) (Known tile) ≡ false
  unlocked : (view.accepted && not drawn) ≡ false
  ready : discards_unready view view.turn (Known tile) ≡ false

not_both : (b : Bool) → (b && false) ≡ false
not_both true = refl
not_both false = refl

-- A tile that is given is none that the game doesn't have.
given_real : (red : Bool) (tiles : List ℕ) (tile : ℕ) → list_all (is_face red) tiles ≡ true → 0 < number_in tiles tile → is_no_tile red (Known tile) ≡ false
given_real true tiles tile h k = not_both (is_red tile)
given_real false tiles tile h k = ap (λ b. b && true) (lt-leb 34 tile (ltb-true tile 34 (member_passes (is_face false) tiles tile h k)))

-- by the turn

passes : (rules : Rules) (seat : ℕ) (view : SeatView) (turn : WindowTurn) → view.turn ≡ turn → is_open rules seat turn view.accepted (Pass None) ≡ true → broken_by rules seat view (Pass None) ≡ None
passes rules seat view turn e opens = pass_lawful rules seat view (ap (λ t. is_open rules seat t view.accepted (Pass None)) e ∙ opens)

-- A good discard, marked as it is.
discards_well : (rules : Rules) (seat tile : ℕ) (view : SeatView) (opens : is_open rules seat view.turn view.accepted
    (Discard seat (Known tile) (is_that view.drawn tile)) ≡ true) → Good rules.red view tile (is_that view.drawn tile) →
    broken_by rules seat view (discard_of seat view tile) ≡ None
discards_well rules seat tile view opens good = discard_lawful rules seat tile (is_that view.drawn tile) view opens good.real good.some good.marked good.free good.unlocked good.ready

draws : (rules : Rules) (seat who tile : ℕ) (view : SeatView) → view.turn ≡ Drew who → view.drawn ≡ cond (eqb who seat) (Some tile) None →
    (who ≡ seat → Good rules.red view tile (is_that view.drawn tile)) →
    broken_by rules seat view (default_in rules seat view (Drew who)) ≡ None
draws rules seat who tile view turn drawn good =
    elim (cases_eq who seat) [
      | inl e ↦
          ap (λ b. broken_by rules seat view (cond b (discard_or_pass seat view view.drawn) (Pass None))) (eq-eqb who seat e)
          ∙ ap (λ o. broken_by rules seat view (discard_or_pass seat view o)) (drawn ∙ ap (λ b. cond b (Some tile) None) (eq-eqb who seat e))
          ∙ discards_well rules seat tile view
          (ap (λ t. is_open rules seat t view.accepted (Discard seat (Known tile) (is_that view.drawn tile))) turn ∙ ap (λ b. cond b true false) (eq-eqb who seat e)) (good e)
      | inr ne ↦
          ap (λ b. broken_by rules seat view (cond b (discard_or_pass seat view view.drawn) (Pass None))) (ne_eqb who seat ne)
          ∙ passes rules seat view (Drew who) turn (ap (λ b. cond b false true) (ne_eqb who seat ne))
    ]

-- The last discard that breaks no rule breaks none.
last_is_lawful : (rules : Rules) (seat : ℕ) (view : SeatView) → nat_lt 0 (length (lawful_faces rules seat view)) ≡ true →
    broken_by rules seat view (discard_or_pass seat view (last_face (lawful_faces rules seat view))) ≡ None
unfolding lawful_faces
last_is_lawful rules seat view some =
    let faces : List ℕ = lawful_faces rules seat view in
    let tile : ℕ = get_or faces (length faces - 1) 0 in
    let last : last_face faces ≡ Some tile = last_is faces (ltb-true 0 (length faces) some) in
    ap (λ o. broken_by rules seat view (discard_or_pass seat view o)) last
    ∙ none_is _ (picked (λ face. is_none (broken_by rules seat view (discard_of seat view face))) tile_order (length faces - 1) tile last)
  where
    none_is : (o : Option Rule) → is_none o ≡ true → o ≡ None
    none_is None h = refl
    none_is (Some rule) h = cc

-- Right after its own reach or call a seat discards, and the others pass.
own_last : (rules : Rules) (seat who : ℕ) (view : SeatView) → is_open rules seat view.turn view.accepted (Pass None) ≡ cond (who == seat) false true →
    (not (who == seat) || nat_lt 0 (length (lawful_faces rules seat view))) ≡ true →
    broken_by rules seat view (cond (who == seat) (discard_or_pass seat view (last_face (lawful_faces rules seat view))) (Pass None)) ≡ None
own_last rules seat who view opens some = by_test (who == seat) opens some
  where
    by_test : (b : Bool) → is_open rules seat view.turn view.accepted (Pass None) ≡ cond b false true → (not b || nat_lt 0 (length (lawful_faces rules seat view))) ≡ true →
        broken_by rules seat view (cond b (discard_or_pass seat view (last_face (lawful_faces rules seat view))) (Pass None)) ≡ None
    by_test true o h = last_is_lawful rules seat view h
    by_test false o h = pass_lawful rules seat view o

calls : (rules : Rules) (seat who : ℕ) (banned : List ℕ) (view : SeatView) → view.turn ≡ Called who banned → can_discard_in rules seat view (Called who banned) ≡ true →
    broken_by rules seat view (default_in rules seat view (Called who banned)) ≡ None
calls rules seat who banned view turn some = own_last rules seat who view (ap (λ t. is_open rules seat t view.accepted (Pass None)) turn) some

reaches : (rules : Rules) (seat who : ℕ) (view : SeatView) → view.turn ≡ Reached who → can_discard_in rules seat view (Reached who) ≡ true →
    broken_by rules seat view (default_in rules seat view (Reached who)) ≡ None
reaches rules seat who view turn some = own_last rules seat who view (ap (λ t. is_open rules seat t view.accepted (Pass None)) turn) some

same : (b : Bool) → cond b true true ≡ true
same true = refl
same false = refl

discards : (rules : Rules) (seat who tile : ℕ) (view : SeatView) → view.turn ≡ Discarded who tile → broken_by rules seat view (Pass None) ≡ None
discards rules seat who tile view turn = passes rules seat view (Discarded who tile) turn (same (eqb who seat))

-- At an added kan all may pass.
adds : (rules : Rules) (seat who tile : ℕ) (view : SeatView) → view.turn ≡ Added who tile → broken_by rules seat view (Pass None) ≡ None
adds rules seat who tile view turn = passes rules seat view (Added who tile) turn (same (eqb who seat))

-- the tiles

-- A discard is marked as drawn exactly where the drawn tile has its face.
marked_well : (view : SeatView) (tile : ℕ) → is_wrongly_marked view (Known tile) (is_that view.drawn tile) ≡ false
marked_well view tile = by_test (is_that view.drawn tile) refl
  where
    by_test : (b : Bool) → is_that view.drawn tile ≡ b → is_wrongly_marked view (Known tile) b ≡ false
    by_test true e = ap not e
    by_test false e = ap (λ b. b && (held_count view tile == 1)) e

good_draw : (red : Bool) (ds : List Deed) (seat who tile : ℕ) → Owns red ds seat → drawn_tile ds seat ≡ Some tile → (view_of ds seat).turn ≡ Drew who →
    Good red (view_of ds seat) tile (is_that (view_of ds seat).drawn tile)
unfolding view_of
good_draw red ds seat who tile owns drawn turn =
    let fewer : number_in (tiles_lost (hand ds) seat) tile < number_in (tiles_gained (hand ds) seat) tile = owns.drawn tile drawn in
    let that : is_that (view_of ds seat).drawn tile ≡ true = ap (λ o. is_that o tile) drawn ∙ eq-eqb tile tile refl in
    record {
      real = given_real red (tiles_gained (hand ds) seat) tile owns.real (omega arith);
      some = omega arith;
      marked = marked_well (view_of ds seat) tile;
      free = ap (λ t. is_banned_tile (banned_in t) (Known tile)) turn;
      unlocked = ap (λ b. (view_of ds seat).accepted && not b) that ∙ not_both (view_of ds seat).accepted;
      ready = ap (λ t. discards_unready (view_of ds seat) t (Known tile)) turn;
    }

-- A tile that is held may be discarded by a seat that is not in riichi where its turn forbids it not.
good_held : (red : Bool) (ds : List Deed) (seat tile : ℕ) → Owns red ds seat → (view_of ds seat).accepted ≡ false → nat_lt 0 (held_count (view_of ds seat) tile) ≡ true →
    is_banned_tile (banned_in (view_of ds seat).turn) (Known tile) ≡ false → discards_unready (view_of ds seat) (view_of ds seat).turn (Known tile) ≡ false →
    Good red (view_of ds seat) tile (is_that (view_of ds seat).drawn tile)
unfolding view_of
good_held red ds seat tile owns out held free ready =
    let some : 0 < number_in (tiles_gained (hand ds) seat) tile - number_in (tiles_lost (hand ds) seat) tile = ltb-true 0 (held_count (view_of ds seat) tile) held in
    record {
      real = given_real red (tiles_gained (hand ds) seat) tile owns.real (omega (arith, some));
      some = some;
      marked = marked_well (view_of ds seat) tile;
      free = free;
      unlocked = ap (λ b. b && not (is_that (view_of ds seat).drawn tile)) out;
      ready = ready;
    }

-- Where what passes one test passes another, the other is passed by some where the one is.
some_more : (p q : ℕ → Bool) (xs : List ℕ) → ((x : ℕ) → p x ≡ true → q x ≡ true) → nat_lt 0 (length (filter p xs)) ≡ true → nat_lt 0 (length (filter q xs)) ≡ true
some_more p q [] h k = k
some_more p q (x ∷ xs) h k = by_tests (p x) (q x) refl refl k (some_more p q xs h)
  where
    by_tests : (b c : Bool) → p x ≡ b → q x ≡ c → nat_lt 0 (length (cond b (x ∷ filter p xs) (filter p xs))) ≡ true →
        (nat_lt 0 (length (filter p xs)) ≡ true → nat_lt 0 (length (filter q xs)) ≡ true) →
        nat_lt 0 (length (cond c (x ∷ filter q xs) (filter q xs))) ≡ true
    by_tests b true e f k others = lt-ltb 0 (length (x ∷ filter q xs)) (omega arith)
    by_tests true false e f k others = absurd (true≢false (sym (h x e) ∙ f))
    by_tests false false e f k others = others k

-- A seat that may discard and is not in riichi has a discard that breaks no rule, where it holds a tile that passes a test
-- and what passes it is not forbidden.
held_is_lawful : (rules : Rules) (ds : List Deed) (seat : ℕ) (p : ℕ → Bool) → Owns rules.red ds seat →
    ((tile : ℕ) → is_open rules seat (view_of ds seat).turn (view_of ds seat).accepted (Discard seat (Known tile) (is_that (view_of ds seat).drawn tile)) ≡ true) →
    ((tile : ℕ) → p tile ≡ true → is_banned_tile (banned_in (view_of ds seat).turn) (Known tile) ≡ false) →
    ((tile : ℕ) → p tile ≡ true → discards_unready (view_of ds seat) (view_of ds seat).turn (Known tile) ≡ false) →
    (not (view_of ds seat).accepted && nat_lt 0 (length (held_faces (view_of ds seat) p))) ≡ true → nat_lt 0 (length (lawful_faces rules seat (view_of ds seat))) ≡ true
unfolding lawful_faces
held_is_lawful rules ds seat p owns opens free ready h =
    let view : SeatView = view_of ds seat in
    let both = and_parts (not view.accepted) (nat_lt 0 (length (held_faces view p))) h in
    let out : view.accepted ≡ false = not-true view.accepted both.0 in
    some_more (λ face. nat_lt 0 (held_count view face) && p face) (λ face. is_none (broken_by rules seat view (discard_of seat view face))) tile_order
    (λ face passed.
    let parts = and_parts (nat_lt 0 (held_count view face)) (p face) passed in
    ap is_none (discards_well rules seat face view (opens face) (good_held rules.red ds seat face owns out parts.0 (free face parts.1) (ready face parts.1))))
    both.1

-- So has one that called.
free_is_lawful : (rules : Rules) (ds : List Deed) (seat who : ℕ) (banned : List ℕ) → Owns rules.red ds seat → (view_of ds seat).turn ≡ Called who banned →
    has_free_in seat (view_of ds seat) (Called who banned) ≡ true → can_discard_in rules seat (view_of ds seat) (Called who banned) ≡ true
unfolding free_faces
free_is_lawful rules ds seat who banned owns turn free = elim (cases_eq who seat) [
  | inl e ↦
      ap (λ b. not b || nat_lt 0 (length (lawful_faces rules seat (view_of ds seat)))) (eq-eqb who seat e)
      ∙ held_is_lawful rules ds seat (λ face. not (is_banned banned (kind_of face))) owns
      (λ tile. ap (λ t. is_open rules seat t (view_of ds seat).accepted (Discard seat (Known tile) (is_that (view_of ds seat).drawn tile))) turn ∙ ap (λ b. cond b true false) (eq-eqb who seat e))
      (λ tile passed. ap (λ t. is_banned_tile (banned_in t) (Known tile)) turn ∙ not-true (is_banned banned (kind_of tile)) passed)
      (λ tile passed. ap (λ t. discards_unready (view_of ds seat) t (Known tile)) turn)
      (ap (λ b. not b || (not (view_of ds seat).accepted && nat_lt 0 (length (free_faces (view_of ds seat) banned)))) (sym (eq-eqb who seat e)) ∙ free)
  | inr ne ↦ ap (λ b. not b || nat_lt 0 (length (lawful_faces rules seat (view_of ds seat)))) (ne_eqb who seat ne)
]

-- And one that reached.
ready_is_lawful : (rules : Rules) (ds : List Deed) (seat who : ℕ) → Owns rules.red ds seat → (view_of ds seat).turn ≡ Reached who →
    has_free_in seat (view_of ds seat) (Reached who) ≡ true → can_discard_in rules seat (view_of ds seat) (Reached who) ≡ true
unfolding ready_faces
ready_is_lawful rules ds seat who owns turn free = elim (cases_eq who seat) [
  | inl e ↦
      ap (λ b. not b || nat_lt 0 (length (lawful_faces rules seat (view_of ds seat)))) (eq-eqb who seat e)
      ∙ held_is_lawful rules ds seat (is_ready_without (view_of ds seat)) owns
      (λ tile. ap (λ t. is_open rules seat t (view_of ds seat).accepted (Discard seat (Known tile) (is_that (view_of ds seat).drawn tile))) turn ∙ ap (λ b. cond b true false) (eq-eqb who seat e))
      (λ tile passed. ap (λ t. is_banned_tile (banned_in t) (Known tile)) turn)
      (λ tile passed. ap (λ t. discards_unready (view_of ds seat) t (Known tile)) turn ∙ ap not passed)
      (ap (λ b. not b || (not (view_of ds seat).accepted && nat_lt 0 (length (ready_faces (view_of ds seat))))) (sym (eq-eqb who seat e)) ∙ free)
  | inr ne ↦ ap (λ b. not b || nat_lt 0 (length (lawful_faces rules seat (view_of ds seat)))) (ne_eqb who seat ne)
]

-- What a seat holds as drawn after a draw.
drawn_is : (ds : List Deed) (seat : ℕ) (n : Deed) → newest ds ≡ Some n → drawn_tile ds seat ≡ holds_drawn seat (before_newest ds) n
drawn_is ds seat n e = ap (option_and_then (holds_drawn seat (before_newest ds))) e

-- The law.
by_newest : (rules : Rules) (ds : List Deed) (seat : ℕ) (last : Option Deed) → newest ds ≡ last → Owns rules.red ds seat →
    can_discard_in rules seat (view_of ds seat) (turn_in (option_map turn_by last)) ≡ true → broken_by rules seat (view_of ds seat)
    (default_in rules seat (view_of ds seat) (turn_in (option_map turn_by last))) ≡ None
unfolding view_of
by_newest rules ds seat None e owns some = passes rules seat (view_of ds seat) Nobodys (ap (λ o. turn_in (option_map turn_by o)) e) refl
by_newest rules ds seat (Some (deeds.Draw who tile replacement)) e owns some =
    draws rules seat who tile (view_of ds seat) (turn_is ds seat (deeds.Draw who tile replacement) e) (drawn_is ds seat (deeds.Draw who tile replacement) e)
    (λ same. good_draw rules.red ds seat who tile owns (drawn_is ds seat (deeds.Draw who tile replacement) e ∙ ap (λ b. cond b (Some tile) None)
    (eq-eqb who seat same)) (turn_is ds seat (deeds.Draw who tile replacement) e))
by_newest rules ds seat (Some (deeds.Discard who tile drawn)) e owns some = discards rules seat who tile (view_of ds seat) (turn_is ds seat (deeds.Discard who tile drawn) e)
by_newest rules ds seat (Some (deeds.AddedKan who tile a b c)) e owns some = adds rules seat who tile (view_of ds seat) (turn_is ds seat (deeds.AddedKan who tile a b c) e)
by_newest rules ds seat (Some (deeds.Reach who)) e owns some = reaches rules seat who (view_of ds seat) (turn_is ds seat (deeds.Reach who) e) some
by_newest rules ds seat (Some (deeds.Chi who target tile a b)) e owns some =
    calls rules seat who (banned_kinds (deeds.Chi who target tile a b)) (view_of ds seat) (turn_is ds seat (deeds.Chi who target tile a b) e) some
by_newest rules ds seat (Some (deeds.Pon who target tile a b)) e owns some =
    calls rules seat who (banned_kinds (deeds.Pon who target tile a b)) (view_of ds seat) (turn_is ds seat (deeds.Pon who target tile a b) e) some
by_newest rules ds seat (Some other) e owns some = passes rules seat (view_of ds seat) Nobodys (turn_is ds seat other e) refl

-- A default answer is a discard or a pass, and so in form.
discard_or_pass_form : (seat : ℕ) (view : SeatView) (face : Option ℕ) → is_in_form (discard_or_pass seat view face) ≡ true
discard_or_pass_form seat view None = refl
discard_or_pass_form seat view (Some face) = refl

own_form : (own : Bool) (seat : ℕ) (view : SeatView) (face : Option ℕ) → is_in_form (cond own (discard_or_pass seat view face) (Pass None)) ≡ true
own_form true seat view face = discard_or_pass_form seat view face
own_form false seat view face = refl

default_form : (rules : Rules) (seat : ℕ) (view : SeatView) (turn : WindowTurn) → is_in_form (default_in rules seat view turn) ≡ true
default_form rules seat view (Drew who) = own_form (who == seat) seat view view.drawn
default_form rules seat view (Discarded who tile) = refl
default_form rules seat view (Added who tile) = refl
default_form rules seat view (Reached who) = own_form (who == seat) seat view (last_face (lawful_faces rules seat view))
default_form rules seat view (Called who banned) = own_form (who == seat) seat view (last_face (lawful_faces rules seat view))
default_form rules seat view Nobodys = refl

pub fitting_default_is_lawful : FittingDefaultIsLawful
unfolding default_by view_of
fitting_default_is_lawful rules ds seat small fit some = record {
  form = default_form rules seat (view_of ds seat) (view_of ds seat).turn;
  clean = by_newest rules ds seat (newest ds) refl (owns rules.red ds seat small fit) some;
}

-- Of played deeds.
can_by_newest : (rules : Rules) (ds : List Deed) (seat : ℕ) (last : Option Deed) → newest ds ≡ last → Owns rules.red ds seat →
    has_free_in seat (view_of ds seat) (turn_in (option_map turn_by last)) ≡ true →
    can_discard_in rules seat (view_of ds seat) (turn_in (option_map turn_by last)) ≡ true
unfolding view_of
can_by_newest rules ds seat None e owns free = refl
can_by_newest rules ds seat (Some (deeds.Chi who target tile a b)) e owns free =
    free_is_lawful rules ds seat who (banned_kinds (deeds.Chi who target tile a b)) owns (turn_is ds seat (deeds.Chi who target tile a b) e) free
can_by_newest rules ds seat (Some (deeds.Pon who target tile a b)) e owns free =
    free_is_lawful rules ds seat who (banned_kinds (deeds.Pon who target tile a b)) owns (turn_is ds seat (deeds.Pon who target tile a b) e) free
can_by_newest rules ds seat (Some (deeds.Reach who)) e owns free = ready_is_lawful rules ds seat who owns (turn_is ds seat (deeds.Reach who) e) free
can_by_newest rules ds seat (Some other) e owns free = refl

pub some_discard_is_lawful : SomeDiscardIsLawful
unfolding view_of
some_discard_is_lawful rules walls ds seat small whole played =
    can_by_newest rules ds seat (newest ds) refl (owns rules.red ds seat small (played_deeds_fit rules walls ds whole played)) (some_tile_is_free rules walls ds seat whole played)

pub played_default_is_lawful : PlayedDefaultIsLawful
played_default_is_lawful rules walls ds seat small whole played =
    fitting_default_is_lawful rules ds seat small (played_deeds_fit rules walls ds whole played) (some_discard_is_lawful rules walls ds seat small whole played)
