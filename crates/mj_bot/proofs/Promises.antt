-- A choice is lawful.
use Rattle.std.proofs.Common.{◌≡◌, ℕ, ◌+◌, ◌<◌, inl, inr, ◌==◌, ◌&&◌, Bool, true, false, cond, eqb, leb, ltb, List, [], ◌∷◌, ◌++◌, Option, Some, None, refl, sym, ap, ◌∙◌, arith}
use Rattle.std.specs.Prelude.{is_none, filter, map, option_to_list, unwrap_or, MatchOption}
use Rattle.std.specs.List.{list_all}
use Rattle.std.proofs.lemmas.Bool.{and_parts, and_from, ltb-true, le-leb, cases_eq, ne_eqb}
use Rattle.std.proofs.lemmas.List.Sums.{sum_by-cons}
use Rattle.mj_tiles.specs.Faces.{kind_of, number_in, tile_order}
use Rattle.mj_wall.proofs.TileOrder.{passes_face}
use Rattle.mj_fu.specs.Forms.{has_value}
use Rattle.mj_deeds.specs.Answers.{is_in_form, place_of}
use Rattle.mj_deeds.specs.declared.answer.Pai.TheVariants.{Known}
use Rattle.mj_deeds.specs.declared.answer.Answer.{Answer}
use Rattle.mj_deeds.specs.declared.answer.Answer.TheVariants.{Pass, Pon, Reach, Win}
use Rattle.mj_deeds.specs.declared.rule.Rule.{Rule}
use Rattle.mj_wall.specs.declared.setting.Rules.{Rules}
use Rattle.mj_rules.specs.Broken.{broken_by}
use Rattle.mj_rules.specs.View.{SeatView, view_of, WindowTurn, Drew, Discarded, Added, Reached, Called, Nobodys}
use Rattle.mj_rules.specs.Default.{discard_of, lawful_faces, last_face, discard_or_pass, default_in, default_by}
use Rattle.mj_rules.specs.Played.{IsLawful}
use Rattle.mj_rules.proofs.Defaults.{fitting_default_is_lawful}
use Rattle.mj_rules.proofs.Given.{drawn_small}
use Rattle.mj_bot.specs.Choice.{win_in, pon_in, first_lawful, wanted, IsBest}
use Rattle.mj_bot.specs.Laws.{ChoiceIsLawful}
use Rattle.mj_bot.proofs.Chosen.{found_before, none_before}
use Rattle.mj_bot.proofs.Lawful.{passes, best_passes}

-- what is found

-- It breaks no rule.
found_clean : (rules : Rules) (seat : ℕ) (view : SeatView) (xs : List Answer) (answer : Answer) → first_lawful rules seat view xs ≡ Some answer → broken_by rules seat view answer ≡ None
found_clean rules seat view [] answer h = cc
found_clean rules seat view (x ∷ xs) answer h = by_test (broken_by rules seat view x) refl (found_clean rules seat view xs answer) h
  where
    by_test : (o : Option Rule) → broken_by rules seat view x ≡ o → (first_lawful rules seat view xs ≡ Some answer → broken_by rules seat view answer ≡ None) →
        cond (is_none o) (Some x) (first_lawful rules seat view xs) ≡ Some answer → broken_by rules seat view answer ≡ None
    by_test None e later k = (let same : x ≡ answer = cc in ap (broken_by rules seat view) (sym same) ∙ e)
    by_test (Some rule) e later k = later k

-- It is one of them.
found_form : (rules : Rules) (seat : ℕ) (view : SeatView) (xs : List Answer) (answer : Answer) → first_lawful rules seat view xs ≡ Some answer →
    list_all is_in_form xs ≡ true → is_in_form answer ≡ true
found_form rules seat view [] answer h each = cc
found_form rules seat view (x ∷ xs) answer h each =
    by_test (is_none (broken_by rules seat view x)) (λ k. found_form rules seat view xs answer k (and_parts (is_in_form x) (list_all is_in_form xs) each).1) h
  where
    by_test : (b : Bool) → (first_lawful rules seat view xs ≡ Some answer → is_in_form answer ≡ true) → cond b (Some x) (first_lawful rules seat view xs) ≡ Some answer → is_in_form answer ≡ true
    by_test true later k = (let same : x ≡ answer = cc in ap is_in_form (sym same) ∙ (and_parts (is_in_form x) (list_all is_in_form xs) each).0)
    by_test false later k = later k

-- in form

all_behind : (xs ys : List Answer) → list_all is_in_form xs ≡ true → list_all is_in_form ys ≡ true → list_all is_in_form (xs ++ ys) ≡ true
all_behind [] ys h k = k
all_behind (x ∷ xs) ys h k =
    let parts = and_parts (is_in_form x) (list_all is_in_form xs) h in
    and_from (is_in_form x) (list_all is_in_form (xs ++ ys)) parts.0 (all_behind xs ys parts.1 k)

win_form : (seat : ℕ) (view : SeatView) (turn : WindowTurn) → list_all is_in_form (win_in seat view turn) ≡ true
win_form seat view (Drew who) = by_tile view.drawn
  where
    by_tile : (o : Option ℕ) → list_all is_in_form (map (λ tile. Win seat seat (Some (Known tile))) (option_to_list o)) ≡ true
    by_tile None = refl
    by_tile (Some tile) = refl
win_form seat view (Discarded who tile) = refl
win_form seat view (Added who tile) = refl
win_form seat view (Reached who) = refl
win_form seat view (Called who banned) = refl
win_form seat view Nobodys = refl

pon_form : (seat : ℕ) (view : SeatView) (turn : WindowTurn) → list_all is_in_form (pon_in seat view turn) ≡ true
pon_form seat view (Drew who) = refl
pon_form seat view (Discarded who tile) = by_test (has_value view.case (kind_of tile))
  where
    same : leb (place_of (Known tile)) (place_of (Known tile)) ≡ true
    same = le-leb (place_of (Known tile)) (place_of (Known tile)) (omega arith)

    by_test : (b : Bool) → list_all is_in_form (cond b (Pon seat who (Known tile) (Known tile) (Known tile) ∷ []) []) ≡ true
    by_test true = ap (λ b. (b && true) && true) same
    by_test false = refl
pon_form seat view (Added who tile) = refl
pon_form seat view (Reached who) = refl
pon_form seat view (Called who banned) = refl
pon_form seat view Nobodys = refl

discard_form : (seat : ℕ) (view : SeatView) (best : Option ℕ) → list_all is_in_form (map (discard_of seat view) (option_to_list best)) ≡ true
discard_form seat view None = refl
discard_form seat view (Some face) = refl

wanted_form : (seat : ℕ) (view : SeatView) (best : Option ℕ) → list_all is_in_form (wanted seat view best) ≡ true
wanted_form seat view best =
    all_behind (win_in seat view view.turn) (Reach seat ∷ (map (discard_of seat view) (option_to_list best) ++ pon_in seat view view.turn)) (win_form seat view view.turn)
    (all_behind (map (discard_of seat view) (option_to_list best)) (pon_in seat view view.turn) (discard_form seat view best) (pon_form seat view view.turn))

-- a pass

-- Where nothing is found, there is no lawful discard.
none_best : (rules : Rules) (seat : ℕ) (view : SeatView) (best : Option ℕ) → first_lawful rules seat view (wanted seat view best) ≡ None →
    MatchOption best (lawful_faces rules seat view ≡ []) (IsBest rules seat view) → lawful_faces rules seat view ≡ []
none_best rules seat view None h k = k
none_best rules seat view (Some face) h k = absurd (by_win (first_lawful rules seat view (win_in seat view view.turn)) refl)
  where
    rest : List Answer
    rest = Reach seat ∷ (discard_of seat view face ∷ pon_in seat view view.turn)

    some : {A : Type 0} (a : A) → Some a ≡ None → ⊥
    some a e = cc

    by_win : (o : Option Answer) → first_lawful rules seat view (win_in seat view view.turn) ≡ o → ⊥
    by_win (Some win) e = some win (sym (found_before rules seat view (win_in seat view view.turn) rest win e) ∙ h)
    by_win None e = by_reach (is_none (broken_by rules seat view (Reach seat))) (sym (none_before rules seat view (win_in seat view view.turn) rest e) ∙ h)
      where
        by_reach : (b : Bool) → cond b (Some (Reach seat)) (first_lawful rules seat view (discard_of seat view face ∷ pon_in seat view view.turn)) ≡ None → ⊥
        by_reach true l = some (Reach seat) l
        by_reach false l = some (discard_of seat view face)
            (sym (ap (λ b. cond b (Some (discard_of seat view face)) (first_lawful rules seat view (pon_in seat view view.turn)))
            (best_passes rules seat view face k)) ∙ l)

-- A face of the game that passes is picked.
not_none : (p : ℕ → Bool) (face : ℕ) (xs : List ℕ) → 0 < number_in xs face → p face ≡ true → filter p xs ≡ [] → ⊥
not_none p face [] some h e = absurd (none some)
  where
    none : 0 < 0 → ⊥
    none k = omega arith
not_none p face (x ∷ xs) some h e = elim (cases_eq x face) [
  | inl same ↦ here (ap (λ b. cond b (x ∷ filter p xs) (filter p xs)) (ap p same ∙ h))
  | inr ne ↦ by_test (p x) e (not_none p face xs (behind _ _ _ (sum_by-cons (λ y. cond (eqb y face) 1 0) x xs) (ap (λ b. cond b 1 0) (ne_eqb x face ne)) some) h)
]
  where
    here : filter p (x ∷ xs) ≡ x ∷ filter p xs → ⊥
    here k = cc

    behind : (a b c : ℕ) → a ≡ b + c → b ≡ 0 → 0 < a → 0 < c
    behind a b c e f g = omega (arith, e, f, g)

    by_test : (b : Bool) → cond b (x ∷ filter p xs) (filter p xs) ≡ [] → (filter p xs ≡ [] → ⊥) → ⊥
    by_test true k f = cc
    by_test false k f = f k

in_order : (face : ℕ) → face < 37 → 0 < number_in tile_order face
unfolding tile_order
in_order face small = ltb-true 0 (number_in tile_order face) (passes_face (λ f. ltb 0 (number_in tile_order f)) face refl small)

-- The default answer is then a pass.
pass_or_drawn : (rules : Rules) (seat : ℕ) (view : SeatView) (turn : WindowTurn) → lawful_faces rules seat view ≡ [] → ((tile : ℕ) → view.drawn ≡ Some tile → tile < 37) →
    broken_by rules seat view (default_in rules seat view turn) ≡ None → broken_by rules seat view (Pass None) ≡ None
unfolding lawful_faces
pass_or_drawn rules seat view (Drew who) none small h = own (who == seat) view.drawn refl h
  where
    own : (b : Bool) (o : Option ℕ) → view.drawn ≡ o → broken_by rules seat view (cond b (discard_or_pass seat view o) (Pass None)) ≡ None → broken_by rules seat view (Pass None) ≡ None
    own true None e k = k
    own true (Some tile) e k = absurd (not_none (passes rules seat view) tile tile_order (in_order tile (small tile e)) (ap is_none k) none)
    own false o e k = k
pass_or_drawn rules seat view (Reached who) none small h = own (who == seat) h
  where
    own : (b : Bool) → broken_by rules seat view (cond b (discard_or_pass seat view (last_face (lawful_faces rules seat view))) (Pass None)) ≡ None → broken_by rules seat view (Pass None) ≡ None
    own true k = ap (λ (xs : List ℕ). broken_by rules seat view (discard_or_pass seat view (last_face xs))) (sym none) ∙ k
    own false k = k
pass_or_drawn rules seat view (Called who banned) none small h = own (who == seat) h
  where
    own : (b : Bool) → broken_by rules seat view (cond b (discard_or_pass seat view (last_face (lawful_faces rules seat view))) (Pass None)) ≡ None → broken_by rules seat view (Pass None) ≡ None
    own true k = ap (λ (xs : List ℕ). broken_by rules seat view (discard_or_pass seat view (last_face xs))) (sym none) ∙ k
    own false k = k
pass_or_drawn rules seat view (Discarded who tile) none small h = h
pass_or_drawn rules seat view (Added who tile) none small h = h
pass_or_drawn rules seat view Nobodys none small h = h

-- The law.
pub choice_is_lawful : ChoiceIsLawful
unfolding default_by view_of
choice_is_lawful rules ds seat answer small fit can choice = by_found (first_lawful rules seat (view_of ds seat) (wanted seat (view_of ds seat) choice.best)) refl
  where
    by_found : (o : Option Answer) → first_lawful rules seat (view_of ds seat) (wanted seat (view_of ds seat) choice.best) ≡ o → IsLawful rules ds seat answer
    by_found (Some found) e =
        let is : answer ≡ found = choice.chosen_is ∙ ap (λ o. unwrap_or o (Pass None)) e in
        record {
          form = ap is_in_form is ∙ found_form rules seat (view_of ds seat) (wanted seat (view_of ds seat) choice.best) found e (wanted_form seat (view_of ds seat) choice.best);
          clean = ap (broken_by rules seat (view_of ds seat)) is ∙ found_clean rules seat (view_of ds seat) (wanted seat (view_of ds seat) choice.best) found e;
        }
    by_found None e =
        let is : answer ≡ Pass None = choice.chosen_is ∙ ap (λ o. unwrap_or o (Pass None)) e in
        record {
          form = ap is_in_form is;
          clean = ap (broken_by rules seat (view_of ds seat)) is ∙ pass_or_drawn rules seat (view_of ds seat) (view_of ds seat).turn
              (none_best rules seat (view_of ds seat) choice.best e choice.best_is) (λ tile. drawn_small rules.red ds seat tile small fit)
              (fitting_default_is_lawful rules ds seat small fit can).clean;
        }
