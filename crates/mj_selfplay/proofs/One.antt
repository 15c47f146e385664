-- There is one whole game.
use Rattle.std.proofs.Common.{◌≡◌, ℕ, true, List, [], ◌∷◌, ◌++◌, Option, Some, None, refl, sym, ap, ◌∙◌, subst, append-nil, append_assoc}
use Rattle.std.specs.Prelude.{option_and_then}
use Rattle.mj_deeds.specs.declared.four.Four.{Four}
use Rattle.mj_deeds.specs.declared.answer.Answer.{Answer}
use Rattle.mj_deeds.specs.declared.deed.Deed.{Deed}
use Rattle.mj_deeds.specs.declared.deed.Deed.TheVariants.{StartGame, StartHand, Draw, Discard, Chi, Pon, OpenKan, ClosedKan, AddedKan, Dora, Reach, ReachAccepted, Win, DrawnHand, EndHand, EndGame}
use Rattle.mj_deeds.specs.Facts.{newest}
use Rattle.mj_wall.specs.declared.setting.Rules.{Rules}
use Rattle.mj_window.specs.Decided.{decision_by}
use Rattle.mj_rules.specs.Outcome.{outcome, follows}
use Rattle.mj_bot.proofs.One.{choice_is_one}
use Rattle.mj_selfplay.specs.SelfGame.{AreChoices, IsChosenBehind, AllChosen, is_end}
use Rattle.mj_selfplay.specs.Laws.{WholeGameIsOne}

-- Nothing follows the end of the game.
none_behind : (rules : Rules) (walls : List (List ℕ)) (deeds : List Deed) (given : Four Answer) (last : Option Deed) → is_end last ≡ true →
    option_and_then (λ n. follows rules walls deeds n (decision_by n given)) last ≡ None
none_behind rules walls deeds given (Some (EndGame points lying)) h = refl
none_behind rules walls deeds given (Some (StartGame names)) h = cc
none_behind rules walls deeds given (Some (StartHand round number honba lying dealer indicator hands)) h = cc
none_behind rules walls deeds given (Some (Draw seat tile replacement)) h = cc
none_behind rules walls deeds given (Some (Discard seat tile drawn)) h = cc
none_behind rules walls deeds given (Some (Chi seat target tile a b)) h = cc
none_behind rules walls deeds given (Some (Pon seat target tile a b)) h = cc
none_behind rules walls deeds given (Some (OpenKan seat target tile a b c)) h = cc
none_behind rules walls deeds given (Some (ClosedKan seat a b c d)) h = cc
none_behind rules walls deeds given (Some (AddedKan seat tile a b c)) h = cc
none_behind rules walls deeds given (Some (Dora tile)) h = cc
none_behind rules walls deeds given (Some (Reach seat)) h = cc
none_behind rules walls deeds given (Some (ReachAccepted seat points bid)) h = cc
none_behind rules walls deeds given (Some (Win seat target tile unders own yaku fu han value deltas points rest)) h = cc
none_behind rules walls deeds given (Some (DrawnHand reason hands ready deltas points)) h = cc
none_behind rules walls deeds given (Some EndHand) h = cc
none_behind rules walls deeds given None h = cc

none_is_none : (deed : Deed) → None ≡ Some deed → ⊥
none_is_none deed e = cc

no_more : (rules : Rules) (walls : List (List ℕ)) (before : List Deed) (deed : Deed) → is_end (newest before) ≡ true → IsChosenBehind rules walls before deed → ⊥
unfolding outcome
no_more rules walls [] deed over behind = cc
no_more rules walls (first ∷ others) deed over behind =
    none_is_none deed (sym (none_behind rules walls (first ∷ others) behind.given (newest (first ∷ others)) over) ∙ behind.gives)

-- The four choices are the same.
same_given : (rules : Rules) (deeds : List Deed) (a b : Four Answer) → AreChoices rules deeds a → AreChoices rules deeds b → a ≡ b
same_given rules deeds a b x y = λ i. record {
  first = choice_is_one rules deeds 0 a.first b.first x.first y.first i;
  second = choice_is_one rules deeds 1 a.second b.second x.second y.second i;
  third = choice_is_one rules deeds 2 a.third b.third x.third y.third i;
  fourth = choice_is_one rules deeds 3 a.fourth b.fourth x.fourth y.fourth i;
}

-- And so is the deed that they give.
same_next : (rules : Rules) (walls : List (List ℕ)) (before : List Deed) (x y : Deed) → IsChosenBehind rules walls before x → IsChosenBehind rules walls before y → x ≡ y
same_next rules walls [] x y h k = h ∙ sym k
same_next rules walls (first ∷ others) x y h k =
    some_is x y (sym h.gives ∙ ap (outcome rules walls (first ∷ others)) (same_given rules (first ∷ others) h.given k.given h.choices k.choices) ∙ k.gives)
  where
    some_is : (a b : Deed) → Some a ≡ Some b → a ≡ b
    some_is a b e = cc

same_rest : (rules : Rules) (walls : List (List ℕ)) (before xs ys : List Deed) → AllChosen rules walls before xs → AllChosen rules walls before ys →
    is_end (newest (before ++ xs)) ≡ true → is_end (newest (before ++ ys)) ≡ true → xs ≡ ys
same_rest rules walls before [] [] h k over end = refl
same_rest rules walls before [] (y ∷ ys) h k over end = absurd (no_more rules walls before y (ap (λ (ds : List Deed). is_end (newest ds)) (sym (append-nil before)) ∙ over) k.0)
same_rest rules walls before (x ∷ xs) [] h k over end = absurd (no_more rules walls before x (ap (λ (ds : List Deed). is_end (newest ds)) (sym (append-nil before)) ∙ end) h.0)
same_rest rules walls before (x ∷ xs) (y ∷ ys) h k over end =
    let same = same_next rules walls before x y h.0 k.0 in
    let rest = same_rest rules walls (before ++ x ∷ []) xs ys h.1 (subst (λ (d : Deed). AllChosen rules walls (before ++ d ∷ []) ys) (sym same) k.1)
    (ap (λ (ds : List Deed). is_end (newest ds)) (append_assoc before (x ∷ []) xs) ∙ over)
    (ap (λ (ds : List Deed). is_end (newest ds)) (append_assoc before (x ∷ []) ys) ∙ ap (λ (d : Deed). is_end (newest (before ++ d ∷ ys))) same ∙ end) in
    (λ i. same i ∷ rest i)

-- The law.
pub whole_game_is_one : WholeGameIsOne
whole_game_is_one rules walls deeds others x y = same_rest rules walls [] deeds others x.chosen y.chosen x.over y.over
