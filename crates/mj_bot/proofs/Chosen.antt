-- The first lawful one of the answers that are wanted.
use Rattle.std.proofs.Common.{◌≡◌, ℕ, Bool, true, false, cond, List, [], ◌∷◌, ◌++◌, Option, Some, None, refl, sym, ap, ◌∙◌}
use Rattle.std.specs.Prelude.{is_none, map, option_to_list, unwrap_or}
use Rattle.mj_deeds.specs.declared.answer.Answer.{Answer}
use Rattle.mj_deeds.specs.declared.answer.Answer.TheVariants.{Pass, Reach}
use Rattle.mj_wall.specs.declared.setting.Rules.{Rules}
use Rattle.mj_rules.specs.Broken.{broken_by}
use Rattle.mj_rules.specs.Default.{discard_of}
use Rattle.mj_rules.specs.View.{SeatView}
use Rattle.mj_bot.specs.Choice.{win_in, pon_in, first_lawful, chosen}

-- one list after another

pub found_before : (rules : Rules) (seat : ℕ) (view : SeatView) (xs ys : List Answer) (answer : Answer) → first_lawful rules seat view xs ≡ Some
    answer → first_lawful rules seat view (xs ++ ys) ≡ Some answer
found_before rules seat view [] ys answer h = cc
found_before rules seat view (x ∷ xs) ys answer h = by_test (is_none (broken_by rules seat view x)) h (found_before rules seat view xs ys answer)
  where
    by_test : (b : Bool) → cond b (Some x) (first_lawful rules seat view xs) ≡ Some answer → (first_lawful rules seat view xs ≡ Some answer → first_lawful rules seat view (xs ++ ys) ≡ Some answer) →
        cond b (Some x) (first_lawful rules seat view (xs ++ ys)) ≡ Some answer
    by_test true k f = k
    by_test false k f = f k

pub none_before : (rules : Rules) (seat : ℕ) (view : SeatView) (xs ys : List Answer) → first_lawful rules seat view xs ≡ None →
    first_lawful rules seat view (xs ++ ys) ≡ first_lawful rules seat view ys
none_before rules seat view [] ys h = refl
none_before rules seat view (x ∷ xs) ys h = by_test (is_none (broken_by rules seat view x)) h (none_before rules seat view xs ys)
  where
    by_test : (b : Bool) → cond b (Some x) (first_lawful rules seat view xs) ≡ None → (first_lawful rules seat view xs ≡ None →
        first_lawful rules seat view (xs ++ ys) ≡ first_lawful rules seat view ys) →
        cond b (Some x) (first_lawful rules seat view (xs ++ ys)) ≡ first_lawful rules seat view ys
    by_test true k f = cc
    by_test false k f = f k

-- the player's lines

-- A win.
pub win_chosen : (rules : Rules) (seat : ℕ) (view : SeatView) (best : Option ℕ) (win : Answer) →
    first_lawful rules seat view (win_in seat view view.turn) ≡ Some win → win ≡ chosen rules seat view best
win_chosen rules seat view best win h =
    sym (ap (λ o. unwrap_or o (Pass None)) (found_before rules seat view (win_in seat view view.turn)
    (Reach seat ∷ (map (discard_of seat view) (option_to_list best) ++ pon_in seat view view.turn)) win h))

-- A reach.
pub reach_chosen : (rules : Rules) (seat : ℕ) (view : SeatView) (best : Option ℕ) (reach : Answer) → first_lawful rules seat view (win_in seat view view.turn) ≡ None →
    first_lawful rules seat view (Reach seat ∷ []) ≡ Some reach → reach ≡ chosen rules seat view best
reach_chosen rules seat view best reach none h =
    sym (ap (λ o. unwrap_or o (Pass None)) (none_before rules seat view (win_in seat view view.turn)
    (Reach seat ∷ (map (discard_of seat view) (option_to_list best) ++ pon_in seat view view.turn)) none
    ∙ found_before rules seat view (Reach seat ∷ []) (map (discard_of seat view) (option_to_list best) ++ pon_in seat view view.turn) reach h))

-- The lines after them.
later : (rules : Rules) (seat : ℕ) (view : SeatView) (best : Option ℕ) → first_lawful rules seat view (win_in seat view view.turn) ≡ None → first_lawful rules seat view (Reach seat ∷ []) ≡ None →
    chosen rules seat view best ≡ unwrap_or (first_lawful rules seat view (map (discard_of seat view) (option_to_list best) ++ pon_in seat view view.turn)) (Pass None)
later rules seat view best no_win no_reach =
    ap (λ o. unwrap_or o (Pass None)) (none_before rules seat view (win_in seat view view.turn) (Reach seat ∷ (map (discard_of seat view) (option_to_list best) ++ pon_in seat view view.turn)) no_win
    ∙ none_before rules seat view (Reach seat ∷ []) (map (discard_of seat view) (option_to_list best) ++ pon_in seat view view.turn) no_reach)

-- The best discard.
pub discard_chosen : (rules : Rules) (seat face : ℕ) (view : SeatView) (best : Option ℕ) (discard : Answer) →
    first_lawful rules seat view (win_in seat view view.turn) ≡ None → first_lawful rules seat view (Reach seat ∷ []) ≡ None →
    best ≡ Some face → is_none (broken_by rules seat view (discard_of seat view face)) ≡ true → discard ≡ discard_of seat view face → discard ≡ chosen rules seat view best
discard_chosen rules seat face view best discard no_win no_reach some lawful is =
    is
    ∙ sym (later rules seat view best no_win no_reach
    ∙ ap (λ o. unwrap_or (first_lawful rules seat view (map (discard_of seat view) (option_to_list o) ++ pon_in seat view view.turn)) (Pass None)) some
    ∙ ap (λ b. unwrap_or (cond b (Some (discard_of seat view face)) (first_lawful rules seat view (pon_in seat view view.turn))) (Pass None)) lawful)

-- A pon, or a pass.
pub pon_chosen : (rules : Rules) (seat : ℕ) (view : SeatView) (best : Option ℕ) (pon : Answer) →
    first_lawful rules seat view (win_in seat view view.turn) ≡ None → first_lawful rules seat view (Reach seat ∷ []) ≡ None → best ≡ None →
    first_lawful rules seat view (pon_in seat view view.turn) ≡ Some pon → pon ≡ chosen rules seat view best
pon_chosen rules seat view best pon no_win no_reach none h =
    sym (later rules seat view best no_win no_reach
    ∙ ap (λ o. unwrap_or (first_lawful rules seat view (map (discard_of seat view) (option_to_list o) ++ pon_in seat view view.turn)) (Pass None)) none
    ∙ ap (λ o. unwrap_or o (Pass None)) h)

pub pass_chosen : (rules : Rules) (seat : ℕ) (view : SeatView) (best : Option ℕ) → first_lawful rules seat view (win_in seat view view.turn) ≡ None →
    first_lawful rules seat view (Reach seat ∷ []) ≡ None → best ≡ None →
    first_lawful rules seat view (pon_in seat view view.turn) ≡ None → Pass None ≡ chosen rules seat view best
pass_chosen rules seat view best no_win no_reach none h =
    sym (later rules seat view best no_win no_reach
    ∙ ap (λ o. unwrap_or (first_lawful rules seat view (map (discard_of seat view) (option_to_list o) ++ pon_in seat view view.turn)) (Pass None)) none
    ∙ ap (λ o. unwrap_or o (Pass None)) h)
