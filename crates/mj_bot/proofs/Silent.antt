-- Where nothing but a pass is open to a seat, it passes.
use Rattle.std.proofs.Common.{◌≡◌, ℕ, ◌||◌, not, Bool, true, false, cond, eqb, [], ◌∷◌, Option, None, Some, refl, ap, ◌∙◌}
use Rattle.std.specs.Prelude.{is_none, option_to_list, map}
use Rattle.std.proofs.lemmas.Bool.{true≢false}
use Rattle.mj_tiles.specs.Faces.{kind_of}
use Rattle.mj_fu.specs.Forms.{has_value}
use Rattle.mj_deeds.specs.declared.answer.Pai.TheVariants.{Known}
use Rattle.mj_deeds.specs.declared.answer.Answer.{Answer}
use Rattle.mj_deeds.specs.declared.answer.Answer.TheVariants.{Pass, Pon, Reach, Win}
use Rattle.mj_deeds.specs.declared.rule.Rule.{Rule}
use Rattle.mj_wall.specs.declared.setting.Rules.{Rules}
use Rattle.mj_rules.specs.Broken.{is_open, is_own_act, is_pass, is_pass_or_call, is_discard, is_win, questions, broken_by}
use Rattle.mj_rules.specs.View.{SeatView, WindowTurn, Drew, Discarded, Added, Reached, Called, Nobodys}
use Rattle.mj_rules.proofs.Questions.{all_no}
use Rattle.mj_bot.specs.Choice.{win_in, pon_in, first_lawful, chosen}
use Rattle.mj_bot.specs.Inner.Turns.{is_own_turn, has_say}
use Rattle.mj_bot.proofs.Chosen.{pass_chosen}

-- No other answer is open.
shut : (rules : Rules) (seat : ℕ) (turn : WindowTurn) (accepted : Bool) (answer : Answer) → is_pass answer ≡ false → has_say seat turn ≡ false → is_open rules seat turn accepted answer ≡ false
shut rules seat (Drew who) accepted answer other h = ap (λ b. cond b (is_own_act rules accepted answer) (is_pass answer)) h ∙ other
shut rules seat (Discarded who tile) accepted answer other h = either (eqb who seat) h
  where
    either : (b : Bool) → not b ≡ false → cond b (is_pass answer) (is_pass_or_call answer) ≡ false
    either true k = other
    either false k = absurd (true≢false k)
shut rules seat (Added who tile) accepted answer other h = either (eqb who seat) h
  where
    either : (b : Bool) → not b ≡ false → cond b (is_pass answer) (is_pass answer || is_win answer) ≡ false
    either true k = other
    either false k = absurd (true≢false k)
shut rules seat (Reached who) accepted answer other h = ap (λ b. cond b (is_discard answer) (is_pass answer)) h ∙ other
shut rules seat (Called who banned) accepted answer other h = ap (λ b. cond b (is_discard answer) (is_pass answer)) h ∙ other
shut rules seat Nobodys accepted answer other h = other

refused : (rules : Rules) (seat : ℕ) (view : SeatView) (answer : Answer) → is_pass answer ≡ false → has_say seat view.turn ≡ false → first_lawful rules seat view (answer ∷ []) ≡ None
unfolding broken_by
refused rules seat view answer other h = by_rule (broken_by rules seat view answer) refl
  where
    opened : (b : Bool) → b ≡ false → not b ≡ false → ⊥
    opened true k l = true≢false k
    opened false k l = true≢false l

    by_rule : (o : Option Rule) → broken_by rules seat view answer ≡ o → cond (is_none o) (Some answer) None ≡ None
    by_rule None e = absurd (opened (is_open rules seat view.turn view.accepted answer) (shut rules seat view.turn view.accepted answer other h) (all_no (questions rules seat view answer) e).1.1.0)
    by_rule (Some rule) e = refl

no_win : (rules : Rules) (seat : ℕ) (view : SeatView) (turn : WindowTurn) → has_say seat view.turn ≡ false → first_lawful rules seat view (win_in seat view turn) ≡ None
no_win rules seat view (Drew who) h = by_tile view.drawn
  where
    by_tile : (o : Option ℕ) → first_lawful rules seat view (map (λ tile. Win seat seat (Some (Known tile))) (option_to_list o)) ≡ None
    by_tile None = refl
    by_tile (Some tile) = refused rules seat view (Win seat seat (Some (Known tile))) refl h
no_win rules seat view (Discarded who tile) h = refused rules seat view (Win seat who (Some (Known tile))) refl h
no_win rules seat view (Added who tile) h = refused rules seat view (Win seat who (Some (Known tile))) refl h
no_win rules seat view (Reached who) h = refl
no_win rules seat view (Called who banned) h = refl
no_win rules seat view Nobodys h = refl

no_pon : (rules : Rules) (seat : ℕ) (view : SeatView) (turn : WindowTurn) → has_say seat view.turn ≡ false → first_lawful rules seat view (pon_in seat view turn) ≡ None
no_pon rules seat view (Drew who) h = refl
no_pon rules seat view (Discarded who tile) h = by_value (has_value view.case (kind_of tile))
  where
    by_value : (b : Bool) → first_lawful rules seat view (cond b (Pon seat who (Known tile) (Known tile) (Known tile) ∷ []) []) ≡ None
    by_value true = refused rules seat view (Pon seat who (Known tile) (Known tile) (Known tile)) refl h
    by_value false = refl
no_pon rules seat view (Added who tile) h = refl
no_pon rules seat view (Reached who) h = refl
no_pon rules seat view (Called who banned) h = refl
no_pon rules seat view Nobodys h = refl

pub not_own : (seat : ℕ) (turn : WindowTurn) → has_say seat turn ≡ false → is_own_turn seat turn ≡ false
not_own seat (Drew who) h = h
not_own seat (Discarded who tile) h = refl
not_own seat (Added who tile) h = refl
not_own seat (Reached who) h = h
not_own seat (Called who banned) h = h
not_own seat Nobodys h = refl

pub silent : (rules : Rules) (seat : ℕ) (view : SeatView) → has_say seat view.turn ≡ false → Pass None ≡ chosen rules seat view None
silent rules seat view h =
    pass_chosen rules seat view None (no_win rules seat view view.turn h) (refused rules seat view (Reach seat) refl h) refl (no_pon rules seat view view.turn h)
