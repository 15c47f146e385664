-- What is seen at the end of a hand without a winner.
use Rattle.std.proofs.Common.{◌≡◌, ℕ, Bool, true, false, List, [], ◌∷◌, refl, ap, sym, ◌∙◌}
use Rattle.std.specs.Prelude.{Option, Some, None, map, ℤ}
use Rattle.std.specs.List.{slice_index_or}
use Rattle.mj_pay.specs.Payments.{draw_changes}
use Rattle.mj_deeds.specs.declared.four.Four.{Four}
use Rattle.mj_deeds.specs.declared.reason.Reason.{Reason}
use Rattle.mj_deeds.specs.declared.deed.Deed.{Deed}
use Rattle.mj_deeds.specs.declared.deed.Deed.TheVariants.{Draw, DrawnHand}
use Rattle.mj_deeds.specs.Facts.{newest, concealed_tiles}
use Rattle.mj_deeds.specs.Fits.{all_fit, is_in_hand}
use Rattle.mj_deeds.specs.Four.{for_each_seat}
use Rattle.mj_deeds.specs.Hand.{hand}
use Rattle.mj_deeds.specs.Points.{points}
use Rattle.mj_deeds.specs.Shown.{Shown}
use Rattle.mj_deeds.proofs.Fitted.{hand_begun}
use Rattle.mj_table.proofs.InHand.{newest_in_hand}
use Rattle.mj_rules.specs.Draws.{is_draw_of, is_hand_shown, is_shown, shown_where, hand_at_draw, hands_at_draw, ready_by, draw_shown, drawn_hand}
use Rattle.mj_rules.specs.Wins.{points_with}
use Rattle.mj_machine.specs.Inner.Steps.{are_shown}

-- The newest deed is a draw of a seat exactly where that of its hand is.
pub drawn_in_hand : (red : Bool) (ds : List Deed) (seat : ℕ) → all_fit red [] ds ≡ true → is_draw_of seat (newest ds) ≡ is_draw_of seat (newest (hand ds))
drawn_in_hand red ds seat fit = by_hand (hand ds) refl
  where
    no_hand : (o : Option Deed) → newest ds ≡ o → hand ds ≡ [] → is_draw_of seat o ≡ false
    no_hand None k e = refl
    no_hand (Some (Draw who tile replacement)) k e = absurd (hand_begun red ds fit (ap is_in_hand k) e)
    no_hand (Some other) k e = refl

    by_hand : (hs : List Deed) → hand ds ≡ hs → is_draw_of seat (newest ds) ≡ is_draw_of seat (newest (hand ds))
    by_hand [] e = no_hand (newest ds) refl e ∙ sym (ap (λ (hs : List Deed). is_draw_of seat (newest hs)) e)
    by_hand (x ∷ xs) e = ap (is_draw_of seat) (sym (newest_in_hand ds x xs e)) ∙ sym (ap (λ (hs : List Deed). is_draw_of seat (newest hs)) e)

-- A hand is shown where it should be.
shown-where : (b : Bool) (tiles : List ℕ) → b ≡ is_shown (shown_where b tiles)
shown-where true tiles = refl
shown-where false tiles = refl

-- What is said of the end of the hand is what its deeds give.
pub drawn : (ds : List Deed) (reason : Reason) (shown ready : List Bool) (hands : Four Shown) (deltas held said : List ℤ) →
    shown ≡ map (is_hand_shown reason (hand ds)) (0 ∷ 1 ∷ 2 ∷ 3 ∷ []) →
    hands ≡ for_each_seat (λ seat. shown_where (slice_index_or shown seat false) (concealed_tiles (hand ds) seat)) →
    ((four : Four Shown) → shown ≡ are_shown four → ready ≡ ready_by reason four) →
    deltas ≡ draw_changes ready → held ≡ points ds → said ≡ points_with held deltas →
    DrawnHand reason hands ready deltas said ≡ drawn_hand ds reason
unfolding draw_shown hand_at_draw
drawn ds reason shown ready hands deltas held said is seen by pay before after =
    λ i. DrawnHand reason (four i) (who i) (gain i) (new i)
  where
    four : hands ≡ hands_at_draw reason (hand ds)
    four = seen ∙ ap (λ (bs : List Bool). for_each_seat (λ seat. shown_where (slice_index_or bs seat false) (concealed_tiles (hand ds) seat))) is

    each : (seat : ℕ) → is_hand_shown reason (hand ds) seat ≡ is_shown (hand_at_draw reason (hand ds) seat)
    each seat = shown-where (is_hand_shown reason (hand ds) seat) (concealed_tiles (hand ds) seat)

    all : map (is_hand_shown reason (hand ds)) (0 ∷ 1 ∷ 2 ∷ 3 ∷ []) ≡ are_shown (hands_at_draw reason (hand ds))
    all = λ i. each 0 i ∷ each 1 i ∷ each 2 i ∷ each 3 i ∷ []

    who : ready ≡ ready_by reason (hands_at_draw reason (hand ds))
    who = by (hands_at_draw reason (hand ds)) (is ∙ all)

    gain : deltas ≡ draw_changes (ready_by reason (hands_at_draw reason (hand ds)))
    gain = pay ∙ ap draw_changes who

    new : said ≡ points_with (points ds) (draw_changes (ready_by reason (hands_at_draw reason (hand ds))))
    new = after ∙ (λ i. points_with (before i) (gain i))
