-- A hand that is drawn ends in its turn.
use Rattle.std.proofs.Common.{◌≡◌, ℕ, ◌+◌, ◌*◌, ◌≤◌, Bool, true, false, List, ◌++◌, refl, arith}
use Rattle.std.specs.List.{list_all}
use Rattle.mj_deeds.specs.declared.reason.Reason.{Reason}
use Rattle.mj_deeds.specs.declared.deed.Deed.{Deed}
use Rattle.mj_deeds.specs.Shown.{tiles_shown}
use Rattle.mj_deeds.specs.Hand.{hand}
use Rattle.mj_deeds.specs.Facts.{newest, concealed_tiles, tiles_gained, tiles_lost}
use Rattle.mj_deeds.specs.Points.{points}
use Rattle.mj_deeds.specs.Fits.{ground_of, is_in_hand, is_face, has_tiles}
use Rattle.mj_deeds.proofs.RealTiles.{less_passes, four_pass, gained_real}
use Rattle.mj_pay.specs.Payments.{draw_changes}
use Rattle.mj_rules.specs.Draws.{is_hand_shown, shown_where, hand_at_draw, hands_at_draw, ready_by, draw_shown, drawn_hand}
use Rattle.mj_rules.proofs.Kept.{IsNext}
use Rattle.mj_rules.proofs.Winning.{Fair}
use Rattle.mj_rules.proofs.Purses.{points_right, draw_size}

-- What is shown of a hand is among the tiles that its seat was given.
shown_real : (red : Bool) (why : Reason) (hs : List Deed) (seat : ℕ) → list_all (is_face red) (tiles_gained hs seat) ≡ true → list_all (is_face red) (tiles_shown (hand_at_draw why hs seat)) ≡ true
unfolding hand_at_draw
shown_real red why hs seat h = either (is_hand_shown why hs seat) (concealed_tiles hs seat) (less_passes (is_face red) (tiles_gained hs seat) (tiles_lost hs seat) h)
  where
    either : (b : Bool) (tiles : List ℕ) → list_all (is_face red) tiles ≡ true → list_all (is_face red) (tiles_shown (shown_where b tiles)) ≡ true
    either true tiles h = h
    either false tiles h = refl

hands_real : (red : Bool) (why : Reason) (hs : List Deed) → list_all (has_tiles red) hs ≡ true →
    list_all (is_face red) (tiles_shown (hand_at_draw why hs 0) ++ tiles_shown (hand_at_draw why hs 1) ++ tiles_shown (hand_at_draw why hs 2) ++ tiles_shown (hand_at_draw why hs 3)) ≡ true
hands_real red why hs h =
    four_pass (is_face red) (tiles_shown (hand_at_draw why hs 0)) (tiles_shown (hand_at_draw why hs 1)) (tiles_shown (hand_at_draw why hs 2)) (tiles_shown (hand_at_draw why hs 3))
    (shown_real red why hs 0 (gained_real red hs 0 h)) (shown_real red why hs 1 (gained_real red hs 1 h))
    (shown_real red why hs 2 (gained_real red hs 2 h)) (shown_real red why hs 3 (gained_real red hs 3 h))

-- The hand is drawn in its turn, for whatever reason.
pub drawn_next : (red : Bool) (walls : List (List ℕ)) (ds : List Deed) (why : Reason) → Fair red walls ds → is_in_hand (newest ds) ≡ true → IsNext red walls ds (drawn_hand ds why)
unfolding draw_shown ground_of
drawn_next red walls ds why fair begun = record {
  place = begun;
  seats = refl;
  held = λ seat. refl;
  triplet = refl;
  even = refl;
  tiles = hands_real red why (hand ds) fair.real;
  live = refl;
  once = refl;
  pointed = points_right (points ds) (draw_changes ready) (drawn_hand ds why) (λ other low. refl) (λ other. sum _ _ _ (fair.rich other) (draw_size ready other));
  stage = refl;
  brings = tt;
}
  where
    ready : List Bool
    ready = ready_by why (hands_at_draw why (hand ds))

    sum : (a b d : ℕ) → a + 1000 * d ≤ 90000000 → b ≤ 3000 → a + b ≤ 100000000
    sum a b d h k = omega arith
