-- A hand starts in its turn, and a hand and a game end in theirs.
use Rattle.std.proofs.Common.{◌≡◌, ℕ, ◌+◌, ◌-◌, ◌*◌, ◌%◌, ◌<◌, ◌≤◌, ◌==◌, ◌&&◌, ◌||◌, Bool, true, false, cond, List, [], length, drop, refl, ap, sym, ◌∙◌, subst, arith}
use Rattle.std.specs.Prelude.{Some, None, nat_lt}
use Rattle.std.specs.Option.{option_map_or}
use Rattle.std.specs.List.{list_all}
use Rattle.std.proofs.lemmas.Bool.{and_from, lt-ltb, eq-eqb}
use Rattle.std.proofs.lemmas.List.Elements.{All-take, All-drop}
use Rattle.mj_deeds.specs.declared.four.Four.{Four}
use Rattle.mj_deeds.specs.declared.deed.Deed.{Deed}
use Rattle.mj_deeds.specs.declared.deed.Deed.TheVariants.{StartGame, EndHand, EndGame}
use Rattle.mj_deeds.specs.Four.{for_each_seat}
use Rattle.mj_deeds.specs.Facts.{newest}
use Rattle.mj_deeds.specs.Hand.{hand, starts}
use Rattle.mj_deeds.specs.Points.{points, deposits}
use Rattle.mj_deeds.specs.Standings.{standing}
use Rattle.mj_deeds.specs.Ends.{end_of, standing_after}
use Rattle.mj_deeds.specs.Fits.{ground_of, all_fit, is_after_start, is_after_hand, is_after_result, starts_with, is_face, has_tiles}
use Rattle.mj_deeds.proofs.Fitted.{after_past}
use Rattle.mj_deeds.proofs.HandSteps.{standing_hand}
use Rattle.mj_deeds.proofs.RealTiles.{order_passes, four_pass}
use Rattle.mj_deeds.proofs.Standings.{may_stand, some_starts}
use Rattle.mj_wall.specs.Places.{is_wall, dealt_tiles, indicator_tile}
use Rattle.mj_rounds.specs.declared.rounds.Standing.{Standing}
use Rattle.mj_rounds.specs.declared.rounds.HandEnd.{HandEnd}
use Rattle.mj_rounds.specs.Rounds.{first_standing, next_standing, is_last, stays, round_is_over, dealer_after, honba_after}
use Rattle.mj_rules.specs.Outcome.{hand_dealt, hand_start, wall_of}
use Rattle.mj_rules.proofs.Kept.{IsNext}
use Rattle.mj_rules.proofs.Purses.{points_same}
use Rattle.mj_rules.proofs.Reds.{wall_below, below_passes, place_passes}
use Rattle.mj_rules.proofs.Winning.{Fair}

-- the tiles that are dealt are of the game

hand_is_real : (red : Bool) (wall : List ℕ) (dealer seat : ℕ) → is_wall red wall ≡ true → list_all (is_face red) (hand_dealt wall dealer seat) ≡ true
hand_is_real red wall dealer seat h =
    let n = (seat + 4 - dealer) % 4 in
    let most : ℕ = cond red 37 34 in
    order_passes (is_face red) (dealt_tiles wall n)
    (below_passes most (dealt_tiles wall n) (All-take (λ t. t < most) 13 (drop (13 * n) wall) (All-drop (λ t. t < most) (13 * n) wall (wall_below red wall h))))

start_is_real : (red : Bool) (wall : List ℕ) (now : Standing) (deposits : ℕ) → is_wall red wall ≡ true → has_tiles red (hand_start wall now deposits) ≡ true
unfolding hand_start
start_is_real red wall now deposits h =
    and_from (is_face red (indicator_tile wall 0)) _ (place_passes red wall 131 h)
    (four_pass (is_face red) (hand_dealt wall now.dealer 0) (hand_dealt wall now.dealer 1) (hand_dealt wall now.dealer 2) (hand_dealt wall now.dealer 3)
    (hand_is_real red wall now.dealer 0 h) (hand_is_real red wall now.dealer 1 h) (hand_is_real red wall now.dealer 2 h) (hand_is_real red wall now.dealer 3 h))

-- the first hand

-- The first hand starts from the first wall.
pub start_next : (red : Bool) (walls : List (List ℕ)) (ds : List Deed) (names : Four (List ℕ)) → ((number : ℕ) → is_wall red (wall_of walls number) ≡ true) → length (starts ds) ≡ 0 →
    newest ds ≡ Some (StartGame names) → IsNext red walls ds (hand_start (wall_of walls 0) first_standing 0)
unfolding hand_start ground_of
start_next red walls ds names h none e = record {
  place = ap (λ o. (is_after_start o && starts_with first_standing 0 (hand_start (wall_of walls 0) first_standing 0))
      || (is_after_hand o && option_map_or (λ next. starts_with next (deposits ds) (hand_start (wall_of walls 0) first_standing 0)) (standing_after (standing ds) (hand ds)) false)) e;
  seats = refl;
  held = λ seat. refl;
  triplet = refl;
  even = refl;
  tiles = start_is_real red (wall_of walls 0) first_standing 0 (h 0);
  live = refl;
  once = refl;
  pointed = refl;
  stage = refl;
  brings = (ap (λ n. indicator_tile (wall_of walls n) 0) (sym none), ap (λ n. for_each_seat (hand_dealt (wall_of walls n) 0)) (sym none));
}

-- a later hand

-- The hand that follows one has a dealer among the seats, and the next number.
next_few : (now next : Standing) (end : HandEnd) → now.dealer ≤ 3 → next_standing now end ≡ Some next → (next.dealer < 4) × (next.hand ≡ now.hand + 1)
unfolding next_standing
next_few now next end low e = by_test (is_last now end) e
  where
    after : Standing
    after = record { round = cond (round_is_over now end) 28 now.round; dealer = dealer_after now.dealer end; honba = honba_after now.honba end; hand = now.hand + 1 }

    some_is : (a b : Standing) → Some a ≡ Some b → a ≡ b
    some_is a b h = cc

    dealer_at : (b : Bool) → cond b now.dealer ((now.dealer + 1) % 4) < 4
    dealer_at true = omega (arith, low)
    dealer_at false = omega arith

    by_test : (b : Bool) → cond b None (Some after) ≡ Some next → (next.dealer < 4) × (next.hand ≡ now.hand + 1)
    by_test true h = cc
    by_test false h = subst (λ (x : Standing). (x.dealer < 4) × (x.hand ≡ now.hand + 1)) (some_is after next h) (dealer_at (stays end), refl)

-- After deeds that fit its number is how many hands were started.
pub next_stands : (red : Bool) (ds : List Deed) → all_fit red [] ds ≡ true → (next : Standing) → is_after_hand (newest ds) ≡ true → standing_after (standing ds) (hand ds) ≡ Some next →
    (next.dealer < 4) × (next.hand ≡ length (starts ds))
next_stands red ds fit next h e =
    let p = next_few (standing ds) next (end_of (hand ds) (standing ds).dealer) (may_stand red ds fit).dealer e in
    (p.0, plus next.hand (standing ds).hand (length (starts ds)) p.1 (standing_hand ds) (some_starts red ds fit (after_past (newest ds) h)))
  where
    plus : (n m l : ℕ) → n ≡ m + 1 → m ≡ l - 1 → 0 < l → n ≡ l
    plus n m l e h k = omega (arith, e, h, k)

starts_so : (wall : List ℕ) (next : Standing) (lying : ℕ) → starts_with next lying (hand_start wall next lying) ≡ true
unfolding hand_start
starts_so wall next lying =
    let a = next.round == next.round in
    let b = next.dealer + 1 == next.dealer + 1 in
    let c = next.honba == next.honba in
    let d = lying == lying in
    let e = next.dealer == next.dealer in
    and_from (a && b && c && d) e
    (and_from (a && b && c) d (and_from (a && b) c (and_from a b (same next.round) (same (next.dealer + 1))) (same next.honba)) (same lying)) (same next.dealer)
  where
    same : (n : ℕ) → (n == n) ≡ true
    same n = eq-eqb n n refl

-- A later hand starts from the wall of its number, after the end of the hand before.
pub hand_next : (red : Bool) (walls : List (List ℕ)) (ds : List Deed) (next : Standing) → ((number : ℕ) → is_wall red (wall_of walls number) ≡ true) → newest ds ≡ Some EndHand →
    standing_after (standing ds) (hand ds) ≡ Some next → (next.dealer < 4) × (next.hand ≡ length (starts ds)) → IsNext red walls ds (hand_start (wall_of walls next.hand) next (deposits ds))
unfolding hand_start ground_of
hand_next red walls ds next h e after stands = record {
  place = ap (λ o. (is_after_start o && starts_with first_standing 0 (hand_start (wall_of walls next.hand) next (deposits ds)))
      || (is_after_hand o && option_map_or (λ now. starts_with now (deposits ds) (hand_start (wall_of walls next.hand) next (deposits ds))) (standing_after (standing ds) (hand ds)) false)) e
      ∙ ap (λ o. option_map_or (λ now. starts_with now (deposits ds) (hand_start (wall_of walls next.hand) next (deposits ds))) o false) after
      ∙ starts_so (wall_of walls next.hand) next (deposits ds);
  seats = and_from (nat_lt next.dealer 4) true (lt-ltb next.dealer 4 stands.0) refl;
  held = λ seat. refl;
  triplet = refl;
  even = refl;
  tiles = start_is_real red (wall_of walls next.hand) next (deposits ds) (h next.hand);
  live = refl;
  once = refl;
  pointed = refl;
  stage = refl;
  brings = (ap (λ n. indicator_tile (wall_of walls n) 0) stands.1, ap (λ n. for_each_seat (hand_dealt (wall_of walls n) next.dealer)) stands.1);
}

-- the ends

pub end_next : (red : Bool) (walls : List (List ℕ)) (ds : List Deed) → is_after_result (newest ds) ≡ true → IsNext red walls ds EndHand
unfolding ground_of
end_next red walls ds h = record { place = h; seats = refl; held = λ seat. refl; triplet = refl; even = refl; tiles = refl; live = refl; once = refl; pointed = refl; stage = refl; brings = tt }

-- The game ends with the points as they stand.
pub game_end_next : (red : Bool) (walls : List (List ℕ)) (ds : List Deed) → Fair red walls ds → is_after_hand (newest ds) ≡ true → IsNext red walls ds (EndGame (points ds) (deposits ds))
unfolding ground_of
game_end_next red walls ds fair over = record {
  place = over;
  seats = refl;
  held = λ seat. refl;
  triplet = refl;
  even = refl;
  tiles = refl;
  live = refl;
  once = refl;
  pointed = points_same (points ds) (EndGame (points ds) (deposits ds)) (λ seat. refl) (λ seat. within _ _ (fair.rich seat));
  stage = refl;
  brings = tt;
}
  where
    within : (a d : ℕ) → a + 1000 * d ≤ 90000000 → a ≤ 100000000
    within a d h = omega arith
