-- A win and an accepted reach come in their turn.
use Rattle.std.proofs.Common.{◌≡◌, ℕ, zero, suc, ◌+◌, ◌-◌, ◌*◌, ◌<◌, ◌≤◌, ◌==◌, ◌&&◌, not, Bool, true, false, cond, ltb, List, [], ◌∷◌, ◌++◌, length, map, refl, ap, ◌∙◌, arith}
use Rattle.std.specs.Prelude.{ℤ, pos, neg_ℤ, nat_abs, nat_lt}
use Rattle.std.specs.List.{list_all, slice_index_or, range_with_len}
use Rattle.std.proofs.lemmas.Bool.{and_from, and_parts, lt-ltb}
use Rattle.std.proofs.lemmas.List.Folds.{list_all-append}
use Rattle.mj_tiles.proofs.Faces.{either_way}
use Rattle.mj_deeds.specs.declared.bid.Bid.{Bid}
use Rattle.mj_deeds.specs.declared.bid.Bid.TheVariants as bids
use Rattle.mj_deeds.specs.declared.deed.Deed.{Deed}
use Rattle.mj_deeds.specs.declared.deed.Deed.TheVariants.{ReachAccepted, Win}
use Rattle.mj_deeds.specs.Bids.{call_of_bid}
use Rattle.mj_deeds.specs.Hand.{hand}
use Rattle.mj_deeds.specs.Facts.{newest, concealed_tiles, gains_by, tiles_gained, tiles_lost, indicators}
use Rattle.mj_deeds.specs.Points.{points, deposits, change_by}
use Rattle.mj_deeds.specs.Riichi.{is_in_riichi}
use Rattle.mj_deeds.specs.Course.{before_wins}
use Rattle.mj_deeds.specs.Standings.{standing}
use Rattle.mj_deeds.specs.Ends.{winners}
use Rattle.mj_deeds.specs.Fits.{ground_of, is_in_hand, seats_in_bid, faces_in_bid, is_face, has_tiles}
use Rattle.mj_deeds.proofs.RealTiles.{less_passes, gained_real}
use Rattle.mj_pay.specs.Payments.{deposit_changes}
use Rattle.mj_wall.specs.Places.{is_wall, under_tile}
use Rattle.mj_rounds.specs.declared.rounds.Standing.{Standing}
use Rattle.mj_rules.specs.Wins.{is_draw, case_of, own_tiles_of, unders_of, Shows, score_of_win, win_changes, for_first, points_with, win_shown, win_deed}
use Rattle.mj_rules.specs.Outcome.{wall_of, wall_now, accept}
use Rattle.mj_rules.proofs.Stages.{Waits, stage_of}
use Rattle.mj_rules.proofs.Kept.{IsNext}
use Rattle.mj_rules.proofs.Answered.{IfAny}
use Rattle.mj_rules.proofs.Reds.{place_passes}
use Rattle.mj_rules.proofs.Purses.{points_right, worth_few, win_size, deposit_size}

-- Wins give no tiles.
pub gained_before_wins : (hs : List Deed) (seat : ℕ) → tiles_gained (before_wins hs) seat ≡ tiles_gained hs seat
gained_before_wins [] seat = refl
gained_before_wins (Win who target tile unders own yaku fu han value deltas said rest ∷ hs) seat = gained_before_wins hs seat
gained_before_wins (other ∷ hs) seat = ap (λ (xs : List ℕ). gains_by seat other ++ xs) (gained_before_wins hs seat)

own_real : (red : Bool) (deeds : List Deed) (seat tile : ℕ) → list_all (is_face red) (tiles_gained deeds seat) ≡ true → list_all (is_face red) (own_tiles_of deeds seat tile) ≡ true
own_real red deeds seat tile h =
    let held = less_passes (is_face red) (tiles_gained deeds seat) (tiles_lost deeds seat) h in
    either (is_draw (newest deeds)) _ _ (less_passes (is_face red) (concealed_tiles deeds seat) (tile ∷ []) held) held
  where
    either : (b : Bool) (xs ys : List ℕ) → list_all (is_face red) xs ≡ true → list_all (is_face red) ys ≡ true → list_all (is_face red) (cond b xs ys) ≡ true
    either true xs ys h k = h
    either false xs ys h k = k

unders_real : (red : Bool) (wall : List ℕ) (deeds : List Deed) (seat : ℕ) → is_wall red wall ≡ true → list_all (is_face red) (unders_of wall deeds seat) ≡ true
unders_real red wall deeds seat h = either (is_in_riichi deeds seat) (range_with_len 0 (length (indicators deeds)))
  where
    each : (places : List ℕ) → list_all (is_face red) (map (under_tile wall) places) ≡ true
    each [] = refl
    each (place ∷ places) = and_from (is_face red (under_tile wall place)) _ (place_passes red wall (130 - 2 * place) h) (each places)

    either : (b : Bool) (places : List ℕ) → list_all (is_face red) (cond b (map (under_tile wall) places) []) ≡ true
    either true places = each places
    either false places = refl

shown_real : (red : Bool) (wall : List ℕ) (deeds : List Deed) (seat tile : ℕ) → is_wall red wall ≡ true → list_all (is_face red) (tiles_gained deeds seat) ≡ true → (is_face red tile && true) ≡ true →
    list_all (is_face red) (tile ∷ unders_of wall deeds seat ++ own_tiles_of deeds seat tile) ≡ true
shown_real red wall deeds seat tile whole h k =
    and_from (is_face red tile) _ (and_parts (is_face red tile) true k).0
    (list_all-append (is_face red) (unders_of wall deeds seat) (own_tiles_of deeds seat tile)
    ∙ and_from (list_all (is_face red) (unders_of wall deeds seat)) _ (unders_real red wall deeds seat whole) (own_real red deeds seat tile h))

-- What is known of the deeds before a win, and before a hand that is drawn.
pub record Fair (red : Bool) (walls : List (List ℕ)) (ds : List Deed) : Type 0 where
  pub whole : (number : ℕ) → is_wall red (wall_of walls number) ≡ true
  pub honba : (standing ds).honba ≤ 199
  pub rich : (seat : ℕ) → nat_abs (slice_index_or (points ds) seat (pos 0)) + 1000 * deposits ds ≤ 90000000
  pub real : list_all (has_tiles red) (hand ds) ≡ true

base_few : (now : Standing) (deeds : List Deed) (seat : ℕ) (shows : Shows) → (score_of_win now deeds seat shows).base ≤ 8000
unfolding score_of_win
base_few now deeds seat shows = worth_few _ _ _ _ _

-- What a win says that each seat gains.
abbrev pub changes_of : List Deed → ℕ → ℕ → Shows → List ℤ
changes_of ds seat target shows =
    win_changes (case_of (standing ds) (before_wins (hand ds)) seat).by_draw seat target (standing ds).dealer (score_of_win (standing ds) (before_wins (hand ds)) seat shows).base
    (for_first (hand ds) (standing ds).honba) (for_first (hand ds) (deposits ds))

first_less : (hs : List Deed) (n : ℕ) → for_first hs n ≤ n
first_less hs n = by_test (length (winners hs) == 0)
  where
    by_test : (b : Bool) → cond b n 0 ≤ n
    by_test true = omega arith
    by_test false = omega arith

pub changes_few : (ds : List Deed) (seat target : ℕ) (shows : Shows) → (standing ds).honba ≤ 199 → (other : ℕ) →
    nat_abs (slice_index_or (changes_of ds seat target shows) other (pos 0)) ≤ 144000 + 1000 * deposits ds
changes_few ds seat target shows h other =
    within _ _ _ (first_less (hand ds) (deposits ds))
    (win_size _ seat target (standing ds).dealer _ _ (for_first (hand ds) (deposits ds)) (base_few (standing ds) (before_wins (hand ds)) seat shows)
    (low _ _ (first_less (hand ds) (standing ds).honba) h) other)
  where
    low : (a b : ℕ) → a ≤ b → b ≤ 199 → a ≤ 199
    low a b h k = omega arith

    within : (n d e : ℕ) → d ≤ e → n ≤ 144000 + 1000 * d → n ≤ 144000 + 1000 * e
    within n d e h k = omega arith

-- A win comes in its turn.
pub win_next : (red : Bool) (walls : List (List ℕ)) (ds : List Deed) (seat target tile : ℕ) (rest : List ℕ) → Fair red walls ds → is_in_hand (newest ds) ≡ true → seat < 4 → target < 4 →
    list_all (λ other. nat_lt other 4) rest ≡ true → (is_face red tile && true) ≡ true → IsNext red walls ds (win_deed (wall_now walls ds) ds seat target tile rest)
unfolding win_shown ground_of
win_next red walls ds seat target tile rest fair begun small there others real = record {
  place = begun;
  seats = and_from (ltb seat 4) _ (lt-ltb seat 4 small) (and_from (ltb target 4) _ (lt-ltb target 4 there) others);
  held = λ other. refl;
  triplet = refl;
  even = refl;
  tiles = shown_real red (wall_now walls ds) (before_wins (hand ds)) seat tile (fair.whole _)
      (ap (λ (tiles : List ℕ). list_all (is_face red) tiles) (gained_before_wins (hand ds) seat) ∙ gained_real red (hand ds) seat fair.real) real;
  live = refl;
  once = refl;
  pointed = points_right (points ds) (changes_of ds seat target (shows_of ds)) (win_deed (wall_now walls ds) ds seat target tile rest) (λ other low. refl)
      (λ other. sum _ _ _ (fair.rich other) (changes_few ds seat target (shows_of ds) fair.honba other));
  stage = refl;
  brings = tt;
}
  where
    shows_of : List Deed → Shows
    shows_of ds = record { own = own_tiles_of (before_wins (hand ds)) seat tile; tile = tile; unders = unders_of (wall_now walls ds) (before_wins (hand ds)) seat }

    sum : (a b d : ℕ) → a + 1000 * d ≤ 90000000 → b ≤ 144000 + 1000 * d → a + b ≤ 100000000
    sum a b d h k = omega arith

-- an accepted reach

bid_seats : (red : Bool) (walls : List (List ℕ)) (ds : List Deed) (bid : Bid) → IfAny (IsNext red walls ds) (call_of_bid bid) → list_all (λ seat. nat_lt seat 4) (seats_in_bid bid) ≡ true
bid_seats red walls ds bids.NoBid h = refl
bid_seats red walls ds (bids.Chi seat target tile a b) h = h.seats
bid_seats red walls ds (bids.Pon seat target tile a b) h = h.seats
bid_seats red walls ds (bids.OpenKan seat target tile a b c) h = h.seats

bid_tiles : (red : Bool) (walls : List (List ℕ)) (ds : List Deed) (bid : Bid) → IfAny (IsNext red walls ds) (call_of_bid bid) → list_all (is_face red) (faces_in_bid bid) ≡ true
bid_tiles red walls ds bids.NoBid h = refl
bid_tiles red walls ds (bids.Chi seat target tile a b) h = h.tiles
bid_tiles red walls ds (bids.Pon seat target tile a b) h = h.tiles
bid_tiles red walls ds (bids.OpenKan seat target tile a b c) h = h.tiles

deposit_change : (who seat : ℕ) (said : List ℤ) (bid : Bid) → seat < 4 → change_by seat (ReachAccepted who said bid) ≡ slice_index_or (deposit_changes who) seat (pos 0)
unfolding deposit_changes
deposit_change who zero said bid low = λ i. cond (either_way who 0 i) (neg_ℤ (pos 1000)) (pos 0)
deposit_change who (suc zero) said bid low = λ i. cond (either_way who 1 i) (neg_ℤ (pos 1000)) (pos 0)
deposit_change who (suc (suc zero)) said bid low = λ i. cond (either_way who 2 i) (neg_ℤ (pos 1000)) (pos 0)
deposit_change who (suc (suc (suc zero))) said bid low = λ i. cond (either_way who 3 i) (neg_ℤ (pos 1000)) (pos 0)
deposit_change who (suc (suc (suc (suc n)))) said bid low = absurd (omega arith)

-- The reach of a seat is accepted in its turn, with the call that was bid.
pub accept_next : (red : Bool) (walls : List (List ℕ)) (ds : List Deed) (who : ℕ) (bid : Bid) → Fair red walls ds → is_in_hand (newest ds) ≡ true → who < 4 → is_in_riichi (hand ds) who ≡ false →
    stage_of ds ≡ Waits → IfAny (IsNext red walls ds) (call_of_bid bid) → IsNext red walls ds (accept ds who bid)
unfolding accept ground_of
accept_next red walls ds who bid fair begun small free waits call = record {
  place = begun;
  seats = and_from (ltb who 4) _ (lt-ltb who 4 small) (bid_seats red walls ds bid call);
  held = λ other. refl;
  triplet = refl;
  even = refl;
  tiles = bid_tiles red walls ds bid call;
  live = refl;
  once = ap not free;
  pointed = points_right (points ds) (deposit_changes who) (accept ds who bid) (λ other low. deposit_change who other (points_with (points ds) (deposit_changes who)) bid low)
      (λ other. sum _ _ (deposits ds) (fair.rich other) (deposit_size who other));
  stage = waits;
  brings = tt;
}
  where
    sum : (a b d : ℕ) → a + 1000 * d ≤ 90000000 → b ≤ 1000 → a + b ≤ 100000000
    sum a b d h k = omega arith
