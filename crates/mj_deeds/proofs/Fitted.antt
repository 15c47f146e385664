-- What is true of deeds each of which fits after those before it.
use Rattle.std.proofs.Common.{◌≡◌, ℕ, zero, suc, ◌+◌, ◌<◌, ◌≤◌, ◌⊎◌, inl, inr, List, [], ◌∷◌, ◌++◌, length, cond, leb}
use Rattle.std.proofs.Common.{true, false, Bool, not, refl, sym, ap, ◌∙◌, subst, arith, append-nil, append_assoc}
use Rattle.std.specs.Prelude.{Option, Some, None, flat_map, nat_lt}
use Rattle.std.specs.List.{list_all}
use Rattle.std.proofs.lemmas.Bool.{and_parts, and_from, ltb-true, leb-true, cases_lt, ne_eqb}
use Rattle.std.proofs.lemmas.List.{length-append, length-map}
use Rattle.std.proofs.lemmas.List.Concat.{flat_map-append}
use Rattle.std.proofs.lemmas.List.Folds.{list_all-append}
use Rattle.std.proofs.lemmas.Grind.{common_steps}
use Rattle.mj_tiles.specs.Counts.{number_of, has_no_fifth}
use Rattle.mj_tiles.proofs.EachKind.{each_kind}
use Rattle.mj_tiles.specs.declared.meld.Meld.{Meld}
use Rattle.mj_deeds.specs.declared.deed.Deed.{Deed}
use Rattle.mj_deeds.specs.declared.deed.Deed.TheVariants.{StartGame, StartHand, Draw, Discard, Chi, Pon, OpenKan, ClosedKan, AddedKan, Dora, Reach, ReachAccepted, Win, DrawnHand, EndHand, EndGame}
use Rattle.mj_deeds.specs.Facts.{newest, of_seat, makes_by, seat_melds, is_kan, kans}
use Rattle.mj_deeds.specs.Fits.{Ground, ground_of, fits, fits_in, fits_behind, all_fit, is_in_place, is_in_hand, is_after_start, is_after_dora}
use Rattle.mj_deeds.specs.Fits.{is_after_kan, is_after_result, is_after_hand, taken_from, is_discard_of, has_seats, has_held, has_triplet}
use Rattle.mj_deeds.specs.Fits.{has_tiles, brought_by, keeps_kinds, has_room, has_room_for, has_live, is_first_riichi, has_points}
use Rattle.mj_deeds.specs.Points.{points}
use Rattle.mj_deeds.specs.Hand.{is_hand_start, hand, before_in}
use Rattle.mj_deeds.proofs.Newest.{newest_more}
use Rattle.mj_deeds.proofs.HandSteps.{behind, hand_more, hand_with, hand_before}

-- One deed further.
pub all_fit-append : (red : Bool) (before ds : List Deed) (d : Deed) → all_fit red before ds ≡ true → fits red (before ++ ds) d ≡ true → all_fit red before (ds ++ d ∷ []) ≡ true
all_fit-append red before [] d h k = and_from (fits red before d) true (subst (λ (xs : List Deed). fits red xs d ≡ true) (append-nil before) k) refl
all_fit-append red before (x ∷ ds) d h k =
    let parts = and_parts (fits red before x) (all_fit red (before ++ x ∷ []) ds) h in
    and_from (fits red before x) _ parts.0
    (all_fit-append red (before ++ x ∷ []) ds d parts.1 (subst (λ (xs : List Deed). fits red xs d ≡ true) (sym (append_assoc before (x ∷ []) ds)) k))

-- What each deed that fits keeps is true of all.
pub kept : (P : List Deed → Type 0) (red : Bool) (before ds : List Deed) → ((xs : List Deed) (d : Deed) → P xs → fits red xs d ≡ true → P (xs ++ d ∷ [])) →
    P before → all_fit red before ds ≡ true → P (before ++ ds)
kept P red before [] step h fit = subst P (sym (append-nil before)) h
kept P red before (d ∷ ds) step h fit =
    let parts = and_parts (fits red before d) (all_fit red (before ++ d ∷ []) ds) fit in
    subst P (append_assoc before (d ∷ []) ds) (kept P red (before ++ d ∷ []) ds step (step before d h parts.0) parts.1)

-- The parts of a deed that fits in its hand.
pub record Parts (red : Bool) (ds : List Deed) (d : Deed) : Type 0 where
  pub seats : has_seats d ≡ true
  pub held : has_held ds d ≡ true
  pub triplet : has_triplet ds d ≡ true
  pub tiles : has_tiles red d ≡ true
  pub kinds : keeps_kinds ds d ≡ true
  pub room : has_room ds d ≡ true
  pub live : has_live ds d ≡ true
  pub once : is_first_riichi ds d ≡ true

parts_in : (red : Bool) (ds : List Deed) (d : Deed) → fits_in red ds d ≡ true → Parts red ds d
unfolding fits_in
parts_in red ds d h =
    let p7 = and_parts _ _ h in
    let p6 = and_parts _ _ p7.0 in
    let p5 = and_parts _ _ p6.0 in
    let p4 = and_parts _ _ p5.0 in
    let p3 = and_parts _ _ p4.0 in
    let p2 = and_parts _ _ p3.0 in
    let p1 = and_parts _ _ p2.0 in
    record { seats = p1.0; held = p1.1; triplet = p2.1; tiles = p3.1; kinds = p4.1; room = p5.1; live = p6.1; once = p7.1 }

-- Of a deed that fits: its place, its parts in its hand, and its points.
pub record Placed (red : Bool) (ds : List Deed) (d : Deed) : Type 0 where
  pub place : is_in_place (ground_of ds) d ≡ true
  pub inside : Parts red (before_in (hand ds) d) d
  pub pointed : has_points (points ds) d ≡ true

pub parts_of : (red : Bool) (ds : List Deed) (d : Deed) → fits red ds d ≡ true → Placed red ds d
unfolding fits_behind ground_of
parts_of red ds d h =
    let p = and_parts _ _ h in
    let q = and_parts _ _ p.0 in
    record { place = q.0; inside = parts_in red (before_in (hand ds) d) d q.1; pointed = p.1 }

-- What each deed that fits in its hand keeps is true of the newest hand.
pub kept_in_hand : (P : List Deed → Type 0) (red : Bool) (ds : List Deed) → ((h : List Deed) (d : Deed) → P h → Parts red h d → P (h ++ d ∷ [])) →
    P [] → all_fit red [] ds ≡ true → P (hand ds)
unfolding hand
kept_in_hand P red ds step none fit = kept (λ xs. P (hand xs)) red [] ds more none fit
  where
    more : (xs : List Deed) (d : Deed) → P (hand xs) → fits red xs d ≡ true → P (hand (xs ++ d ∷ []))
    more xs d h f = hand_with P xs d (λ _ _. none) (step (before_in (hand xs) d) d (hand_before P (hand xs) d none h) (parts_of red xs d f).inside)

-- the tiles of the game

-- Each tile that is named in a hand of deeds that fit is one that the game has.
pub hand_real : (red : Bool) (ds : List Deed) → all_fit red [] ds ≡ true → list_all (has_tiles red) (hand ds) ≡ true
hand_real red ds fit = kept_in_hand (λ xs. list_all (has_tiles red) xs ≡ true) red ds step refl fit
  where
    step : (xs : List Deed) (d : Deed) → list_all (has_tiles red) xs ≡ true → Parts red xs d → list_all (has_tiles red) (xs ++ d ∷ []) ≡ true
    step xs d h p = list_all-append (has_tiles red) xs (d ∷ []) ∙ and_from (list_all (has_tiles red) xs) _ h (and_from (has_tiles red d) true p.tiles refl)

-- no fifth kan

kans_more : (ds : List Deed) (d : Deed) → kans (ds ++ d ∷ []) ≡ kans ds + cond (is_kan d) 1 0
kans_more ds d = grind (arith, common_steps)

live_kan : (ds : List Deed) (d : Deed) → has_live ds d ≡ true → is_kan d ≡ true → kans ds < 4
live_kan ds (OpenKan who target tile a b c) h k = ltb-true (kans ds) 4 (and_parts (nat_lt (kans ds) 4) _ h).0
live_kan ds (ClosedKan who a b c d) h k = ltb-true (kans ds) 4 (and_parts (nat_lt (kans ds) 4) _ h).0
live_kan ds (AddedKan who tile a b c) h k = ltb-true (kans ds) 4 (and_parts (nat_lt (kans ds) 4) _ h).0
live_kan ds other h k = cc

-- Deeds that fit have at most four kans.
pub four_kans : (red : Bool) (ds : List Deed) → all_fit red [] ds ≡ true → kans (hand ds) ≤ 4
four_kans red ds fit = kept_in_hand (λ xs. kans xs ≤ 4) red ds step (omega arith) fit
  where
    one : (n m : ℕ) (b : Bool) → m ≡ n + cond b 1 0 → n ≤ 4 → (b ≡ true → n < 4) → m ≤ 4
    one n m true e h k = omega (arith, e, k refl)
    one n m false e h k = omega (arith, e, h)

    step : (xs : List Deed) (d : Deed) → kans xs ≤ 4 → Parts red xs d → kans (xs ++ d ∷ []) ≤ 4
    step xs d h p = one (kans xs) (kans (xs ++ d ∷ [])) (is_kan d) (kans_more xs d) h (live_kan xs d p.live)

-- no fifth meld

melds_more : (ds : List Deed) (d : Deed) (seat : ℕ) → length (seat_melds (ds ++ d ∷ []) seat) ≡ length (seat_melds ds seat) + length (makes_by seat d)
melds_more ds d seat =
    length-map (flat_map (makes_by seat) (ds ++ d ∷ [])) _
    ∙ ap length (flat_map-append (makes_by seat) ds (d ∷ []))
    ∙ length-append (flat_map (makes_by seat) ds) (makes_by seat d ++ [])
    ∙ ap (λ (ms : List Meld). length (flat_map (makes_by seat) ds) + length ms) (append-nil (makes_by seat d))
    ∙ ap (λ n. n + length (makes_by seat d)) (sym (length-map (flat_map (makes_by seat) ds) _))

-- A seat above 3 makes no meld.
none_else : (seat who : ℕ) (ms : List Meld) → nat_lt who 4 ≡ true → 4 ≤ seat → of_seat seat who ms ≡ []
none_else seat who ms h k =
    let low : who < 4 = ltb-true who 4 h in
    ap (λ b. cond b ms []) (ne_eqb who seat (λ e. omega (arith, low, k, e)))

no_meld : (seat : ℕ) (d : Deed) → has_seats d ≡ true → 4 ≤ seat → makes_by seat d ≡ []
no_meld seat (Chi who target tile a b) h k = none_else seat who _ (and_parts (nat_lt who 4) _ h).0 k
no_meld seat (Pon who target tile a b) h k = none_else seat who _ (and_parts (nat_lt who 4) _ h).0 k
no_meld seat (OpenKan who target tile a b c) h k = none_else seat who _ (and_parts (nat_lt who 4) _ h).0 k
no_meld seat (ClosedKan who a b c d) h k = none_else seat who _ (and_parts (nat_lt who 4) _ h).0 k
no_meld seat other h k = refl

-- Of the four seats.
pub of_four : (p : ℕ → Bool) (seat : ℕ) → seat < 4 → list_all p (0 ∷ 1 ∷ 2 ∷ 3 ∷ []) ≡ true → p seat ≡ true
of_four p zero h all = (and_parts (p 0) _ all).0
of_four p (suc zero) h all = (and_parts (p 1) _ (and_parts (p 0) _ all).1).0
of_four p (suc (suc zero)) h all = (and_parts (p 2) _ (and_parts (p 1) _ (and_parts (p 0) _ all).1).1).0
of_four p (suc (suc (suc zero))) h all = (and_parts (p 3) _ (and_parts (p 2) _ (and_parts (p 1) _ (and_parts (p 0) _ all).1).1).1).0
of_four p (suc (suc (suc (suc n)))) h all = absurd (too_many n h)
  where
    too_many : (n : ℕ) → suc (suc (suc (suc n))) < 4 → ⊥
    too_many n h = omega arith

room_at : (ds : List Deed) (d : Deed) (seat : ℕ) → has_room ds d ≡ true → seat < 4 → length (seat_melds ds seat) + length (makes_by seat d) ≤ 4
room_at ds d seat h low = leb-true _ 4 (of_four (has_room_for ds d) seat low h)

-- A seat of deeds that fit has at most four melds.
pub four_melds : (red : Bool) (ds : List Deed) (seat : ℕ) → all_fit red [] ds ≡ true → length (seat_melds (hand ds) seat) ≤ 4
four_melds red ds seat fit = kept_in_hand (λ xs. length (seat_melds xs seat) ≤ 4) red ds step (omega arith) fit
  where
    sum : (n m k : ℕ) → n ≡ m + k → m + k ≤ 4 → n ≤ 4
    sum n m k e h = omega (arith, e, h)

    none : (n m k : ℕ) → n ≡ m + k → k ≡ 0 → m ≤ 4 → n ≤ 4
    none n m k e f h = omega (arith, e, f, h)

    by_seat : (xs : List Deed) (d : Deed) → length (seat_melds xs seat) ≤ 4 → Parts red xs d → (seat < 4) ⊎ (4 ≤ seat) → length (seat_melds (xs ++ d ∷ []) seat) ≤ 4
    by_seat xs d h p (inl low) = sum _ (length (seat_melds xs seat)) (length (makes_by seat d)) (melds_more xs d seat) (room_at xs d seat p.room low)
    by_seat xs d h p (inr high) = none _ (length (seat_melds xs seat)) (length (makes_by seat d)) (melds_more xs d seat) (ap length (no_meld seat d p.seats high)) h

    step : (xs : List Deed) (d : Deed) → length (seat_melds xs seat) ≤ 4 → Parts red xs d → length (seat_melds (xs ++ d ∷ []) seat) ≤ 4
    step xs d h p = by_seat xs d h p (cases_lt seat 4)

-- no fifth tile of a kind

kind_at : (tiles : List ℕ) (kind : ℕ) → kind < 34 → has_no_fifth tiles ≡ true → number_of tiles kind ≤ 4
unfolding has_no_fifth
kind_at tiles kind small h = leb-true (number_of tiles kind) 4 (each_kind (λ k. leb (number_of tiles k) 4) kind small h)

-- Deeds that fit bring in no kind a fifth time.
pub four_of_kind : (red : Bool) (ds : List Deed) (kind : ℕ) → kind < 34 → all_fit red [] ds ≡ true → number_of (flat_map brought_by (hand ds)) kind ≤ 4
four_of_kind red ds kind small fit =
    kept_in_hand (λ xs. number_of (flat_map brought_by xs) kind ≤ 4) red ds (λ xs d h p. kind_at (flat_map brought_by (xs ++ d ∷ [])) kind small p.kinds) (omega arith) fit

-- after a start of the game

-- The newest deed stands after the start of the game.
abbrev pub is_past_start : Option Deed → Bool
is_past_start None = false
is_past_start (Some (StartGame names)) = false
is_past_start (Some other) = true

pub in_hand_past : (newest : Option Deed) → is_in_hand newest ≡ true → is_past_start newest ≡ true
in_hand_past None h = cc
in_hand_past (Some (StartGame names)) h = cc
in_hand_past (Some other) h = refl

result_past : (newest : Option Deed) → is_after_result newest ≡ true → is_past_start newest ≡ true
result_past None h = cc
result_past (Some (StartGame names)) h = cc
result_past (Some other) h = refl

pub after_past : (newest : Option Deed) → is_after_hand newest ≡ true → is_past_start newest ≡ true
after_past None h = cc
after_past (Some (StartGame names)) h = cc
after_past (Some other) h = refl

start_not_past : (newest : Option Deed) → is_after_start newest ≡ true → is_past_start newest ≡ false
start_not_past None h = cc
start_not_past (Some (StartGame names)) h = refl
start_not_past (Some other) h = cc

kan_in_hand : (newest : Option Deed) → is_after_kan newest ≡ true → is_in_hand newest ≡ true
kan_in_hand None h = cc
kan_in_hand (Some (OpenKan who target tile a b c)) h = refl
kan_in_hand (Some (ClosedKan who a b c d)) h = refl
kan_in_hand (Some (AddedKan who tile a b c)) h = refl
kan_in_hand (Some other) h = cc

taken_in_hand : (hand : List Deed) (newest : Option Deed) (target called : ℕ) → is_discard_of (taken_from hand newest) target called ≡ true → is_in_hand newest ≡ true
taken_in_hand hand None target called h = cc
taken_in_hand hand (Some (Discard who tile drawn)) target called h = refl
taken_in_hand hand (Some (ReachAccepted who points bid)) target called h = refl
taken_in_hand hand (Some other) target called h = cc

-- Every deed of a hand in its place, other than its start, stands after one of a hand.
pub in_hand_before : (past : Ground) (d : Deed) → is_in_place past d ≡ true → is_hand_start d ≡ false → is_in_hand (Some d) ≡ true → is_in_hand past.newest ≡ true
in_hand_before past (StartGame names) h k l = cc
in_hand_before past (StartHand round number honba deposits dealer indicator hands) h k l = cc
in_hand_before past (Draw who tile true) h k l = (and_parts (is_in_hand past.newest) (is_after_dora past.newest) h).0
in_hand_before past (Draw who tile false) h k l = (and_parts (is_in_hand past.newest) (not (is_after_dora past.newest)) h).0
in_hand_before past (Discard who tile drawn) h k l = h
in_hand_before past (Chi who target tile a b) h k l = taken_in_hand past.hand past.newest target tile h
in_hand_before past (Pon who target tile a b) h k l = taken_in_hand past.hand past.newest target tile h
in_hand_before past (OpenKan who target tile a b c) h k l = taken_in_hand past.hand past.newest target tile h
in_hand_before past (ClosedKan who a b c d) h k l = h
in_hand_before past (AddedKan who tile a b c) h k l = h
in_hand_before past (Dora tile) h k l = kan_in_hand past.newest h
in_hand_before past (Reach who) h k l = h
in_hand_before past (ReachAccepted who points bid) h k l = h
in_hand_before past (Win who target tile unders hand yaku fu han value deltas points rest) h k l = h
in_hand_before past (DrawnHand reason hands ready deltas points) h k l = h
in_hand_before past EndHand h k l = cc
in_hand_before past (EndGame points deposits) h k l = cc

-- Every deed in its place that starts neither a game nor a hand stands after a start of the game.
pub past_before : (past : Ground) (d : Deed) → is_in_place past d ≡ true → is_hand_start d ≡ false → is_past_start (Some d) ≡ true → is_past_start past.newest ≡ true
past_before past (StartGame names) h k l = cc
past_before past (StartHand round number honba deposits dealer indicator hands) h k l = cc
past_before past EndHand h k l = result_past past.newest h
past_before past (EndGame points deposits) h k l = after_past past.newest h
past_before past other h k l = in_hand_past past.newest (in_hand_before past other h refl refl)

-- A deed in its place among those of a game that starts neither a game nor a hand stands after a start of the game.
pub past_of : (ds : List Deed) (d : Deed) → is_in_place (ground_of ds) d ≡ true → is_hand_start d ≡ false → is_past_start (Some d) ≡ true → is_past_start (newest ds) ≡ true
unfolding ground_of
past_of ds d h k l = past_before (ground_of ds) d h k l

-- After the start of the game there are deeds of a hand.
pub some_hand : (red : Bool) (ds : List Deed) → all_fit red [] ds ≡ true → is_past_start (newest ds) ≡ true → hand ds ≡ [] → ⊥
some_hand red ds fit = kept (λ xs. is_past_start (newest xs) ≡ true → hand xs ≡ [] → ⊥) red [] ds step (λ h k. no h) fit
  where
    no : false ≡ true → ⊥
    no h = cc

    some : {A : Type 0} (x : A) (xs : List A) → x ∷ xs ≡ [] → ⊥
    some x xs h = cc

    empty : (b : Bool) (d : Deed) (xs : List Deed) → cond b (d ∷ []) (behind xs d) ≡ [] → (b ≡ false) × (xs ≡ [])
    empty true d xs h = absurd (some d [] h)
    empty false d [] h = (refl, refl)
    empty false d (x ∷ xs) h = absurd (some x (xs ++ d ∷ []) h)

    step : (xs : List Deed) (d : Deed) → (is_past_start (newest xs) ≡ true → hand xs ≡ [] → ⊥) → fits red xs d ≡ true → is_past_start (newest (xs ++ d ∷ [])) ≡ true → hand (xs ++ d ∷ []) ≡ [] → ⊥
    step xs d old f k e =
        let parts = empty (is_hand_start d) d (hand xs) (sym (hand_more xs d) ∙ e) in
        old (past_of xs d (parts_of red xs d f).place parts.0 (ap is_past_start (sym (newest_more xs d)) ∙ k)) parts.1

-- After a deed of a hand there are deeds of a hand.
pub hand_begun : (red : Bool) (ds : List Deed) → all_fit red [] ds ≡ true → is_in_hand (newest ds) ≡ true → hand ds ≡ [] → ⊥
hand_begun red ds fit h = some_hand red ds fit (in_hand_past (newest ds) h)
