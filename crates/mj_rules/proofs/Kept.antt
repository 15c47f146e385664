-- A deed that comes in its turn, out of tiles that its seat holds, fits after the deeds before it, and keeps what is true of them.
use Rattle.std.proofs.Common.{◌≡◌, ℕ, ◌+◌, ◌-◌, ◌*◌, ◌<◌, ◌≤◌, ◌&&◌, Bool, true, false, cond, eqb, ltb, List, [], ◌∷◌, ◌++◌, length, refl, ap, sym, ◌∙◌, subst, arith}
use Rattle.std.specs.Prelude.{All, count_by, sum_by}
use Rattle.std.proofs.lemmas.Bool.{and_parts, ltb-true}
use Rattle.std.proofs.lemmas.List.Sums.{sum_by_push, sum_by-append, sum_by-cons}
use Rattle.std.proofs.lemmas.List.Concat.{flat_map-append}
use Rattle.std.proofs.lemmas.List.Elements.{All-append, All-nil, All-cons}
use Rattle.mj_tiles.specs.Faces.{kind_of, number_in}
use Rattle.mj_tiles.specs.Counts.{number_of}
use Rattle.mj_deeds.specs.declared.four.Four.{Four}
use Rattle.mj_deeds.specs.declared.deed.Deed.{Deed}
use Rattle.mj_deeds.specs.declared.deed.Deed.TheVariants.{StartGame, StartHand, Draw, Discard, Chi, Pon, OpenKan, ClosedKan, AddedKan, Dora, Reach, ReachAccepted}
use Rattle.mj_deeds.specs.Four.{for_each_seat}
use Rattle.mj_deeds.specs.Facts.{gains_by, losses_by, tiles_gained, tiles_lost, makes_by, is_kan, kans, kan_seats_by, kan_seats, indicators_by, indicators, is_live_draw, live_draws}
use Rattle.mj_deeds.specs.Fits.{ground_of, is_in_place, are_held, has_seats, has_triplet, has_tiles, brought_by, has_live, is_first_riichi, has_points}
use Rattle.mj_deeds.specs.Points.{points}
use Rattle.mj_calls.specs.Shapes.{are_alike}
use Rattle.mj_deeds.proofs.Totals.{sum_more, held_room}
use Rattle.mj_wall.specs.Places.{replacement_tile}
use Rattle.mj_wall.proofs.WallKinds.{up}
use Rattle.mj_deeds.specs.Hand.{is_hand_start, hand, before_in, starts, hand_number}
use Rattle.mj_rules.specs.Outcome.{wall_of, hand_dealt}
use Rattle.mj_rules.proofs.Stages.{Stage, NoHand, stage_before, stage_after, stage_of, is_begun, owes_tile, is_replacement, at_place, brought_from, StandsAt}
use Rattle.mj_rules.proofs.Stages.{Brings, DealsWell, length-more, shown_step, taken_step, fresh_step, live_step, hands_step, brings_more}

-- The first seat of a deed is a seat.
pub first_seat : (who : ℕ) (rest : Bool) → (ltb who 4 && rest) ≡ true → who < 4
first_seat who rest h = ltb-true who 4 (and_parts (ltb who 4) rest h).0

-- the tiles of a kind that are brought in

start_kinds : (f : ℕ → ℕ) (n s y p q r p' q' r' t : ℕ) → p' ≡ p + 0 → q' ≡ q + 1 → r' ≡ r + 0 → q ≡ 0 → y ≡ f 131 → t ≡ y + s → s ≡ up f 52 →
    n ≡ brought_from f false p q r → n + t ≡ brought_from f true p' q' r'
start_kinds f n s y p q r p' q' r' t e g h z v k m o =
    let there : f 131 ≡ f (131 - 2 * q) = ap (λ x. f (131 - 2 * x)) (sym z) in
    dealt _ _ _ _ _ _ _ _ k m (brings_more f false false true false n (f (52 + p)) y (f (135 - r)) p q r p' q' r' y e g h refl (v ∙ there) refl (one y) o)
  where
    one : (y : ℕ) → y ≡ 0 + y + 0
    one y = omega arith

    dealt : (n t y s u i j k : ℕ) → t ≡ y + s → s ≡ u → n + y ≡ 0 + i + j + k → n + t ≡ u + i + j + k
    dealt n t y s u i j k e g h = omega arith

start_sum : (w : ℕ → ℕ) (i : ℕ) (a b c d : List ℕ) → sum_by w (i ∷ a ++ b ++ c ++ d) ≡ w i + (sum_by w a + sum_by w b + sum_by w c + sum_by w d)
start_sum w i a b c d =
    parts _ _ _ _ _ _ _ _ _ (sum_by-cons w i (a ++ b ++ c ++ d)) (sum_by-append w (a ++ b ++ c) d) (sum_by-append w (a ++ b) c) (sum_by-append w a b)
  where
    parts : (i a b c d x y z v : ℕ) → x ≡ i + y → y ≡ z + d → z ≡ v + c → v ≡ a + b → x ≡ i + (a + b + c + d)
    parts i a b c d x y z v e f g h = omega arith

dealt_sum : (wall : List ℕ) (dealer : ℕ) (hands : Four (List ℕ)) (kind : ℕ) → dealer < 4 → DealsWell wall → hands ≡ for_each_seat (hand_dealt wall dealer) →
    number_of hands.first kind + number_of hands.second kind + number_of hands.third kind + number_of hands.fourth kind ≡ up (at_place wall kind) 52
dealt_sum wall dealer hands kind small deals e =
    ap (λ (four : Four (List ℕ)). number_of four.first kind + number_of four.second kind + number_of four.third kind + number_of four.fourth kind) e ∙ deals.kinds dealer kind small

quiet : (f : ℕ → ℕ) (begun : Bool) (n p q r p' q' r' : ℕ) → p' ≡ p + 0 → q' ≡ q + 0 → r' ≡ r + 0 → n ≡ brought_from f begun p q r → n + 0 ≡ brought_from f begun p' q' r'
quiet f begun n p q r p' q' r' e g h k =
    brings_more f begun false false false n (f (52 + p)) (f (131 - 2 * q)) (f (135 - r)) p q r p' q' r' 0 e g h refl refl refl refl k

less_one : (r k : ℕ) → r + 1 ≡ k → k - 1 ≡ r
less_one r k e = omega arith

kinds_step : (s : Stage) (wall : List ℕ) (ds : List Deed) (d : Deed) (kind n p' q' r' : ℕ) → has_seats d ≡ true → DealsWell wall → Brings wall ds d →
    p' ≡ live_draws ds + cond (is_live_draw d) 1 0 → q' ≡ length (indicators ds) + length (indicators_by d) → r' ≡ count_by is_replacement ds + cond (is_replacement d) 1 0 →
    cond (is_begun (stage_before s d)) 0 (length (indicators ds)) ≡ 0 → count_by is_replacement ds + owes_tile (stage_before s d) ≡ kans ds →
    n ≡ brought_from (at_place wall kind) (is_begun (stage_before s d)) (live_draws ds) (length (indicators ds)) (count_by is_replacement ds) →
    n + number_of (brought_by d) kind ≡ brought_from (at_place wall kind) (is_begun (stage_after s d)) p' q' r'
kinds_step s wall ds (StartGame names) kind n p' q' r' seats deals brings e g h fresh taken k = quiet (at_place wall kind) false n _ _ _ p' q' r' e g h k
kinds_step s wall ds (StartHand round number honba deposits dealer indicator hands) kind n p' q' r' seats deals brings e g h fresh taken k =
    start_kinds (at_place wall kind) n _ (cond (eqb (kind_of indicator) kind) 1 0) _ _ _ p' q' r' _ e g h fresh
    (ap (λ t. cond (eqb (kind_of t) kind) 1 0) brings.0)
    (start_sum (λ x. cond (eqb (kind_of x) kind) 1 0) indicator hands.first hands.second hands.third hands.fourth)
    (dealt_sum wall dealer hands kind (first_seat dealer true seats) deals brings.1) k
kinds_step s wall ds (Draw who tile true) kind n p' q' r' seats deals brings e g h fresh taken k =
    brings_more (at_place wall kind) true false false true n _ _ (cond (eqb (kind_of tile) kind) 1 0) _ _ _ p' q' r' _ e g h refl refl
    (ap (λ t. cond (eqb (kind_of t) kind) 1 0) (brings ∙ ap (replacement_tile wall) (less_one _ _ taken))) refl k
kinds_step s wall ds (Draw who tile false) kind n p' q' r' seats deals brings e g h fresh taken k =
    brings_more (at_place wall kind) true true false false n (cond (eqb (kind_of tile) kind) 1 0) _ _ _ _ _ p' q' r' _ e g h
    (ap (λ t. cond (eqb (kind_of t) kind) 1 0) brings) refl refl (only _) k
  where
    only : (x : ℕ) → 0 + x ≡ x + 0 + 0
    only x = omega arith
kinds_step s wall ds (Discard who tile drawn) kind n p' q' r' seats deals brings e g h fresh taken k = quiet (at_place wall kind) true n _ _ _ p' q' r' e g h k
kinds_step s wall ds (Chi who target tile a b) kind n p' q' r' seats deals brings e g h fresh taken k = quiet (at_place wall kind) true n _ _ _ p' q' r' e g h k
kinds_step s wall ds (Pon who target tile a b) kind n p' q' r' seats deals brings e g h fresh taken k = quiet (at_place wall kind) true n _ _ _ p' q' r' e g h k
kinds_step s wall ds (OpenKan who target tile a b c) kind n p' q' r' seats deals brings e g h fresh taken k = quiet (at_place wall kind) true n _ _ _ p' q' r' e g h k
kinds_step s wall ds (ClosedKan who a b c d) kind n p' q' r' seats deals brings e g h fresh taken k = quiet (at_place wall kind) true n _ _ _ p' q' r' e g h k
kinds_step s wall ds (AddedKan who tile a b c) kind n p' q' r' seats deals brings e g h fresh taken k = quiet (at_place wall kind) true n _ _ _ p' q' r' e g h k
kinds_step s wall ds (Dora tile) kind n p' q' r' seats deals brings e g h fresh taken k =
    brings_more (at_place wall kind) true false true false n _ (cond (eqb (kind_of tile) kind) 1 0) _ _ _ _ p' q' r' _ e g h
    refl (ap (λ t. cond (eqb (kind_of t) kind) 1 0) brings) refl (only _) k
  where
    only : (x : ℕ) → 0 + x ≡ 0 + x + 0
    only x = omega arith
kinds_step s wall ds (Reach who) kind n p' q' r' seats deals brings e g h fresh taken k = quiet (at_place wall kind) true n _ _ _ p' q' r' e g h k
kinds_step s wall ds (ReachAccepted who points bid) kind n p' q' r' seats deals brings e g h fresh taken k = quiet (at_place wall kind) true n _ _ _ p' q' r' e g h k
kinds_step s wall ds other kind n p' q' r' seats deals brings e g h fresh taken k = quiet (at_place wall kind) (is_begun s) n _ _ _ p' q' r' e g h k

-- tiles that are held

-- One deed further a seat has put down no more than it was given.
pub held_step : (ds : List Deed) (d : Deed) (seat face : ℕ) → are_held (tiles_gained ds seat) (tiles_lost ds seat) (losses_by seat d) ≡ true →
    number_in (tiles_lost ds seat) face ≤ number_in (tiles_gained ds seat) face → number_in (tiles_lost (ds ++ d ∷ []) seat) face ≤ number_in (tiles_gained (ds ++ d ∷ []) seat) face
held_step ds d seat face h within =
    more _ _ _ _ _ _
    (sum_more (λ x. cond (eqb x face) 1 0) (losses_by seat) ds d)
    (sum_more (λ x. cond (eqb x face) 1 0) (gains_by seat) ds d)
    (held_room (tiles_gained ds seat) (tiles_lost ds seat) (losses_by seat d) face h within)
  where
    more : (l' l x g' g y : ℕ) → l' ≡ l + x → g' ≡ g + y → l + x ≤ g → l' ≤ g'
    more l' l x g' g y e f h = omega arith

-- the seats of the kans

seats_step : (ds : List Deed) (d : Deed) → has_seats d ≡ true → All (λ s. s < 4) (kan_seats_by d)
seats_step ds (OpenKan who target tile a b c) h = All-cons (λ s. s < 4) who [] (first_seat who _ h) (All-nil (λ s. s < 4))
seats_step ds (ClosedKan who a b c d) h = All-cons (λ s. s < 4) who [] (first_seat who _ h) (All-nil (λ s. s < 4))
seats_step ds (AddedKan who tile a b c) h = All-cons (λ s. s < 4) who [] (first_seat who _ h) (All-nil (λ s. s < 4))
seats_step ds other h = All-nil (λ s. s < 4)

seats_more : (ds : List Deed) (d : Deed) → All (λ s. s < 4) (kan_seats ds) → All (λ s. s < 4) (kan_seats_by d) → All (λ s. s < 4) (kan_seats (ds ++ d ∷ []))
seats_more ds d old new =
    subst (All (λ s. s < 4)) (sym (flat_map-append kan_seats_by ds (d ∷ [])))
    (All-append (λ s. s < 4) (kan_seats ds) (kan_seats_by d ++ []) old (All-append (λ s. s < 4) (kan_seats_by d) [] new (All-nil (λ s. s < 4))))

-- The wall of the hand that a deed belongs to.
abbrev pub wall_for : List (List ℕ) → List Deed → Deed → List ℕ
wall_for walls ds d = wall_of walls (cond (is_hand_start d) (length (starts ds)) (hand_number ds))

-- The stage that a deed is held against: a start of a hand leaves the hand before it after.
abbrev pub stage_for : Stage → Deed → Stage
stage_for stage d = cond (is_hand_start d) NoHand stage

-- The three tiles of a pon are of one kind.
abbrev pub is_even : Deed → Bool
is_even (Pon who target tile a b) = are_alike tile a && are_alike tile b
is_even other = true

-- What a deed owes to those before it, other than that there is room.
pub record IsNext (red : Bool) (walls : List (List ℕ)) (ds : List Deed) (d : Deed) : Type 0 where
  pub place : is_in_place (ground_of ds) d ≡ true
  pub seats : has_seats d ≡ true
  pub held : (seat : ℕ) → are_held (tiles_gained (before_in (hand ds) d) seat) (tiles_lost (before_in (hand ds) d) seat) (losses_by seat d) ≡ true
  pub triplet : has_triplet (before_in (hand ds) d) d ≡ true
  pub even : is_even d ≡ true
  pub tiles : has_tiles red d ≡ true
  pub live : has_live (before_in (hand ds) d) d ≡ true
  pub once : is_first_riichi (before_in (hand ds) d) d ≡ true
  pub pointed : has_points (points ds) d ≡ true
  pub stage : stage_for (stage_of ds) d ≡ stage_before (stage_of ds) d
  pub brings : Brings (wall_for walls ds d) (before_in (hand ds) d) d

-- What a deed owes to those before it in its own hand.
pub record IsNextIn (wall : List ℕ) (ds : List Deed) (d : Deed) : Type 0 where
  pub seats : has_seats d ≡ true
  pub held : (seat : ℕ) → are_held (tiles_gained ds seat) (tiles_lost ds seat) (losses_by seat d) ≡ true
  pub live : has_live ds d ≡ true
  pub brings : Brings wall ds d

pub inside : (red : Bool) (walls : List (List ℕ)) (ds : List Deed) (d : Deed) → IsNext red walls ds d → IsNextIn (wall_for walls ds d) (before_in (hand ds) d) d
inside red walls ds d next = record { seats = next.seats; held = next.held; live = next.live; brings = next.brings }

-- One deed more keeps what is true.
pub keeps : (stage : Stage) (wall : List ℕ) (ds : List Deed) (d : Deed) → DealsWell wall → StandsAt wall ds (stage_before stage d) →
    IsNextIn wall ds d → StandsAt wall (ds ++ d ∷ []) (stage_after stage d)
keeps stage wall ds d deals s next =
    let draws : live_draws (ds ++ d ∷ []) ≡ live_draws ds + cond (is_live_draw d) 1 0 = sum_by_push (λ x. cond (is_live_draw x) 1 0) ds d in
    let made : kans (ds ++ d ∷ []) ≡ kans ds + cond (is_kan d) 1 0 = sum_by_push (λ x. cond (is_kan x) 1 0) ds d in
    let taken : count_by is_replacement (ds ++ d ∷ []) ≡ count_by is_replacement ds + cond (is_replacement d) 1 0 = sum_by_push (λ x. cond (is_replacement x) 1 0) ds d in
    let shown : length (indicators (ds ++ d ∷ [])) ≡ length (indicators ds) + length (indicators_by d) = length-more indicators_by ds d in
    let live = live_step d ds next.live s.live s.four in
    record {
      kinds = λ kind. sum_more (λ x. cond (eqb (kind_of x) kind) 1 0) brought_by ds d ∙ kinds_step stage wall ds d kind _ _ _ _ next.seats deals
          next.brings draws shown taken s.fresh s.taken (s.kinds kind);
      hands = λ seat. hands_of _ _ _ _ _ _ _ _ _ _ _ (length-more (gains_by seat) ds d) (length-more (makes_by seat) ds d)
          (length-more (losses_by seat) ds d) (hands_step stage wall ds d seat _ _ _ deals next.brings (s.hands seat));
      shown = shown_of _ _ _ _ _ _ shown made (shown_step stage d _ _ s.shown);
      taken = taken_of _ _ _ _ _ taken made (taken_step stage d _ _ s.taken);
      fresh = fresh_step stage d _ _ shown s.fresh;
      live = live_of _ _ _ _ draws made live.0;
      four = four_of _ _ made live.1;
      held = λ seat face. held_step ds d seat face (next.held seat) (s.held seat face);
      seats = seats_more ds d s.seats (seats_step ds d next.seats);
    }
  where
    hands_of : (g' g x m' m y l' l z b h : ℕ) → g' ≡ g + x → m' ≡ m + y → l' ≡ l + z → g + x + 3 * (m + y) ≡ l + z + b + h → g' + 3 * m' ≡ l' + b + h
    hands_of g' g x m' m y l' l z b h e f k o = omega arith

    shown_of : (i' k' i o k b : ℕ) → i' ≡ i → k' ≡ k → i + o ≡ k + b → i' + o ≡ k' + b
    shown_of i' k' i o k b e f h = omega arith

    taken_of : (r' k' r o k : ℕ) → r' ≡ r → k' ≡ k → r + o ≡ k → r' + o ≡ k'
    taken_of r' k' r o k e f h = omega arith

    live_of : (n' k' n k : ℕ) → n' ≡ n → k' ≡ k → n + k ≤ 70 → n' + k' ≤ 70
    live_of n' k' n k e f h = omega arith

    four_of : (k' k : ℕ) → k' ≡ k → k ≤ 4 → k' ≤ 4
    four_of k' k e h = omega arith
