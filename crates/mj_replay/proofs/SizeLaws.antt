-- A deed whose seats, tiles and numbers fit is a value of the type of deeds.
use Rattle.std.proofs.Common.{◌≡◌, ℕ, ◌==◌, ◌&&◌, Bool, true, false, List, [], ◌∷◌, ◌++◌, length, refl, sym, ◌∙◌, arith}
use Rattle.std.specs.Prelude.{ℤ, nat_lt, nat_le}
use Rattle.std.specs.List.{list_all}
use Rattle.std.proofs.lemmas.Bool.{and_from, and_parts}
use Rattle.std.proofs.lemmas.Bool.Decides.{nat_tests}
use Rattle.std.proofs.lemmas.List.Folds.{list_all-append}
use Rattle.mj_deeds.specs.declared.bid.Bid.{Bid}
use Rattle.mj_deeds.specs.declared.bid.Bid.TheVariants as bids
use Rattle.mj_deeds.specs.Shown.{Shown, Tiles, Hidden, tiles_shown}
use Rattle.mj_deeds.specs.declared.deed.Deed.{Deed}
use Rattle.mj_deeds.specs.declared.deed.Deed.TheVariants.{StartGame, StartHand, Draw, Discard, Chi, Pon, OpenKan, ClosedKan, AddedKan, Dora, Reach, ReachAccepted, Win, DrawnHand, EndHand, EndGame}
use Rattle.mj_deeds.specs.Fits.{has_seats, is_face, faces_in}
use Rattle.mj_deeds.specs.Points.{points, deposits}
use Rattle.mj_history.specs.Records.{is_byte, is_word, is_tile, are_points, is_bid, is_row, is_shown, is_deed}

-- what a deed says beside its seats and tiles
abbrev pub hidden_fits : Shown → Bool
hidden_fits (Tiles tiles) = true
hidden_fits (Hidden number) = is_byte number

abbrev pub numbers_fit : Deed → Bool
numbers_fit (StartGame names) = false
numbers_fit (StartHand round number honba deposits dealer indicator hands) = nat_lt round 34 && is_byte number && is_word honba && is_word deposits
numbers_fit (Draw who tile replacement) = true
numbers_fit (Discard who tile drawn) = true
numbers_fit (Chi who target tile a b) = true
numbers_fit (Pon who target tile a b) = true
numbers_fit (OpenKan who target tile a b c) = true
numbers_fit (ClosedKan who a b c d) = true
numbers_fit (AddedKan who tile a b c) = true
numbers_fit (Dora tile) = true
numbers_fit (Reach who) = true
numbers_fit (ReachAccepted who points bid) = are_points points
numbers_fit (Win who target tile unders own yaku fu han value deltas points rest) =
    list_all is_row yaku && is_byte fu && is_byte han && is_word value && are_points deltas && are_points points && nat_le (length rest) 2
numbers_fit (DrawnHand reason hands ready deltas points) =
    hidden_fits hands.first && hidden_fits hands.second && hidden_fits hands.third && hidden_fits hands.fourth && length ready == 4 && are_points deltas && are_points points
numbers_fit EndHand = true
numbers_fit (EndGame points deposits) = are_points points && is_word deposits

abbrev pub Fits : Deed → Type 0
Fits deed = numbers_fit deed ≡ true

seat_byte : (seat : ℕ) → nat_lt seat 4 ≡ true → is_byte seat ≡ true
seat_byte seat h = grind (arith, nat_tests)

pass_on : (p q : ℕ → Bool) → ((x : ℕ) → p x ≡ true → q x ≡ true) → (xs : List ℕ) → list_all p xs ≡ true → list_all q xs ≡ true
pass_on p q f [] h = refl
pass_on p q f (x ∷ xs) h = let k = and_parts (p x) (list_all p xs) h in and_from (q x) _ (f x k.0) (pass_on p q f xs k.1)

abbrev AreSeats : List ℕ → Type 0
AreSeats seats = list_all (λ seat. nat_lt seat 4) seats ≡ true

abbrev pub AreReal : List ℕ → Type 0
AreReal tiles = list_all is_tile tiles ≡ true

-- so are all tiles that the game has, with red fives or without
face_is : (red : Bool) (face : ℕ) → is_face red face ≡ true → is_tile face ≡ true
face_is true face h = h
face_is false face h = grind (arith, nat_tests)

pub are_real : (red : Bool) (tiles : List ℕ) → list_all (is_face red) tiles ≡ true → AreReal tiles
are_real red tiles h = pass_on (is_face red) is_tile (face_is red) tiles h

seat_bytes : (seats : List ℕ) → AreSeats seats → list_all is_byte seats ≡ true
seat_bytes seats h = pass_on (λ seat. nat_lt seat 4) is_byte seat_byte seats h

real_parts : (xs ys : List ℕ) → AreReal (xs ++ ys) → (AreReal xs) × (AreReal ys)
real_parts xs ys h = and_parts (list_all is_tile xs) (list_all is_tile ys) (sym (list_all-append is_tile xs ys) ∙ h)

three_fit : (who target tile a b : ℕ) → AreSeats (who ∷ target ∷ []) → AreReal (tile ∷ a ∷ b ∷ []) → (is_byte who && is_byte target && is_tile tile && is_tile a && is_tile b) ≡ true
three_fit who target tile a b s x =
    let s1 = and_parts (is_byte who) (list_all is_byte (target ∷ [])) (seat_bytes (who ∷ target ∷ []) s) in
    let s2 = and_parts (is_byte target) true s1.1 in
    let x1 = and_parts (is_tile tile) (list_all is_tile (a ∷ b ∷ [])) x in
    let x2 = and_parts (is_tile a) (list_all is_tile (b ∷ [])) x1.1 in
    let x3 = and_parts (is_tile b) true x2.1 in
    and_from (is_byte who && is_byte target && is_tile tile && is_tile a) (is_tile b) (and_from (is_byte who && is_byte target && is_tile tile)
    (is_tile a) (and_from (is_byte who && is_byte target) (is_tile tile) (and_from (is_byte who) (is_byte target) s1.0 s2.0) x1.0) x2.0) x3.0

four_fit : (who target tile a b c : ℕ) → AreSeats (who ∷ target ∷ []) → AreReal (tile ∷ a ∷ b ∷ c ∷ []) → (is_byte who && is_byte target && is_tile tile && is_tile a && is_tile b && is_tile c) ≡ true
four_fit who target tile a b c s x =
    let x1 = and_parts (is_tile tile) (list_all is_tile (a ∷ b ∷ c ∷ [])) x in
    let x2 = and_parts (is_tile a) (list_all is_tile (b ∷ c ∷ [])) x1.1 in
    let x3 = and_parts (is_tile b) (list_all is_tile (c ∷ [])) x2.1 in
    let x4 = and_parts (is_tile c) true x3.1 in
    and_from (is_byte who && is_byte target && is_tile tile && is_tile a && is_tile b) (is_tile c)
    (three_fit who target tile a b s (and_from (is_tile tile) _ x1.0 (and_from (is_tile a) _ x2.0 (and_from (is_tile b) true x3.0 refl)))) x4.0

bid_fits : (who : ℕ) (said : List ℤ) (bid : Bid) → has_seats (ReachAccepted who said bid) ≡ true → AreReal (faces_in (ReachAccepted who said bid)) → is_bid bid ≡ true
bid_fits who said bids.NoBid s x = refl
bid_fits who said (bids.Chi seat target tile a b) s x = three_fit seat target tile a b (and_parts (nat_lt who 4) (list_all (λ n. nat_lt n 4) (seat ∷ target ∷ [])) s).1 x
bid_fits who said (bids.Pon seat target tile a b) s x = three_fit seat target tile a b (and_parts (nat_lt who 4) (list_all (λ n. nat_lt n 4) (seat ∷ target ∷ [])) s).1 x
bid_fits who said (bids.OpenKan seat target tile a b c) s x = four_fit seat target tile a b c (and_parts (nat_lt who 4) (list_all (λ n. nat_lt n 4) (seat ∷ target ∷ [])) s).1 x

shown_fits : (seen : Shown) → hidden_fits seen ≡ true → AreReal (tiles_shown seen) → is_shown seen ≡ true
shown_fits (Tiles tiles) h x = x
shown_fits (Hidden number) h x = h

-- So a deed of four seats and of tiles that there are is a value of its type where its numbers fit.
pub value : (deed : Deed) → Fits deed → has_seats deed ≡ true → AreReal (faces_in deed) → is_deed deed ≡ true
value (StartGame names) h s x = cc h
value (StartHand round number honba lying dealer indicator hands) h s x =
    let t = and_parts (is_tile indicator) (list_all is_tile (hands.first ++ hands.second ++ hands.third ++ hands.fourth)) x in
    let q3 = real_parts (hands.first ++ hands.second ++ hands.third) hands.fourth t.1 in
    let q2 = real_parts (hands.first ++ hands.second) hands.third q3.0 in
    let q1 = real_parts hands.first hands.second q2.0 in
    let numbers = nat_lt round 34 && is_byte number && is_word honba && is_word lying in
    and_from (numbers && is_byte dealer && is_tile indicator) (list_all is_tile hands.first && list_all is_tile hands.second && list_all is_tile hands.third && list_all is_tile hands.fourth)
    (and_from (numbers && is_byte dealer) (is_tile indicator) (and_from numbers (is_byte dealer) h (seat_byte dealer (and_parts (nat_lt dealer 4) true s).0)) t.0)
    (and_from (list_all is_tile hands.first && list_all is_tile hands.second && list_all is_tile hands.third) (list_all is_tile hands.fourth)
    (and_from (list_all is_tile hands.first && list_all is_tile hands.second) (list_all is_tile hands.third) (and_from (list_all is_tile hands.first)
    (list_all is_tile hands.second) q1.0 q1.1) q2.1) q3.1)
value (Draw who tile replacement) h s x = and_from (is_byte who) (is_tile tile) (seat_byte who (and_parts (nat_lt who 4) true s).0) (and_parts (is_tile tile) true x).0
value (Discard who tile drawn) h s x = and_from (is_byte who) (is_tile tile) (seat_byte who (and_parts (nat_lt who 4) true s).0) (and_parts (is_tile tile) true x).0
value (Chi who target tile a b) h s x = three_fit who target tile a b s x
value (Pon who target tile a b) h s x = three_fit who target tile a b s x
value (OpenKan who target tile a b c) h s x = four_fit who target tile a b c s x
value (ClosedKan who a b c d) h s x =
    let seat = seat_byte who (and_parts (nat_lt who 4) true s).0 in
    let x1 = and_parts (is_tile a) (list_all is_tile (b ∷ c ∷ d ∷ [])) x in
    let x2 = and_parts (is_tile b) (list_all is_tile (c ∷ d ∷ [])) x1.1 in
    let x3 = and_parts (is_tile c) (list_all is_tile (d ∷ [])) x2.1 in
    let x4 = and_parts (is_tile d) true x3.1 in
    and_from (is_byte who && is_tile a && is_tile b && is_tile c) (is_tile d) (and_from (is_byte who && is_tile a && is_tile b) (is_tile c)
    (and_from (is_byte who && is_tile a) (is_tile b) (and_from (is_byte who) (is_tile a) seat x1.0) x2.0) x3.0) x4.0
value (AddedKan who tile a b c) h s x =
    let seat = seat_byte who (and_parts (nat_lt who 4) true s).0 in
    let x1 = and_parts (is_tile tile) (list_all is_tile (a ∷ b ∷ c ∷ [])) x in
    let x2 = and_parts (is_tile a) (list_all is_tile (b ∷ c ∷ [])) x1.1 in
    let x3 = and_parts (is_tile b) (list_all is_tile (c ∷ [])) x2.1 in
    let x4 = and_parts (is_tile c) true x3.1 in
    and_from (is_byte who && is_tile tile && is_tile a && is_tile b) (is_tile c) (and_from (is_byte who && is_tile tile && is_tile a) (is_tile b)
    (and_from (is_byte who && is_tile tile) (is_tile a) (and_from (is_byte who) (is_tile tile) seat x1.0) x2.0) x3.0) x4.0
value (Dora tile) h s x = (and_parts (is_tile tile) true x).0
value (Reach who) h s x = seat_byte who (and_parts (nat_lt who 4) true s).0
value (ReachAccepted who said bid) h s x =
    and_from (is_byte who && are_points said) (is_bid bid) (and_from (is_byte who) (are_points said) (seat_byte who (and_parts (nat_lt who 4) _ s).0) h) (bid_fits who said bid s x)
value (Win who target tile unders own yaku fu han worth deltas said rest) h s x =
    let h6 = and_parts (list_all is_row yaku && is_byte fu && is_byte han && is_word worth && are_points deltas && are_points said) (nat_le (length rest) 2) h in
    let h5 = and_parts (list_all is_row yaku && is_byte fu && is_byte han && is_word worth && are_points deltas) (are_points said) h6.0 in
    let h4 = and_parts (list_all is_row yaku && is_byte fu && is_byte han && is_word worth) (are_points deltas) h5.0 in
    let h3 = and_parts (list_all is_row yaku && is_byte fu && is_byte han) (is_word worth) h4.0 in
    let h2 = and_parts (list_all is_row yaku && is_byte fu) (is_byte han) h3.0 in
    let h1 = and_parts (list_all is_row yaku) (is_byte fu) h2.0 in
    let s1 = and_parts (is_byte who) (list_all is_byte (target ∷ rest)) (seat_bytes (who ∷ target ∷ rest) s) in
    let s2 = and_parts (is_byte target) (list_all is_byte rest) s1.1 in
    let x1 = and_parts (is_tile tile) (list_all is_tile (unders ++ own)) x in
    let x2 = real_parts unders own x1.1 in
    let a1 = is_byte who && is_byte target in
    let a2 = a1 && is_tile tile in
    let a3 = a2 && list_all is_tile unders in
    let a4 = a3 && list_all is_tile own in
    let a5 = a4 && list_all is_row yaku in
    let a6 = a5 && is_byte fu in
    let a7 = a6 && is_byte han in
    let a8 = a7 && is_word worth in
    let a9 = a8 && are_points deltas in
    let a10 = a9 && are_points said in
    let a11 = a10 && nat_le (length rest) 2 in
    and_from a11 (list_all is_byte rest) (and_from a10 (nat_le (length rest) 2)
    (and_from a9 (are_points said) (and_from a8 (are_points deltas)
    (and_from a7 (is_word worth) (and_from a6 (is_byte han) (and_from a5 (is_byte fu) (and_from a4 (list_all is_row yaku)
    (and_from a3 (list_all is_tile own) (and_from a2 (list_all is_tile unders)
    (and_from a1 (is_tile tile) (and_from (is_byte who) (is_byte target) s1.0 s2.0) x1.0) x2.0) x2.1) h1.0) h1.1) h2.1) h3.1) h4.1) h5.1) h6.1)
    s2.1
value (DrawnHand reason hands ready deltas said) h s x =
    let h6 = and_parts (hidden_fits hands.first && hidden_fits hands.second && hidden_fits hands.third && hidden_fits hands.fourth && length ready == 4 && are_points deltas) (are_points said) h in
    let h5 = and_parts (hidden_fits hands.first && hidden_fits hands.second && hidden_fits hands.third && hidden_fits hands.fourth && length ready == 4) (are_points deltas) h6.0 in
    let h4 = and_parts (hidden_fits hands.first && hidden_fits hands.second && hidden_fits hands.third && hidden_fits hands.fourth) (length ready == 4) h5.0 in
    let h3 = and_parts (hidden_fits hands.first && hidden_fits hands.second && hidden_fits hands.third) (hidden_fits hands.fourth) h4.0 in
    let h2 = and_parts (hidden_fits hands.first && hidden_fits hands.second) (hidden_fits hands.third) h3.0 in
    let h1 = and_parts (hidden_fits hands.first) (hidden_fits hands.second) h2.0 in
    let x3 = real_parts (tiles_shown hands.first ++ tiles_shown hands.second ++ tiles_shown hands.third) (tiles_shown hands.fourth) x in
    let x2 = real_parts (tiles_shown hands.first ++ tiles_shown hands.second) (tiles_shown hands.third) x3.0 in
    let x1 = real_parts (tiles_shown hands.first) (tiles_shown hands.second) x2.0 in
    let four = is_shown hands.first && is_shown hands.second && is_shown hands.third && is_shown hands.fourth in
    and_from (four && length ready == 4 && are_points deltas) (are_points said) (and_from (four && length ready == 4) (are_points deltas) (and_from four (length ready == 4)
    (and_from (is_shown hands.first && is_shown hands.second && is_shown hands.third) (is_shown hands.fourth) (and_from (is_shown hands.first && is_shown hands.second) (is_shown hands.third)
    (and_from (is_shown hands.first) (is_shown hands.second) (shown_fits hands.first h1.0 x1.0) (shown_fits hands.second h1.1 x1.1))
    (shown_fits hands.third h2.1 x2.1)) (shown_fits hands.fourth h3.1 x3.1)) h4.1) h5.1) h6.1
value EndHand h s x = refl
value (EndGame said lying) h s x = h
