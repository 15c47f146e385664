-- How many points a seat can have: what a win moves, hand by hand.
use Rattle.std.proofs.Common.{◌≡◌, ℕ, zero, suc, ◌+◌, ◌-◌, ◌*◌, ◌/◌, ◌<◌, ◌≤◌, ◌==◌, ◌&&◌, ◌||◌, Bool, true, false, cond, leb, ltb, List, [], ◌∷◌, refl, ap, sym, ◌∙◌, subst, arith}
use Rattle.std.specs.Prelude.{ℤ, pos, negsuc, neg_ℤ, ◌+ℤ◌, nat_abs, Option, Some, None, count_by, fold, map, unwrap_or}
use Rattle.std.specs.List.{slice_index_or}
use Rattle.std.proofs.Math.Nat.{div-le_self}
use Rattle.std.proofs.Math.IntN.{+ℤ_idr}
use Rattle.std.proofs.lemmas.Bool.{and_from, le-leb}
use Rattle.mj_tiles.specs.declared.meld.Meld.{Meld}
use Rattle.mj_readings.specs.declared.reading.Case.{Case}
use Rattle.mj_readings.specs.declared.reading.Reading.{Reading}
use Rattle.mj_readings.specs.AllReadings.{readings_of}
use Rattle.mj_yaku.specs.Han.{has_yakuman}
use Rattle.mj_yaku.specs.SomeYaku.{gives_yaku}
use Rattle.mj_yaku.specs.Yaku.{yaku_of}
use Rattle.mj_pay.specs.Payments.{base_of, rounded_up, ron_payment, drawn_payment, ron_change, ron_changes, drawn_gain, drawn_change, drawn_changes, draw_change, draw_changes, deposit_changes}
use Rattle.mj_score.specs.declared.score.Extra.{Extra}
use Rattle.mj_score.specs.declared.score.Score.{Score}
use Rattle.mj_score.specs.Scores.{score_of_rows, score_of, is_better, yakuman_score, ordinary_score}
use Rattle.mj_score.specs.Worth.{worth_of}
use Rattle.mj_score.specs.Inner.BestAmong.{better_of, with_reading, best_among}
use Rattle.mj_deeds.specs.declared.deed.Deed.{Deed}
use Rattle.mj_deeds.specs.Points.{change_by}
use Rattle.mj_deeds.specs.Fits.{is_same, is_small, are_points_of, are_points}
use Rattle.mj_rules.specs.Wins.{win_changes, points_with, no_score}

-- sizes

pub sum_size : (x y : ℤ) → nat_abs (x +ℤ y) ≤ nat_abs x + nat_abs y
sum_size (pos a) (pos b) = omega arith
sum_size (pos a) (negsuc b) = less (ltb a (suc b)) (suc b - suc a) (a - suc b) (a + suc b) (omega arith) (omega arith)
  where
    less : (t : Bool) (x y n : ℕ) → suc x ≤ n → y ≤ n → nat_abs (cond t (negsuc x) (pos y)) ≤ n
    less true x y n h k = h
    less false x y n h k = k
sum_size (negsuc a) (pos b) = less (ltb b (suc a)) (suc a - suc b) (b - suc a) (suc a + b) (omega arith) (omega arith)
  where
    less : (t : Bool) (x y n : ℕ) → suc x ≤ n → y ≤ n → nat_abs (cond t (negsuc x) (pos y)) ≤ n
    less true x y n h k = h
    less false x y n h k = k
sum_size (negsuc a) (negsuc b) = omega arith

minus_size : (n : ℕ) → nat_abs (neg_ℤ (pos n)) ≡ n
minus_size zero = refl
minus_size (suc n) = refl

pub small_is : (x : ℤ) → nat_abs x ≤ 100000000 → is_small x ≡ true
small_is (pos n) h = le-leb n 100000000 h
small_is (negsuc n) h = and_from (leb n 99999999) true (le-leb n 99999999 (omega arith)) refl

same_as : (x : ℤ) → is_same x x ≡ true
same_as (pos n) = and_from (leb n n) (leb n n) (le-leb n n (omega arith)) (le-leb n n (omega arith))
same_as (negsuc n) = and_from (leb n n) (leb n n) (le-leb n n (omega arith)) (le-leb n n (omega arith))

-- points that are those before, changed

points_at : (before changes : List ℤ) (d : Deed) (seat : ℕ) (x : ℤ) → x ≡ slice_index_or before seat (pos 0) +ℤ slice_index_or changes seat (pos 0) →
    change_by seat d ≡ slice_index_or changes seat (pos 0) → nat_abs x ≤ 100000000 → (is_same x (slice_index_or before seat (pos 0) +ℤ change_by seat d) && is_small x) ≡ true
points_at before changes d seat x e f h =
    and_from (is_same x (slice_index_or before seat (pos 0) +ℤ change_by seat d)) (is_small x)
    (ap (is_same x) (ap (λ y. slice_index_or before seat (pos 0) +ℤ y) f ∙ sym e) ∙ same_as x) (small_is x h)

-- A deed says the right points where it says those before it with its changes, and none grows too great.
pub points_right : (before changes : List ℤ) (d : Deed) → ((seat : ℕ) → seat < 4 → change_by seat d ≡ slice_index_or changes seat (pos 0)) →
    ((seat : ℕ) → nat_abs (slice_index_or before seat (pos 0)) + nat_abs (slice_index_or changes seat (pos 0)) ≤ 100000000) → are_points before d (points_with before changes) ≡ true
points_right before changes d f h =
    and_from (are_points_of before d (points_with before changes) 0) _ (at 0 (omega arith) refl)
    (and_from (are_points_of before d (points_with before changes) 1) _ (at 1 (omega arith) refl)
    (and_from (are_points_of before d (points_with before changes) 2) _ (at 2 (omega arith) refl)
    (and_from (are_points_of before d (points_with before changes) 3) true (at 3 (omega arith) refl) refl)))
  where
    less : (a b c : ℕ) → a ≤ b → b ≤ c → a ≤ c
    less a b c h k = omega arith

    at : (seat : ℕ) → seat < 4 → slice_index_or (points_with before changes) seat (pos 0) ≡ slice_index_or before seat (pos 0) +ℤ slice_index_or changes seat (pos 0) →
        are_points_of before d (points_with before changes) seat ≡ true
    at seat low e =
        points_at before changes d seat (slice_index_or (points_with before changes) seat (pos 0)) e (f seat low)
        (subst (λ x. nat_abs x ≤ 100000000) (sym e) (less _ _ _ (sum_size (slice_index_or before seat (pos 0)) (slice_index_or changes seat (pos 0))) (h seat)))

-- So does one that changes none.
pub points_same : (before : List ℤ) (d : Deed) → ((seat : ℕ) → change_by seat d ≡ pos 0) → ((seat : ℕ) → nat_abs (slice_index_or before seat (pos 0)) ≤ 100000000) → are_points before d before ≡ true
points_same before d f h =
    and_from (are_points_of before d before 0) _ (at 0)
    (and_from (are_points_of before d before 1) _ (at 1)
    (and_from (are_points_of before d before 2) _ (at 2)
    (and_from (are_points_of before d before 3) true (at 3) refl)))
  where
    at : (seat : ℕ) → are_points_of before d before seat ≡ true
    at seat = points_at before [] d seat (slice_index_or before seat (pos 0)) (sym (+ℤ_idr (slice_index_or before seat (pos 0)))) (f seat) (h seat)

-- what a hand is worth

base_at_most : (a b c d e : Bool) (x : ℕ) → x ≤ 8000 → cond a 8000 (cond b 6000 (cond c 4000 (cond d 3000 (cond e 2000 x)))) ≤ 8000
base_at_most true b c d e x h = omega arith
base_at_most false true c d e x h = omega arith
base_at_most false false true d e x h = omega arith
base_at_most false false false true e x h = omega arith
base_at_most false false false false true x h = omega arith
base_at_most false false false false false x h = h

base_few : (han fu : ℕ) → base_of han fu ≤ 8000
unfolding base_of
base_few han fu = base_at_most (leb 13 han) (leb 11 han) (leb 8 han) (leb 6 han) (leb 5 han) _ (omega arith)

score_few : (rows : ℕ) (reading : Reading) (case : Case) (extra : Extra) → (score_of_rows rows reading case extra).base ≤ 8000
unfolding score_of_rows
score_few rows reading case extra = either (has_yakuman rows) _ _
  where
    either : (b : Bool) (han fu : ℕ) → (cond b (yakuman_score rows) (ordinary_score rows han fu)).base ≤ 8000
    either true han fu = omega arith
    either false han fu = base_few han fu

abbrev Few : Option Score → Type 0
Few None = Unit {0}
Few (Some score) = score.base ≤ 8000

best_few : (melds : List Meld) (case : Case) (extra : Extra) (readings : List Reading) (best : Option Score) → Few best → Few (fold (with_reading melds case extra) best readings)
best_few melds case extra [] best h = h
best_few melds case extra (reading ∷ readings) best h =
    best_few melds case extra readings (with_reading melds case extra best reading) (one (gives_yaku melds case reading) best h)
  where
    better : (b : Bool) (one other : Score) → one.base ≤ 8000 → other.base ≤ 8000 → (cond b one other).base ≤ 8000
    better true one other h k = h
    better false one other h k = k

    one : (b : Bool) (best : Option Score) → Few best → Few (cond b (better_of best (score_of melds case extra reading)) best)
    one true None h = score_few (yaku_of reading melds case) reading case extra
    one true (Some score) h = better (is_better (score_of melds case extra reading) score) (score_of melds case extra reading) score (score_few (yaku_of reading melds case) reading case extra) h
    one false best h = h

-- No win is worth more than 8,000 base points.
pub worth_few : (counts : List ℕ) (melds : List Meld) (winning : ℕ) (case : Case) (extra : Extra) → (unwrap_or (worth_of counts melds winning case extra) no_score).base ≤ 8000
unfolding worth_of best_among
worth_few counts melds winning case extra = either (worth_of counts melds winning case extra) (best_few melds case extra (readings_of counts melds winning) None tt)
  where
    either : (o : Option Score) → Few o → (unwrap_or o no_score).base ≤ 8000
    either None h = omega arith
    either (Some score) h = h

-- what a win moves

rounded_few : (n : ℕ) → rounded_up n ≤ n + 99
unfolding rounded_up
rounded_few n = omega arith

ron_few : (winner dealer base honba : ℕ) → base ≤ 8000 → honba ≤ 199 → ron_payment winner dealer base honba ≤ 108000
unfolding ron_payment
ron_few winner dealer base honba h k = by_test (winner == dealer)
  where
    by_test : (b : Bool) → rounded_up (cond b 6 4 * base) + 300 * honba ≤ 108000
    by_test true = omega (arith, rounded_few (6 * base), h, k)
    by_test false = omega (arith, rounded_few (4 * base), h, k)

drawn_few : (winner payer dealer base honba : ℕ) → base ≤ 8000 → honba ≤ 199 → drawn_payment winner payer dealer base honba ≤ 36000
unfolding drawn_payment
drawn_few winner payer dealer base honba h k = by_test (winner == dealer || payer == dealer)
  where
    by_test : (b : Bool) → rounded_up (cond b 2 1 * base) + 100 * honba ≤ 36000
    by_test true = omega (arith, rounded_few (2 * base), h, k)
    by_test false = omega (arith, rounded_few (1 * base), h, k)

gain_few : (winner dealer base honba : ℕ) → base ≤ 8000 → honba ≤ 199 → drawn_gain winner dealer base honba ≤ 144000
unfolding drawn_gain
gain_few winner dealer base honba h k = four _ _ _ _ (at 0) (at 1) (at 2) (at 3)
  where
    most : (b : Bool) (n : ℕ) → n ≤ 36000 → cond b 0 n ≤ 36000
    most true n h = omega arith
    most false n h = h

    at : (payer : ℕ) → cond (payer == winner) 0 (drawn_payment winner payer dealer base honba) ≤ 36000
    at payer = most (payer == winner) _ (drawn_few winner payer dealer base honba h k)

    four : (a b c d : ℕ) → a ≤ 36000 → b ≤ 36000 → c ≤ 36000 → d ≤ 36000 → 0 + a + b + c + d ≤ 144000
    four a b c d h i j k = omega arith

change_size : (own target : Bool) (gain payment deposits : ℕ) → gain ≤ 144000 → payment ≤ 144000 →
    nat_abs (cond own (pos (gain + 1000 * deposits)) (cond target (neg_ℤ (pos payment)) (pos 0))) ≤ 144000 + 1000 * deposits
change_size true target gain payment deposits h k = omega arith
change_size false true gain payment deposits h k = within _ (minus_size payment)
  where
    within : (n : ℕ) → n ≡ payment → n ≤ 144000 + 1000 * deposits
    within n e = omega arith
change_size false false gain payment deposits h k = omega arith

of_each : (f : ℕ → ℤ) (most : ℕ) → ((seat : ℕ) → nat_abs (f seat) ≤ most) → (seat : ℕ) → nat_abs (slice_index_or (f 0 ∷ f 1 ∷ f 2 ∷ f 3 ∷ []) seat (pos 0)) ≤ most
of_each f most h zero = h 0
of_each f most h (suc zero) = h 1
of_each f most h (suc (suc zero)) = h 2
of_each f most h (suc (suc (suc zero))) = h 3
of_each f most h (suc (suc (suc (suc n)))) = omega arith

ron_size : (winner target dealer base honba deposits : ℕ) → base ≤ 8000 → honba ≤ 199 → (seat : ℕ) →
    nat_abs (slice_index_or (ron_changes winner target dealer base honba deposits) seat (pos 0)) ≤ 144000 + 1000 * deposits
unfolding ron_changes ron_change
ron_size winner target dealer base honba deposits h k =
    of_each (ron_change winner target dealer base honba deposits) (144000 + 1000 * deposits)
    (λ seat. change_size (seat == winner) (seat == target) (ron_payment winner dealer base honba) (ron_payment winner dealer base honba) deposits paid paid)
  where
    more : (n : ℕ) → n ≤ 108000 → n ≤ 144000
    more n h = omega arith

    paid : ron_payment winner dealer base honba ≤ 144000
    paid = more _ (ron_few winner dealer base honba h k)

drawn_size : (winner dealer base honba deposits : ℕ) → base ≤ 8000 → honba ≤ 199 → (seat : ℕ) →
    nat_abs (slice_index_or (drawn_changes winner dealer base honba deposits) seat (pos 0)) ≤ 144000 + 1000 * deposits
unfolding drawn_changes drawn_change
drawn_size winner dealer base honba deposits h k =
    of_each (drawn_change winner dealer base honba deposits) (144000 + 1000 * deposits)
    (λ seat. change_size (seat == winner) true (drawn_gain winner dealer base honba) (drawn_payment winner seat dealer base honba) deposits (gain_few winner dealer base honba h k)
    (more _ (drawn_few winner seat dealer base honba h k)))
  where
    more : (n : ℕ) → n ≤ 36000 → n ≤ 144000
    more n h = omega arith

-- A win moves at most 144,000 points and the deposits to or from a seat.
pub win_size : (by_draw : Bool) (winner target dealer base honba deposits : ℕ) → base ≤ 8000 → honba ≤ 199 → (seat : ℕ) →
    nat_abs (slice_index_or (win_changes by_draw winner target dealer base honba deposits) seat (pos 0)) ≤ 144000 + 1000 * deposits
unfolding win_changes
win_size true winner target dealer base honba deposits h k seat = drawn_size winner dealer base honba deposits h k seat
win_size false winner target dealer base honba deposits h k seat = ron_size winner target dealer base honba deposits h k seat

-- A deposit is 1,000 points of its seat.
pub deposit_size : (who seat : ℕ) → nat_abs (slice_index_or (deposit_changes who) seat (pos 0)) ≤ 1000
unfolding deposit_changes
deposit_size who = of_each (λ seat. cond (seat == who) (neg_ℤ (pos 1000)) (pos 0)) 1000 (λ seat. most (seat == who))
  where
    most : (b : Bool) → nat_abs (cond b (neg_ℤ (pos 1000)) (pos 0)) ≤ 1000
    most true = omega arith
    most false = omega arith

-- A hand that is drawn moves at most 3,000 points to or from a seat.
pub draw_size : (ready : List Bool) (seat : ℕ) → nat_abs (slice_index_or (draw_changes ready) seat (pos 0)) ≤ 3000
unfolding draw_changes draw_change
draw_size ready = each (count_by (λ is_ready. is_ready) ready) ready
  where
    lost : (x n : ℕ) → x ≤ 3000 → n ≡ x → n ≤ 3000
    lost x n h e = omega arith

    one : (number : ℕ) (none ready : Bool) → nat_abs (cond none (pos 0) (cond ready (pos (3000 / number)) (neg_ℤ (pos (3000 / (4 - number)))))) ≤ 3000
    one number true ready = omega arith
    one number false true = div-le_self 3000 number
    one number false false = lost (3000 / (4 - number)) _ (div-le_self 3000 (4 - number)) (minus_size (3000 / (4 - number)))

    each : (number : ℕ) (ready : List Bool) (seat : ℕ) → nat_abs (slice_index_or (map (draw_change number) ready) seat (pos 0)) ≤ 3000
    each number [] seat = omega arith
    each number (is_ready ∷ rest) zero = one number (number == 0 || number == 4) is_ready
    each number (is_ready ∷ rest) (suc seat) = each number rest seat
