-- What all four seats were given and put down of a kind, by what was brought in and what lies open of it.
use Rattle.std.proofs.Common.{◌≡◌, ℕ, zero, suc, ◌+◌, ◌<◌, ◌&&◌, Bool, true, cond, eqb, ltb, List, [], ◌∷◌, ◌++◌, refl, ap, ◌∙◌, arith}
use Rattle.std.specs.Prelude.{flat_map}
use Rattle.std.specs.List.{list_all}
use Rattle.std.proofs.lemmas.Bool.{and_parts, and_from, ltb-true}
use Rattle.std.proofs.lemmas.List.Concat.{flat_map-cons}
use Rattle.std.proofs.lemmas.List.Folds.{list_all-append}
use Rattle.std.proofs.lemmas.List.Sums.{sum_by-cons}
use Rattle.mj_tiles.specs.Faces.{kind_of}
use Rattle.mj_tiles.specs.Counts.{number_of}
use Rattle.mj_tiles.proofs.CountSteps.{number_of-append}
use Rattle.mj_deeds.specs.declared.deed.Deed.{Deed}
use Rattle.mj_deeds.specs.declared.deed.Deed.TheVariants.{StartHand, Draw, Discard, Chi, Pon, OpenKan, ClosedKan, AddedKan, Dora}
use Rattle.mj_deeds.specs.Facts.{of_seat, gains_by, losses_by, indicators_by}
use Rattle.mj_deeds.specs.Fits.{all_fit, has_seats, brought_by}
use Rattle.mj_deeds.specs.Hand.{hand}
use Rattle.mj_deeds.proofs.FitSteps.{number_of_four}
use Rattle.mj_deeds.proofs.Fitted.{Parts, kept_in_hand}
use Rattle.mj_sights.specs.Seen.{opened_by}

-- what one deed does, for all four seats

-- Of four seats one has the tiles.
of_one : (who : ℕ) (xs : List ℕ) (kind : ℕ) → who < 4 →
    number_of (of_seat 0 who xs) kind + number_of (of_seat 1 who xs) kind + number_of (of_seat 2 who xs) kind + number_of (of_seat 3 who xs) kind ≡ number_of xs kind
of_one zero xs kind h = omega arith
of_one (suc zero) xs kind h = omega arith
of_one (suc (suc zero)) xs kind h = omega arith
of_one (suc (suc (suc zero))) xs kind h = omega arith
of_one (suc (suc (suc (suc n)))) xs kind h = absurd (omega (arith, h))

seat_in : (who : ℕ) (rest : Bool) → (ltb who 4 && rest) ≡ true → who < 4
seat_in who rest h = ltb-true who 4 (and_parts (ltb who 4) rest h).0

and_none : (n m : ℕ) → n ≡ m → n + 0 ≡ m
and_none n m e = omega (arith, e)

-- So often five lists of a deed have a kind together.
abbrev together : (a b c d i : Deed → List ℕ) → ℕ → Deed → ℕ
together a b c d i kind deed = number_of (a deed) kind + number_of (b deed) kind + number_of (c deed) kind + number_of (d deed) kind + number_of (i deed) kind

pub lost_by_four : (kind : ℕ) (deed : Deed) → has_seats deed ≡ true → together (losses_by 0) (losses_by 1) (losses_by 2) (losses_by 3) indicators_by kind deed ≡ number_of (opened_by deed) kind
lost_by_four kind (Discard who tile drawn) h = and_none _ _ (of_one who (tile ∷ []) kind (seat_in who _ h))
lost_by_four kind (Chi who target tile a b) h = and_none _ _ (of_one who (a ∷ b ∷ []) kind (seat_in who _ h))
lost_by_four kind (Pon who target tile a b) h = and_none _ _ (of_one who (a ∷ b ∷ []) kind (seat_in who _ h))
lost_by_four kind (OpenKan who target tile a b c) h = and_none _ _ (of_one who (a ∷ b ∷ c ∷ []) kind (seat_in who _ h))
lost_by_four kind (ClosedKan who a b c d) h = and_none _ _ (of_one who (a ∷ b ∷ c ∷ d ∷ []) kind (seat_in who _ h))
lost_by_four kind (AddedKan who tile a b c) h = and_none _ _ (of_one who (tile ∷ []) kind (seat_in who _ h))
lost_by_four kind (StartHand round number honba deposits dealer indicator hands) h = omega arith
lost_by_four kind (Dora tile) h = omega arith
lost_by_four kind other h = refl

pub gained_by_four : (kind : ℕ) (deed : Deed) → has_seats deed ≡ true → together (gains_by 0) (gains_by 1) (gains_by 2) (gains_by 3) indicators_by kind deed ≡ number_of (brought_by deed) kind
gained_by_four kind (StartHand round number honba deposits dealer indicator hands) h =
    deal _ _ _ _ _ _ _ _ (sum_by-cons (λ t. cond (eqb (kind_of t) kind) 1 0) indicator (hands.first ++ hands.second ++ hands.third ++ hands.fourth))
    (number_of_four hands.first hands.second hands.third hands.fourth kind)
    (sum_by-cons (λ t. cond (eqb (kind_of t) kind) 1 0) indicator [])
  where
    deal : (a b c d i n m t : ℕ) → n ≡ i + m → m ≡ a + b + c + d → t ≡ i + 0 → a + b + c + d + t ≡ n
    deal a b c d i n m t e f g = omega (arith, e, f, g)
gained_by_four kind (Draw who tile replacement) h = and_none _ _ (of_one who (tile ∷ []) kind (seat_in who _ h))
gained_by_four kind (Dora tile) h = omega arith
gained_by_four kind other h = refl

-- what all deeds do

parts_of : (f : Deed → List ℕ) (deed : Deed) (ds : List Deed) (kind : ℕ) → number_of (flat_map f (deed ∷ ds)) kind ≡ number_of (f deed) kind + number_of (flat_map f ds) kind
parts_of f deed ds kind = ap (λ (xs : List ℕ). number_of xs kind) (flat_map-cons f deed ds) ∙ number_of-append (f deed) (flat_map f ds) kind

pub summed : (a b c d i all : Deed → List ℕ) (kind : ℕ) → ((deed : Deed) → has_seats deed ≡ true → together a b c d i kind deed ≡ number_of (all deed)
    kind) → (ds : List Deed) → list_all has_seats ds ≡ true →
    number_of (flat_map a ds) kind + number_of (flat_map b ds) kind + number_of (flat_map c ds) kind + number_of (flat_map d ds) kind + number_of
    (flat_map i ds) kind ≡ number_of (flat_map all ds) kind
summed a b c d i all kind each [] h = refl
summed a b c d i all kind each (deed ∷ ds) h =
    let seats = and_parts (has_seats deed) (list_all has_seats ds) h in
    sum _ _ _ _ _ _ _ _ _ _ _ _ _ _ _ _ _ _ (parts_of a deed ds kind) (parts_of b deed ds kind) (parts_of c deed ds kind) (parts_of d deed ds kind)
    (parts_of i deed ds kind) (parts_of all deed ds kind)
    (each deed seats.0) (summed a b c d i all kind each ds seats.1)
  where
    sum : (n m k l o t a b c d i s e f g h j u : ℕ) → n ≡ a + e → m ≡ b + f → k ≡ c + g → l ≡ d + h → o ≡ i + j → t ≡ s + u → a + b + c + d + i ≡ s → e + f + g + h + j ≡ u → n + m + k + l + o ≡ t
    sum n m k l o t a b c d i s e f g h j u p q r v w x y z = omega (arith, p, q, r, v, w, x, y, z)

-- The seats of deeds that fit are the four.
pub seats_known : (red : Bool) (ds : List Deed) → all_fit red [] ds ≡ true → list_all has_seats (hand ds) ≡ true
seats_known red ds fit = kept_in_hand (λ xs. list_all has_seats xs ≡ true) red ds step refl fit
  where
    step : (xs : List Deed) (d : Deed) → list_all has_seats xs ≡ true → Parts red xs d → list_all has_seats (xs ++ d ∷ []) ≡ true
    step xs d h p = list_all-append has_seats xs (d ∷ []) ∙ and_from (list_all has_seats xs) _ h (and_from (has_seats d) true p.seats refl)
