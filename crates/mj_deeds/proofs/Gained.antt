-- What two seats are given of the tiles that are brought in.
use Rattle.std.proofs.Common.{◌≡◌, ℕ, zero, suc, ◌+◌, ◌<◌, ◌≤◌, ◌⊎◌, inl, inr, Bool, true, false, cond, eqb, List, [], ◌∷◌, ◌++◌, refl, sym, ap, ◌∙◌, arith}
use Rattle.std.specs.Prelude.{flat_map}
use Rattle.std.proofs.lemmas.Bool.{cases_eq, ne_eqb}
use Rattle.std.proofs.lemmas.List.Concat.{flat_map-cons}
use Rattle.std.proofs.lemmas.List.Sums.{sum_by-cons}
use Rattle.mj_tiles.specs.Faces.{kind_of}
use Rattle.mj_tiles.specs.Counts.{number_of}
use Rattle.mj_tiles.proofs.CountSteps.{number_of-append}
use Rattle.mj_deeds.specs.declared.four.Four.{Four}
use Rattle.mj_deeds.specs.declared.deed.Deed.{Deed}
use Rattle.mj_deeds.specs.declared.deed.Deed.TheVariants.{StartHand, Draw}
use Rattle.mj_deeds.specs.Facts.{gains_by, tiles_gained}
use Rattle.mj_deeds.specs.Fits.{brought_by}
use Rattle.mj_deeds.specs.Four.{at_seat}
use Rattle.mj_deeds.proofs.FitSteps.{number_of_four}

dealt : (f : List ℕ → ℕ) (hands : Four (List ℕ)) (seat : ℕ) → f (at_seat hands seat) ≡ cond (eqb seat 0) (f hands.first)
    (cond (eqb seat 1) (f hands.second) (cond (eqb seat 2) (f hands.third) (f hands.fourth)))
dealt f hands seat = by_tests (eqb seat 0) (eqb seat 1) (eqb seat 2)
  where
    by_tests : (p q r : Bool) → f (cond p hands.first (cond q hands.second (cond r hands.third hands.fourth))) ≡ cond p (f hands.first)
        (cond q (f hands.second) (cond r (f hands.third) (f hands.fourth)))
    by_tests true q r = refl
    by_tests false true r = refl
    by_tests false false true = refl
    by_tests false false false = refl

-- What stands at two of four seats.
abbrev at : ℕ → ℕ → ℕ → ℕ → ℕ → ℕ
at x y z w seat = cond (eqb seat 0) x (cond (eqb seat 1) y (cond (eqb seat 2) z w))

two_of_four : (x y z w n a b : ℕ) → x + y + z + w ≤ n → a < 4 → b < 4 → (a ≡ b → ⊥) → at x y z w a + at x y z w b ≤ n
two_of_four x y z w n zero zero h k l ne = absurd (ne refl)
two_of_four x y z w n zero (suc zero) h k l ne = omega (arith, h)
two_of_four x y z w n zero (suc (suc zero)) h k l ne = omega (arith, h)
two_of_four x y z w n zero (suc (suc (suc zero))) h k l ne = omega (arith, h)
two_of_four x y z w n (suc zero) zero h k l ne = omega (arith, h)
two_of_four x y z w n (suc zero) (suc zero) h k l ne = absurd (ne refl)
two_of_four x y z w n (suc zero) (suc (suc zero)) h k l ne = omega (arith, h)
two_of_four x y z w n (suc zero) (suc (suc (suc zero))) h k l ne = omega (arith, h)
two_of_four x y z w n (suc (suc zero)) zero h k l ne = omega (arith, h)
two_of_four x y z w n (suc (suc zero)) (suc zero) h k l ne = omega (arith, h)
two_of_four x y z w n (suc (suc zero)) (suc (suc zero)) h k l ne = absurd (ne refl)
two_of_four x y z w n (suc (suc zero)) (suc (suc (suc zero))) h k l ne = omega (arith, h)
two_of_four x y z w n (suc (suc (suc zero))) zero h k l ne = omega (arith, h)
two_of_four x y z w n (suc (suc (suc zero))) (suc zero) h k l ne = omega (arith, h)
two_of_four x y z w n (suc (suc (suc zero))) (suc (suc zero)) h k l ne = omega (arith, h)
two_of_four x y z w n (suc (suc (suc zero))) (suc (suc (suc zero))) h k l ne = absurd (ne refl)
two_of_four x y z w n (suc (suc (suc (suc m)))) b h k l ne = absurd (omega (arith, k))
two_of_four x y z w n a (suc (suc (suc (suc m)))) h k l ne = absurd (omega (arith, l))

two_gain : (a b kind : ℕ) (d : Deed) → a < 4 → b < 4 → (a ≡ b → ⊥) → number_of (gains_by a d) kind + number_of (gains_by b d) kind ≤ number_of (brought_by d) kind
two_gain a b kind (StartHand round number honba deposits dealer indicator hands) k l ne =
    sum _ _ _ _ _ (dealt f hands a) (dealt f hands b)
    (two_of_four (f hands.first) (f hands.second) (f hands.third) (f hands.fourth) _ a b
    (all _ _ _ _ (sum_by-cons (λ t. cond (eqb (kind_of t) kind) 1 0) indicator (hands.first ++ hands.second ++ hands.third ++ hands.fourth))
    (number_of_four hands.first hands.second hands.third hands.fourth kind)) k l ne)
  where
    f : List ℕ → ℕ
    f xs = number_of xs kind

    sum : (n m p q r : ℕ) → n ≡ p → m ≡ q → p + q ≤ r → n + m ≤ r
    sum n m p q r e g h = omega (arith, e, g, h)

    all : (n m x y : ℕ) → n ≡ x + m → m ≡ y → y ≤ n
    all n m x y e g = omega (arith, e, g)
two_gain a b kind (Draw who tile replacement) k l ne = by_seat (cases_eq who a) (cases_eq who b)
  where
    one : (x y : Bool) → (x ≡ false) ⊎ (y ≡ false) → number_of (cond x (tile ∷ []) []) kind + number_of (cond y (tile ∷ []) []) kind ≤ number_of (tile ∷ []) kind
    one true true (inl h) = cc
    one true true (inr h) = cc
    one true false h = omega arith
    one false true h = omega arith
    one false false h = omega arith

    by_seat : (who ≡ a) ⊎ (who ≡ a → ⊥) → (who ≡ b) ⊎ (who ≡ b → ⊥) → number_of (cond (eqb who a) (tile ∷ []) []) kind + number_of (cond (eqb who b) (tile ∷ []) []) kind ≤ number_of (tile ∷ []) kind
    by_seat (inl e) (inl f) = absurd (ne (sym e ∙ f))
    by_seat (inr e) f = one (eqb who a) (eqb who b) (inl (ne_eqb who a e))
    by_seat (inl e) (inr f) = one (eqb who a) (eqb who b) (inr (ne_eqb who b f))
two_gain a b kind other k l ne = omega arith

-- Two seats were given no more tiles than were brought in.
pub two_gained : (ds : List Deed) (a b kind : ℕ) → a < 4 → b < 4 → (a ≡ b → ⊥) → number_of (tiles_gained ds a) kind + number_of (tiles_gained ds b) kind ≤ number_of (flat_map brought_by ds) kind
two_gained [] a b kind k l ne = omega arith
two_gained (d ∷ ds) a b kind k l ne =
    sum _ _ _ _ _ _ _ _ _ (parts (gains_by a)) (parts (gains_by b)) (parts brought_by) (two_gain a b kind d k l ne) (two_gained ds a b kind k l ne)
  where
    parts : (f : Deed → List ℕ) → number_of (flat_map f (d ∷ ds)) kind ≡ number_of (f d) kind + number_of (flat_map f ds) kind
    parts f = ap (λ (xs : List ℕ). number_of xs kind) (flat_map-cons f d ds) ∙ number_of-append (f d) (flat_map f ds) kind

    sum : (n m l a b c e f g : ℕ) → n ≡ a + b → m ≡ c + e → l ≡ f + g → a + c ≤ f → b + e ≤ g → n + m ≤ l
    sum n m l a b c e f g p q r s t = omega (arith, p, q, r, s, t)
