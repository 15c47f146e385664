-- What all four seats are given of the tiles that are brought in, and how many of one kind three of them can have.
use Rattle.std.proofs.Common.{◌≡◌, ℕ, zero, suc, ◌+◌, ◌-◌, ◌<◌, ◌≤◌, inl, inr, Bool, true, false, cond, eqb, List, [], ◌∷◌, ◌++◌, refl, sym, ap, ◌∙◌, subst, arith}
use Rattle.std.specs.Prelude.{flat_map, nat_lt}
use Rattle.std.specs.List.{list_any}
use Rattle.std.proofs.lemmas.Bool.{cases_eq, ne_eqb, eq-eqb, or_parts, ltb-false}
use Rattle.std.proofs.lemmas.List.Concat.{flat_map-cons}
use Rattle.std.proofs.lemmas.List.Sums.{sum_by-cons}
use Rattle.mj_tiles.specs.Faces.{kind_of, number_in}
use Rattle.mj_tiles.specs.Counts.{number_of}
use Rattle.mj_tiles.proofs.CountSteps.{number_of-append}
use Rattle.mj_wall.proofs.TileOrder.{number-cons}
use Rattle.mj_deeds.specs.declared.deed.Deed.{Deed}
use Rattle.mj_deeds.specs.declared.deed.Deed.TheVariants.{StartHand, Draw}
use Rattle.mj_deeds.specs.Facts.{gains_by, tiles_gained}
use Rattle.mj_deeds.specs.Fits.{brought_by}
use Rattle.mj_deeds.proofs.FitSteps.{number_of_four}
use Rattle.mj_rules.proofs.TilesLess.{without, number_without, count_without}

-- A number at one of the seats.
abbrev share : ℕ → ℕ → ℕ → ℕ
share seat n other = cond (eqb seat other) n 0

of_one : (seat n : ℕ) → seat < 4 → share seat n 0 + share seat n 1 + share seat n 2 + share seat n 3 ≡ n
of_one zero n h = omega arith
of_one (suc zero) n h = omega arith
of_one (suc (suc zero)) n h = omega arith
of_one (suc (suc (suc zero))) n h = omega arith
of_one (suc (suc (suc (suc seat)))) n h = absurd (omega arith)

its_share : (seat n other : ℕ) → seat ≡ other → share seat n other ≡ n
its_share seat n other e = ap (λ (b : Bool). cond b n 0) (eq-eqb seat other e)

no_share : (seat n other : ℕ) → (seat ≡ other → ⊥) → share seat n other ≡ 0
no_share seat n other ne = ap (λ (b : Bool). cond b n 0) (ne_eqb seat other ne)

all_share : (seat n : ℕ) → share seat n 0 + share seat n 1 + share seat n 2 + share seat n 3 ≤ n
all_share zero n = omega arith
all_share (suc zero) n = omega arith
all_share (suc (suc zero)) n = omega arith
all_share (suc (suc (suc zero))) n = omega arith
all_share (suc (suc (suc (suc seat)))) n =
    none _ _ _ _ n (no_share (suc (suc (suc (suc seat)))) n 0 (λ e. omega (arith, e))) (no_share (suc (suc (suc (suc seat)))) n 1 (λ e. omega (arith, e)))
    (no_share (suc (suc (suc (suc seat)))) n 2 (λ e. omega (arith, e))) (no_share (suc (suc (suc (suc seat)))) n 3 (λ e. omega (arith, e)))
  where
    none : (a b c d n : ℕ) → a ≡ 0 → b ≡ 0 → c ≡ 0 → d ≡ 0 → a + b + c + d ≤ n
    none a b c d n e f g h = omega (arith, e, f, g, h)

-- The four seats together were given no more tiles than were brought in.
all_gain : (kind : ℕ) (d : Deed) → number_of (gains_by 0 d) kind + number_of (gains_by 1 d) kind + number_of (gains_by 2 d) kind + number_of (gains_by 3 d) kind ≤ number_of (brought_by d) kind
all_gain kind (StartHand round number honba deposits dealer indicator hands) =
    sum _ _ _ _ (sum_by-cons (λ t. cond (eqb (kind_of t) kind) 1 0) indicator (hands.first ++ hands.second ++ hands.third ++ hands.fourth))
    (number_of_four hands.first hands.second hands.third hands.fourth kind)
  where
    sum : (n m x y : ℕ) → n ≡ x + m → m ≡ y → y ≤ n
    sum n m x y e g = omega (arith, e, g)
all_gain kind (Draw who tile replacement) =
    sum _ _ _ _ _ _ _ _ _ (one (eqb who 0)) (one (eqb who 1)) (one (eqb who 2)) (one (eqb who 3)) (all_share who (number_of (tile ∷ []) kind))
  where
    one : (b : Bool) → number_of (cond b (tile ∷ []) []) kind ≡ cond b (number_of (tile ∷ []) kind) 0
    one true = refl
    one false = refl

    sum : (a b c d x y z w n : ℕ) → a ≡ x → b ≡ y → c ≡ z → d ≡ w → x + y + z + w ≤ n → a + b + c + d ≤ n
    sum a b c d x y z w n e f g h k = omega (arith, e, f, g, h, k)
all_gain kind other = omega arith

all_gained : (ds : List Deed) (kind : ℕ) →
    number_of (tiles_gained ds 0) kind + number_of (tiles_gained ds 1) kind + number_of (tiles_gained ds 2) kind + number_of (tiles_gained ds 3) kind ≤ number_of (flat_map brought_by ds) kind
all_gained [] kind = omega arith
all_gained (d ∷ ds) kind =
    sum _ _ _ _ _ _ _ _ _ _ _ _ _ _ _ (parts (gains_by 0)) (parts (gains_by 1)) (parts (gains_by 2)) (parts (gains_by 3)) (parts brought_by) (all_gain kind d) (all_gained ds kind)
  where
    parts : (f : Deed → List ℕ) → number_of (flat_map f (d ∷ ds)) kind ≡ number_of (f d) kind + number_of (flat_map f ds) kind
    parts f = ap (λ (xs : List ℕ). number_of xs kind) (flat_map-cons f d ds) ∙ number_of-append (f d) (flat_map f ds) kind

    sum : (n m k l o a b c d p q r s t u : ℕ) → n ≡ a + p → m ≡ b + q → k ≡ c + r → l ≡ d + s → o ≡ t + u → a + b + c + d ≤ t → p + q + r + s ≤ u → n + m + k + l ≤ o
    sum n m k l o a b c d p q r s t u e f g h i j z = omega (arith, e, f, g, h, i, j, z)

-- Three different seats, of which two have two each and the third has one.
record Overfull (g : ℕ → ℕ) (a b c : ℕ) : Type 0 where
  ab : a ≡ b → ⊥
  ac : a ≡ c → ⊥
  bc : b ≡ c → ⊥
  two : 2 ≤ g a
  also : 2 ≤ g b
  one : 1 ≤ g c

shares : (g : ℕ → ℕ) (a b c other : ℕ) → Overfull g a b c → share a 2 other + share b 2 other + share c 1 other ≤ g other
shares g a b c other o = elim (cases_eq a other) [
  | inl e ↦ sum _ _ _ 2 0 0 _ (its_share a 2 other e) (no_share b 2 other (λ f. o.ab (e ∙ sym f))) (no_share c 1 other (λ f. o.ac (e ∙ sym f))) (subst (λ s. 2 ≤ g s) e o.two)
  | inr na ↦ elim (cases_eq b other) [
    | inl e ↦ sum _ _ _ 0 2 0 _ (no_share a 2 other na) (its_share b 2 other e) (no_share c 1 other (λ f. o.bc (e ∙ sym f))) (subst (λ s. 2 ≤ g s) e o.also)
    | inr nb ↦ elim (cases_eq c other) [
      | inl e ↦ sum _ _ _ 0 0 1 _ (no_share a 2 other na) (no_share b 2 other nb) (its_share c 1 other e) (subst (λ s. 1 ≤ g s) e o.one)
      | inr nc ↦ sum _ _ _ 0 0 0 _ (no_share a 2 other na) (no_share b 2 other nb) (no_share c 1 other nc) (omega arith)
    ]
  ]
]
  where
    sum : (x y z p q r n : ℕ) → x ≡ p → y ≡ q → z ≡ r → p + q + r ≤ n → x + y + z ≤ n
    sum x y z p q r n e f h k = omega (arith, e, f, h, k)

too_many : (g : ℕ → ℕ) (a b c : ℕ) → a < 4 → b < 4 → c < 4 → Overfull g a b c → g 0 + g 1 + g 2 + g 3 ≤ 4 → ⊥
too_many g a b c sa sb sc o four =
    sum _ _ _ _ _ _ _ _ _ _ _ _ _ _ _ _ (of_one a 2 sa) (of_one b 2 sb) (of_one c 1 sc) (shares g a b c 0 o) (shares g a b c 1 o) (shares g a b c 2 o) (shares g a b c 3 o) four
  where
    sum : (a0 a1 a2 a3 b0 b1 b2 b3 c0 c1 c2 c3 g0 g1 g2 g3 : ℕ) → a0 + a1 + a2 + a3 ≡ 2 → b0 + b1 + b2 + b3 ≡ 2 → c0 + c1 + c2 + c3 ≡ 1 →
        a0 + b0 + c0 ≤ g0 → a1 + b1 + c1 ≤ g1 → a2 + b2 + c2 ≤ g2 → a3 + b3 + c3 ≤ g3
        → g0 + g1 + g2 + g3 ≤ 4 → ⊥
    sum a0 a1 a2 a3 b0 b1 b2 b3 c0 c1 c2 c3 g0 g1 g2 g3 ea eb ec h0 h1 h2 h3 four = omega (arith, ea, eb, ec, h0, h1, h2, h3, four)

-- So no two seats were given two tiles each of a kind of which a third was given one, where no more than four were brought in.
pub no_two_pairs : (ds : List Deed) (kind a b c : ℕ) → a < 4 → b < 4 → c < 4 → (a ≡ b → ⊥) → (a ≡ c → ⊥) → (b ≡ c → ⊥) →
    2 ≤ number_of (tiles_gained ds a) kind → 2 ≤ number_of (tiles_gained ds b) kind →
    1 ≤ number_of (tiles_gained ds c) kind → number_of (flat_map brought_by ds) kind ≤ 4 → ⊥
no_two_pairs ds kind a b c sa sb sc ab ac bc two also one four =
    too_many (λ seat. number_of (tiles_gained ds seat) kind) a b c sa sb sc (record { ab = ab; ac = ac; bc = bc; two = two; also = also; one = one }) (within _ _ (all_gained ds kind) four)
  where
    within : (n m : ℕ) → n ≤ m → m ≤ 4 → n ≤ 4
    within n m h k = omega (arith, h, k)

-- Two tiles of a kind that are named among those that are held were given.
pub two_given : (gained lost : List ℕ) (x y kind : ℕ) (rest : List ℕ) →
    list_any (λ face. nat_lt (number_in gained face - number_in lost face) (number_in (x ∷ y ∷ rest) face)) (x ∷ y ∷ rest) ≡ false →
    kind_of x ≡ kind → kind_of y ≡ kind →
    2 ≤ number_of gained kind
two_given gained lost x y kind rest h ex ey =
    let first = or_parts (nat_lt (number_in gained x - number_in lost x) (number_in (x ∷ y ∷ rest) x)) _ h in
    let second = or_parts (nat_lt (number_in gained y - number_in lost y) (number_in (x ∷ y ∷ rest) y)) _ first.1 in
    let some : 0 < number_in gained x = some_of _ _ _ _ _ (number-cons x x (y ∷ rest)) (ap {B = ℕ} (λ b. cond b 1 0) (eq-eqb x x refl)) (ltb-false _ _ first.0) in
    let more : 0 < number_in (without gained x) y =
    more_of _ _ _ _ _ _ _ _ (number-cons x y (y ∷ rest)) (number-cons y y rest) (ap {B = ℕ} (λ b. cond b 1 0) (eq-eqb y y refl)) (ltb-false _ _ second.0) (number_without gained x y) in
    both _ _ _ _ _ (count_without (λ t. eqb (kind_of t) kind) gained x some) (count_without (λ t. eqb (kind_of t) kind) (without gained x) y more)
    (ap {B = ℕ} (λ b. cond b 1 0) (eq-eqb (kind_of x) kind ex)) (ap {B = ℕ} (λ b. cond b 1 0) (eq-eqb (kind_of y) kind ey))
  where
    some_of : (g l k a n : ℕ) → k ≡ a + n → a ≡ 1 → k ≤ g - l → 0 < g
    some_of g l k a n e f h = omega (arith, e, f, h)

    more_of : (g l k a n b m w : ℕ) → k ≡ a + n → n ≡ b + m → b ≡ 1 → k ≤ g - l → w ≡ g - a → 0 < w
    more_of g l k a n b m w e f i h j = omega (arith, e, f, i, h, j)

    both : (n m k a b : ℕ) → n ≡ m + a → m ≡ k + b → a ≡ 1 → b ≡ 1 → 2 ≤ n
    both n m k a b e f g h = omega (arith, e, f, g, h)

-- A tile that was given is one of its kind.
pub one_given : (gained : List ℕ) (tile : ℕ) → 0 < number_in gained tile → 1 ≤ number_of gained (kind_of tile)
one_given gained tile h = some _ _ _ (count_without (λ t. eqb (kind_of t) (kind_of tile)) gained tile h) (ap {B = ℕ} (λ b. cond b 1 0) (eq-eqb (kind_of tile) (kind_of tile) refl))
  where
    some : (n m a : ℕ) → n ≡ m + a → a ≡ 1 → 1 ≤ n
    some n m a e f = omega (arith, e, f)
