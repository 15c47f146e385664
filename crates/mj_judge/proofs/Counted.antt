-- How many tiles of a kind are held, by faces and by the counts of kinds.
use Rattle.std.proofs.Common.{◌≡◌, ℕ, zero, suc, ◌+◌, ◌-◌, ◌*◌, ◌<◌, ◌≤◌, ◌⊎◌, inl, inr, Bool, true, false, cond, eqb, List, [], ◌∷◌, get_or, replicate, refl, sym, ap, subst, ◌∙◌, arith}
use Rattle.std.specs.Prelude.{Option, Some, None, flat_map}
use Rattle.std.specs.List.{range_with_len}
use Rattle.std.proofs.lemmas.Bool.{cases_eq, cases_lt, eq-eqb, ne_eqb, lt-ltb, false≢true}
use Rattle.std.proofs.lemmas.List.Concat.{flat_map-cons}
use Rattle.std.proofs.lemmas.List.Folds.{sum_by-replicate}
use Rattle.mj_tiles.specs.Faces.{kind_of, less, tile_order}
use Rattle.mj_tiles.specs.Counts.{number_of, kind_counts}
use Rattle.mj_tiles.proofs.CountSteps.{get_or-kind_counts, number_of-append}
use Rattle.mj_deeds.specs.declared.deed.Deed.{Deed}
use Rattle.mj_deeds.specs.Facts.{concealed_tiles}
use Rattle.mj_deeds.specs.Hand.{hand}
use Rattle.mj_rules.specs.View.{SeatView, view_of, held_count, concealed}
use Rattle.mj_judge.specs.Inner.Tried.{red_of, red_held, held_with}

-- The sum over faces.
sums : (ℕ → ℕ) → List ℕ → ℕ
sums f [] = 0
sums f (x ∷ xs) = f x + sums f xs

-- Of a kind there are as many as of its faces together.
of_face : (ℕ → ℕ) → ℕ → ℕ → ℕ
of_face number kind face = cond (eqb (kind_of face) kind) (number face) 0

copies_sum : (number : ℕ → ℕ) (kind : ℕ) (faces : List ℕ) → number_of (flat_map (λ face. replicate (number face) face) faces) kind ≡ sums (of_face number kind) faces
unfolding sums of_face
copies_sum number kind [] = refl
copies_sum number kind (x ∷ xs) =
    ap (λ (ts : List ℕ). number_of ts kind) (flat_map-cons (λ face. replicate (number face) face) x xs)
    ∙ number_of-append (replicate (number x) x) (flat_map (λ face. replicate (number face) face) xs) kind
    ∙ (λ i. (sum_by-replicate (λ tile. cond (eqb (kind_of tile) kind) 1 0) (number x) x ∙ times (number x) (eqb (kind_of x) kind)) i + copies_sum number kind xs i)
  where
    times : (n : ℕ) (b : Bool) → n * cond b 1 0 ≡ cond b n 0
    times n true = omega arith
    times n false = omega arith

-- The plain faces, and the three red ones.
in_order : (f : ℕ → ℕ) → sums f tile_order ≡ sums f (range_with_len 0 34) + f 34 + f 35 + f 36
unfolding sums tile_order
in_order f = omega arith

among : (f : ℕ → ℕ) (kind from n : ℕ) → from ≤ kind → kind < from + n → f kind ≤ sums f (range_with_len from n)
unfolding sums
among f kind from zero low high = absurd (omega (arith, low, high))
among f kind from (suc n) low high = by_first (cases_eq from kind) (λ past. among f kind (from + 1) n past (omega (arith, high)))
  where
    first : (a b k : ℕ) → a ≡ k → k ≤ a + b
    first a b k e = omega (arith, e)

    later : (a b k : ℕ) → k ≤ b → k ≤ a + b
    later a b k h = omega (arith, h)

    past : (from ≡ kind → ⊥) → (from < kind) ⊎ (kind ≤ from) → from + 1 ≤ kind
    past ne (inl k) = omega (arith, k)
    past ne (inr k) = absurd (ne (omega (arith, low, k)))

    by_first : (from ≡ kind) ⊎ (from ≡ kind → ⊥) → (from + 1 ≤ kind → f kind ≤ sums f (range_with_len (from + 1) n)) → f kind ≤ f from + sums f (range_with_len (from + 1) n)
    by_first (inl same) more = first _ _ _ (ap f same)
    by_first (inr ne) more = later _ _ _ (more (past ne (cases_lt from kind)))

-- Of a kind there are those of its plain face at least, and of its red five.
sum_of : (view : SeatView) (kind : ℕ) → kind < 34 →
    held_count view kind + of_face (held_count view) kind 34 + of_face (held_count view) kind 35 + of_face (held_count view) kind 36 ≤ number_of (concealed view) kind
unfolding less of_face
sum_of view kind low =
    more _ _ _ _ _ _ _ (copies_sum (held_count view) kind tile_order) (in_order (of_face (held_count view) kind)) (among (of_face (held_count view) kind) kind 0 34 (omega arith) (omega (arith, low)))
    (ap {B = ℕ} (λ b. cond b (held_count view kind) 0) (eq-eqb (kind_of kind) kind (ap (λ b. cond b kind (4 + 9 * (kind - 34))) (lt-ltb kind 34 low))))
  where
    more : (n s p a x y z : ℕ) {own : ℕ} → n ≡ s → s ≡ p + x + y + z → a ≤ p → a ≡ own → own + x + y + z ≤ n
    more n s p a x y z e f h g = omega (arith, e, f, h, g)

-- The red five of a kind, where it is one of the three fives.
abbrev red_by : Bool → Bool → Bool → Option ℕ
red_by a b c = cond a (Some 34) (cond b (Some 35) (cond c (Some 36) None))

-- The counts say of no kind fewer than are held.
pub counted : (view : SeatView) (kind : ℕ) → kind < 34 → held_with view kind (red_of kind) ≤ get_or (kind_counts (concealed view)) kind 0
unfolding of_face
counted view kind low = within _ _ _ (get_or-kind_counts (concealed view) kind low) (at (cases_eq kind 4) (cases_eq kind 13) (cases_eq kind 22))
  where
    within : (a b c : ℕ) → a ≡ b → c ≤ b → c ≤ a
    within a b c e h = omega (arith, e, h)

    Enough : ℕ → Type 0
    Enough k = held_with view k (red_of k) ≤ number_of (concealed view) k

    two : (a b c d n : ℕ) → a + b + c + d ≤ n → a + b ≤ n
    two a b c d n h = omega (arith, h)

    three : (a b c d n : ℕ) → a + b + c + d ≤ n → a + c ≤ n
    three a b c d n h = omega (arith, h)

    four : (a b c d n : ℕ) → a + b + c + d ≤ n → a + d ≤ n
    four a b c d n h = omega (arith, h)

    first : Enough 4
    first = two _ _ _ _ _ (sum_of view 4 (omega arith))

    second : Enough 13
    second = three _ _ _ _ _ (sum_of view 13 (omega arith))

    third : Enough 22
    third = four _ _ _ _ _ (sum_of view 22 (omega arith))

    no_red : (a b c : Bool) → a ≡ false → b ≡ false → c ≡ false → red_by a b c ≡ None
    no_red true b c e f g = absurd (false≢true (sym e))
    no_red false true c e f g = absurd (false≢true (sym f))
    no_red false false true e f g = absurd (false≢true (sym g))
    no_red false false false e f g = refl

    plain : (a b c d n : ℕ) → a + b + c + d ≤ n → a + 0 ≤ n
    plain a b c d n h = omega (arith, h)

    at : (kind ≡ 4) ⊎ (kind ≡ 4 → ⊥) → (kind ≡ 13) ⊎ (kind ≡ 13 → ⊥) → (kind ≡ 22) ⊎ (kind ≡ 22 → ⊥) → Enough kind
    at (inl e) y z = subst Enough (sym e) first
    at (inr d) (inl e) z = subst Enough (sym e) second
    at (inr d) (inr f) (inl e) = subst Enough (sym e) third
    at (inr d) (inr f) (inr g) =
        subst (λ red. held_count view kind + red_held view red ≤ number_of (concealed view) kind)
        (sym (no_red (eqb kind 4) (eqb kind 13) (eqb kind 22) (ne_eqb kind 4 d) (ne_eqb kind 13 f) (ne_eqb kind 22 g)))
        (plain _ _ _ _ _ (sum_of view kind low))

-- Where no number is above three, fewer than four of each kind are held.
pub few_of_each : (ds : List Deed) (seat : ℕ) (counts : List ℕ) (most : ℕ) → counts ≡ kind_counts (concealed_tiles (hand ds) seat) → most ≤ 3 →
    ((place : ℕ) → place < 34 → get_or counts place 0 ≤ most) → (kind : ℕ) → kind < 34 → held_with (view_of ds seat) kind (red_of kind) < 4
unfolding view_of
few_of_each ds seat counts most is few each kind low = no _ _ _ (counted (view_of ds seat) kind low) (ap (λ (ns : List ℕ). get_or ns kind 0) is) (each kind low)
  where
    no : (a b c : ℕ) → a ≤ b → c ≡ b → c ≤ most → a < 4
    no a b c h e g = omega (arith, h, e, g, few)
