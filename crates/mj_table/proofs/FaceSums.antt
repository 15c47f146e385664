-- How many tiles of a kind there are, by its faces.
use Rattle.std.proofs.Common.{◌≡◌, ℕ, zero, suc, ◌+◌, ◌-◌, ◌*◌, ◌<◌, ◌≤◌, ◌⊎◌, inl, inr, cond, eqb, List, [], ◌∷◌, get_or, replicate, refl, sym, ap, ◌∙◌, arith}
use Rattle.std.specs.List.{range_with_len}
use Rattle.std.proofs.lemmas.Bool.{cases_eq, cases_lt, eq-eqb, ne_eqb, lt-ltb}
use Rattle.std.proofs.lemmas.List.Concat.{flat_map-cons}
use Rattle.mj_tiles.specs.Faces.{kind_of, tile_order}
use Rattle.mj_tiles.specs.Counts.{number_of}
use Rattle.mj_tiles.proofs.CountSteps.{number_of-append}
use Rattle.mj_table.specs.Inner.Kept.{tiles_held}
use Rattle.mj_table.proofs.HeldKinds.{copies_of, number_of-replicate}

-- The sum over faces.
sums : (ℕ → ℕ) → List ℕ → ℕ
sums f [] = 0
sums f (x ∷ xs) = f x + sums f xs

-- Of a kind there are as many as of its faces together.
of_face : (ℕ → ℕ) → ℕ → ℕ → ℕ
of_face number kind face = cond (eqb (kind_of face) kind) (number face) 0

copies_sum : (number : ℕ → ℕ) (kind : ℕ) (faces : List ℕ) → number_of (copies_of number faces) kind ≡ sums (of_face number kind) faces
unfolding sums of_face
copies_sum number kind [] = refl
copies_sum number kind (x ∷ xs) =
    ap (λ (ts : List ℕ). number_of ts kind) (flat_map-cons (λ face. replicate (number face) face) x xs) ∙ number_of-append (replicate (number x) x) (copies_of number xs) kind
    ∙ both _ _ _ _ (number_of-replicate (number x) x kind) (copies_sum number kind xs)
  where
    both : (a b c d : ℕ) → a ≡ c → b ≡ d → a + b ≡ c + d
    both a b c d e f = omega (arith, e, f)

-- The plain faces, and the three red ones.
in_order : (f : ℕ → ℕ) → sums f tile_order ≡ sums f (range_with_len 0 34) + f 34 + f 35 + f 36
unfolding sums tile_order
in_order f = omega arith

plain_apart : (number : ℕ → ℕ) (kind from : ℕ) → from < 34 → (from ≡ kind → ⊥) → of_face number kind from ≡ 0
unfolding of_face
plain_apart number kind from low ne = ap {B = ℕ} (λ b. cond b (number from) 0) (ne_eqb (kind_of from) kind (λ e. ne (sym (ap (λ b. cond b from (4 + 9 * (from - 34))) (lt-ltb from 34 low)) ∙ e)))

plain_same : (number : ℕ → ℕ) (kind from : ℕ) → from < 34 → from ≡ kind → of_face number kind from ≡ number kind
unfolding of_face
plain_same number kind from low same =
    ap {B = ℕ} (λ b. cond b (number from) 0) (eq-eqb (kind_of from) kind (ap (λ b. cond b from (4 + 9 * (from - 34))) (lt-ltb from 34 low) ∙ same)) ∙ ap number same

-- Of the plain faces from one on the kind is one, where it is among them.
beyond : (number : ℕ → ℕ) (kind from n : ℕ) → from + n ≤ 34 → kind < from → sums (of_face number kind) (range_with_len from n) ≡ 0
unfolding sums
beyond number kind from zero few below = refl
beyond number kind from (suc n) few below =
    both _ _ (plain_apart number kind from (omega (arith, few)) (apart below)) (beyond number kind (from + 1) n (omega (arith, few)) (omega (arith, below)))
  where
    both : (a b : ℕ) → a ≡ 0 → b ≡ 0 → a + b ≡ 0
    both a b e f = omega (arith, e, f)

    apart : kind < from → from ≡ kind → ⊥
    apart h e = omega (arith, h, e)

pub past_one : (i kind : ℕ) → (i ≡ kind → ⊥) → i ≤ kind → i + 1 ≤ kind
past_one i kind ne h = elim (cases_lt i kind) [
  | inl k ↦ omega (arith, k)
  | inr k ↦ absurd (ne (omega (arith, h, k)))
]

among : (number : ℕ → ℕ) (kind from n : ℕ) → from + n ≤ 34 → from ≤ kind → kind < from + n → sums (of_face number kind) (range_with_len from n) ≡ number kind
unfolding sums
among number kind from zero few low high = absurd (omega (arith, low, high))
among number kind from (suc n) few low high = by_first (cases_eq from kind) (λ ne. among number kind (from + 1) n (omega (arith, few)) (past_one from kind ne low) (omega (arith, high)))
  where
    first : (a b k : ℕ) → a ≡ k → b ≡ 0 → a + b ≡ k
    first a b k e f = omega (arith, e, f)

    later : (a b k : ℕ) → a ≡ 0 → b ≡ k → a + b ≡ k
    later a b k e f = omega (arith, e, f)

    by_first : (from ≡ kind) ⊎ (from ≡ kind → ⊥) → ((from ≡ kind → ⊥) → sums (of_face number kind) (range_with_len (from + 1) n) ≡ number kind) →
        of_face number kind from + sums (of_face number kind) (range_with_len (from + 1) n) ≡ number kind
    by_first (inl same) more = first _ _ _ (plain_same number kind from (omega (arith, few)) same) (beyond number kind (from + 1) n (omega (arith, few)) (omega (arith, same)))
    by_first (inr ne) more = later _ _ _ (plain_apart number kind from (omega (arith, few)) ne) (more ne)

-- How many tiles of a kind there are: those of its plain face, and its red five where it has one.
pub kind_sum : (held : List ℕ) (kind : ℕ) → kind < 34 →
    number_of (tiles_held held) kind ≡ get_or held kind 0 + cond (eqb 4 kind) (get_or held 34 0) 0 + cond (eqb 13 kind) (get_or held 35 0) 0 + cond (eqb 22 kind) (get_or held 36 0) 0
unfolding of_face
kind_sum held kind low =
    copies_sum (λ face. get_or held face 0) kind tile_order ∙ in_order (of_face (λ face. get_or held face 0) kind)
    ∙ ap (λ n. n + cond (eqb 4 kind) (get_or held 34 0) 0 + cond (eqb 13 kind) (get_or held 35 0) 0 + cond (eqb 22 kind) (get_or held 36 0) 0)
    (among (λ face. get_or held face 0) kind 0 34 (omega arith) (omega arith) (omega (arith, low)))
