-- Tiles less others: how many are left, and of what.
use Rattle.std.proofs.Common.{◌≡◌, ℕ, suc, ◌+◌, ◌-◌, ◌*◌, ◌<◌, ◌≤◌, ◌⊎◌, inl, inr, Bool, true, false, cond, eqb, List, [], ◌∷◌, length, refl, sym, ap, ◌∙◌, arith}
use Rattle.std.specs.Prelude.{flat_map, replicate, count_by}
use Rattle.std.proofs.lemmas.Bool.{cases_eq, ne_eqb, eq-eqb}
use Rattle.std.proofs.lemmas.List.Folds.{sum_by-replicate}
use Rattle.std.proofs.lemmas.List.Sums.{count_by-le-length, sum_by-append, sum_by-cons}
use Rattle.mj_tiles.specs.Faces.{number_in, less, tile_order}
use Rattle.mj_wall.proofs.TileOrder.{number-cons, count_by-less}

-- A list without the first of a face.
abbrev pub without : List ℕ → ℕ → List ℕ
without [] face = []
without (x ∷ xs) face = cond (eqb x face) xs (x ∷ without xs face)

pub number_without : (xs : List ℕ) (y face : ℕ) → number_in (without xs y) face ≡ number_in xs face - cond (eqb y face) 1 0
number_without [] y face = either (eqb y face)
  where
    either : (b : Bool) → 0 ≡ 0 - cond b 1 0
    either true = refl
    either false = refl
number_without (x ∷ xs) y face = elim (cases_eq x y) [
  | inl e ↦
      ap (λ b. number_in (cond b xs (x ∷ without xs y)) face) (eq-eqb x y e)
      ∙ first (cond (eqb x face) 1 0) (cond (eqb y face) 1 0) _ _ (number-cons x face xs) (ap (λ t. cond (eqb t face) 1 0) e)
  | inr ne ↦
      ap (λ b. number_in (cond b xs (x ∷ without xs y)) face) (ne_eqb x y ne)
      ∙ other (cond (eqb x face) 1 0) (cond (eqb y face) 1 0) _ _ _ _ (number-cons x face xs) (number-cons x face (without xs y)) (number_without xs y face) (apart (cases_eq y face) ne)
]
  where
    first : (a b n m : ℕ) → m ≡ a + n → a ≡ b → n ≡ m - b
    first a b n m e f = omega (arith, e, f)

    other : (a b n m k l : ℕ) → k ≡ a + n → m ≡ a + l → l ≡ n - b → (a ≡ 0) ⊎ (b ≡ 0) → m ≡ k - b
    other a b n m k l e f h (inl none) = omega (arith, e, f, h, none)
    other a b n m k l e f h (inr none) = omega (arith, e, f, h, none)

    apart : (y ≡ face) ⊎ (y ≡ face → ⊥) → (x ≡ y → ⊥) → (◌≡◌ {A = ℕ} (cond (eqb x face) 1 0) 0) ⊎ (◌≡◌ {A = ℕ} (cond (eqb y face) 1 0) 0)
    apart (inl e) ne = inl (ap {B = ℕ} (λ b. cond b 1 0) (ne_eqb x face (λ h. ne (h ∙ sym e))))
    apart (inr another) ne = inr (ap {B = ℕ} (λ b. cond b 1 0) (ne_eqb y face another))

-- All of a list pass what is always true.
pub count_all : (zs : List ℕ) → count_by (λ t. true) zs ≡ length zs
count_all [] = refl
count_all (z ∷ zs) = more _ _ _ (sum_by-cons (λ x. cond true 1 0) z zs) (count_all zs)
  where
    more : (k n m : ℕ) → k ≡ 1 + n → n ≡ m → k ≡ suc m
    more k n m e f = omega (arith, e, f)

-- So many fewer pass a test.
pub count_without : (p : ℕ → Bool) (xs : List ℕ) (y : ℕ) → 0 < number_in xs y → count_by p xs ≡ count_by p (without xs y) + cond (p y) 1 0
count_without p [] y h = absurd (none h)
  where
    none : 0 < 0 → ⊥
    none h = omega arith
count_without p (x ∷ xs) y h = elim (cases_eq x y) [
  | inl e ↦
      one _ _ _ (cond (p x) 1 0) _ (sum_by-cons (λ t. cond (p t) 1 0) x xs) (ap (λ t. cond (p t) 1 0) e)
      (ap (λ b. count_by p (cond b xs (x ∷ without xs y))) (eq-eqb x y e))
  | inr ne ↦
      more _ _ _ _ (cond (p x) 1 0) (cond (p y) 1 0) (sum_by-cons (λ t. cond (p t) 1 0) x xs)
      (ap (λ b. count_by p (cond b xs (x ∷ without xs y))) (ne_eqb x y ne) ∙ sum_by-cons (λ t. cond (p t) 1 0) x (without xs y))
      (count_without p xs y (rest _ _ _ (number-cons x y xs) (ap {B = ℕ} (λ b. cond b 1 0) (ne_eqb x y ne)) h))
]
  where
    one : (k n c a b : ℕ) → k ≡ a + n → a ≡ b → c ≡ n → k ≡ c + b
    one k n c a b e f g = omega (arith, e, f, g)

    more : (k n c m a b : ℕ) → k ≡ a + n → c ≡ a + m → n ≡ m + b → k ≡ c + b
    more k n c m a b e f g = omega (arith, e, f, g)

    rest : (k a n : ℕ) → k ≡ a + n → a ≡ 0 → 0 < k → 0 < n
    rest k a n e f h = omega (arith, e, f, h)

pub length_without : (xs : List ℕ) (y : ℕ) → 0 < number_in xs y → length xs ≡ length (without xs y) + 1
length_without xs y h = sym (count_all xs) ∙ count_without (λ t. true) xs y h ∙ ap (λ n. n + 1) (count_all (without xs y))

-- What is left does not depend on a tile that stands in both lists.
pub less_both : (xs ys : List ℕ) (y : ℕ) → less xs (y ∷ ys) ≡ less (without xs y) ys
unfolding less
less_both xs ys y = ap {B = List ℕ} (λ (f : ℕ → List ℕ). flat_map f tile_order) (λ i face. replicate (each face i) face)
  where
    three : (n k a m l : ℕ) → k ≡ a + m → l ≡ n - a → n - k ≡ l - m
    three n k a m l e f = omega (arith, e, f)

    each : (face : ℕ) → number_in xs face - number_in (y ∷ ys) face ≡ number_in (without xs y) face - number_in ys face
    each face = three (number_in xs face) _ (cond (eqb y face) 1 0) (number_in ys face) _ (number-cons y face ys) (number_without xs y face)

-- How often a face is left, at most.
number_less : (xs ys : List ℕ) (face : ℕ) → number_in (less xs ys) face ≤ number_in xs face - number_in ys face
number_less xs [] face = none _ _ (count_by-less (λ t. eqb t face) xs [])
  where
    none : (n m : ℕ) → n ≤ m → n ≤ m - 0
    none n m h = omega (arith, h)
number_less xs (y ∷ ys) face =
    next _ _ _ _ _ _ _ (ap (λ (zs : List ℕ). number_in zs face) (less_both xs ys y)) (number_less (without xs y) ys face) (number_without xs y face) (number-cons y face ys)
  where
    next : (n m w x k a l : ℕ) → n ≡ m → m ≤ w - l → w ≡ x - a → k ≡ a + l → n ≤ x - k
    next n m w x k a l e h f g = omega (arith, e, h, f, g)

-- Copies of faces, and no fewer of each: no fewer pass a test.
count_copies : (p : ℕ → Bool) (few many : ℕ → ℕ) → ((face : ℕ) → few face ≤ many face) → (faces : List ℕ) →
    count_by p (flat_map (λ face. replicate (few face) face) faces) ≤ count_by p (flat_map (λ face. replicate (many face) face) faces)
count_copies p few many h [] = omega arith
count_copies p few many h (face ∷ faces) = sum _ _ _ _ _ _ (parts few) (parts many) (times (few face) (many face) (p face) (h face)) (count_copies p few many h faces)
  where
    parts : (n : ℕ → ℕ) → count_by p (flat_map (λ f. replicate (n f) f) (face ∷ faces)) ≡ n face * cond (p face) 1 0 + count_by p (flat_map (λ f. replicate (n f) f) faces)
    parts n =
        sum_by-append (λ t. cond (p t) 1 0) (replicate (n face) face) (flat_map (λ f. replicate (n f) f) faces)
        ∙ ap (λ k. k + count_by p (flat_map (λ f. replicate (n f) f) faces)) (sum_by-replicate (λ t. cond (p t) 1 0) (n face) face)

    times : (n m : ℕ) (b : Bool) → n ≤ m → n * cond b 1 0 ≤ m * cond b 1 0
    times n m true k = omega (arith, k)
    times n m false k = omega (arith, k)

    sum : (n m a b c e : ℕ) → n ≡ a + c → m ≡ b + e → a ≤ b → c ≤ e → n ≤ m
    sum n m a b c e f g k l = omega (arith, f, g, k, l)

-- Of tiles less some and then less one no more are left than less all of these together.
pub count_less_one : (p : ℕ → Bool) (xs ys : List ℕ) (y : ℕ) → count_by p (less (less xs ys) (y ∷ [])) ≤ count_by p (less xs (y ∷ ys))
unfolding less
count_less_one p xs ys y = count_copies p (λ face. number_in (less xs ys) face - number_in (y ∷ []) face) (λ face. number_in xs face - number_in (y ∷ ys) face) each tile_order
  where
    fewer : (n x l a b c : ℕ) → n ≤ x - l → b ≡ a + 0 → c ≡ a + l → n - b ≤ x - c
    fewer n x l a b c h e f = omega (arith, h, e, f)

    each : (face : ℕ) → number_in (less xs ys) face - number_in (y ∷ []) face ≤ number_in xs face - number_in (y ∷ ys) face
    each face = fewer _ _ _ _ _ _ (number_less xs ys face) (number-cons y face []) (number-cons y face ys)

-- The one that is put down last was among them.
pub count_but_one : (p : ℕ → Bool) (xs ys : List ℕ) (y : ℕ) → 0 < number_in xs y → count_by p (less (less xs ys) (y ∷ [])) + cond (p y) 1 0 ≤ count_by p xs
count_but_one p xs ys y h =
    chain _ _ _ _ _ _ (count_less_one p xs ys y) (ap (count_by p) (less_both xs ys y)) (count_by-less p (without xs y) ys) (count_without p xs y h)
  where
    chain : (a b c d x e : ℕ) → a ≤ b → b ≡ c → c ≤ d → e ≡ d + x → a + x ≤ e
    chain a b c d x e f g h k = omega (arith, f, g, h, k)

-- Of tiles less others that stand among them so many are left, at most.
pub length_less : (xs ys : List ℕ) → ((face : ℕ) → number_in ys face ≤ number_in xs face) → length (less xs ys) + length ys ≤ length xs
length_less xs [] h = end _ _ _ (sym (count_all (less xs []))) (count_by-less (λ t. true) xs []) (count_by-le-length (λ t. true) xs)
  where
    end : (a b c : ℕ) → length (less xs []) ≡ a → a ≤ b → b ≤ c → length (less xs []) + 0 ≤ c
    end a b c e h k = omega (arith, e, h, k)
length_less xs (y ∷ ys) h =
    next _ _ _ _ _ (ap length (less_both xs ys y))
    (length_less (without xs y) ys (λ face. fewer (cond (eqb y face) 1 0) _ _ _ _ (number-cons y face ys) (number_without xs y face) (h face)))
    (length_without xs y (some _ _ _ _ (number-cons y y ys) (ap {B = ℕ} (λ b. cond b 1 0) (eq-eqb y y refl)) (h y)))
  where
    fewer : (a k n m l : ℕ) → k ≡ a + n → l ≡ m - a → k ≤ m → n ≤ l
    fewer a k n m l e f h = omega (arith, e, f, h)

    some : (k a n m : ℕ) → k ≡ a + n → a ≡ 1 → k ≤ m → 0 < m
    some k a n m e f h = omega (arith, e, f, h)

    next : (a b n x z : ℕ) → a ≡ b → b + n ≤ x → z ≡ x + 1 → a + suc n ≤ z
    next a b n x z e h k = omega (arith, e, h, k)
