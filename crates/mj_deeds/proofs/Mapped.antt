-- What stays the same of a list that is changed item by item: what no item's change is seen in.
use Rattle.std.proofs.Common.{◌≡◌, ℕ, zero, suc, ◌+◌, ◌-◌, Bool, true, false, cond, ◌||◌, List, [], ◌∷◌, ◌++◌, length, map, refl, ap, sym, ◌∙◌}
use Rattle.std.specs.Prelude.{Option, Some, None, option_map, option_and_then, fold, flat_map, filter, count_by, take, slice_get}
use Rattle.std.specs.List.{list_any}
use Rattle.std.proofs.lemmas.Option.{slice_get-map}
use Rattle.std.proofs.lemmas.List.{length-map}
use Rattle.mj_deeds.specs.Points.{behind_last}
use Rattle.mj_deeds.specs.Riichi.{before_first, behind_first}

pub flat_map-kept : {A B : Type 0} (f : A → List B) (t : A → A) → ((x : A) → f x ≡ f (t x)) → (xs : List A) → flat_map f xs ≡ flat_map f (map t xs)
flat_map-kept f t same [] = refl
flat_map-kept {B = B} f t same (x ∷ xs) = ap (λ (ys : List B). ys ++ flat_map f xs) (same x) ∙ ap (λ (ys : List B). f (t x) ++ ys) (flat_map-kept f t same xs)

pub fold-kept : {A B : Type 0} (step : B → A → B) (t : A → A) → ((b : B) (x : A) → step b x ≡ step b (t x)) → (b : B) (xs : List A) → fold step b xs ≡ fold step b (map t xs)
fold-kept step t same b [] = refl
fold-kept {B = B} step t same b (x ∷ xs) = ap (λ (c : B). fold step c xs) (same b x) ∙ fold-kept step t same (step b (t x)) xs

pub count-kept : {A : Type 0} (p : A → Bool) (t : A → A) → ((x : A) → p x ≡ p (t x)) → (xs : List A) → count_by p xs ≡ count_by p (map t xs)
count-kept {A = A} p t same xs = fold-kept (λ (n : ℕ) (x : A). n + cond (p x) 1 0) t (λ n x. ap (λ (b : Bool). n + cond b 1 0) (same x)) 0 xs

pub any-kept : {A : Type 0} (p : A → Bool) (t : A → A) → ((x : A) → p x ≡ p (t x)) → (xs : List A) → list_any p xs ≡ list_any p (map t xs)
any-kept p t same [] = refl
any-kept p t same (x ∷ xs) = ap (λ (b : Bool). b || list_any p xs) (same x) ∙ ap (λ (b : Bool). p (t x) || b) (any-kept p t same xs)

-- What an option gives.
pub option-kept : {A B : Type 0} (f : A → Option B) (t : A → A) → ((x : A) → f x ≡ f (t x)) → (o : Option A) → option_and_then f o ≡ option_and_then f (option_map t o)
option-kept f t same None = refl
option-kept f t same (Some x) = same x

-- A part that is chosen by a test stands at the same places.
pub filter-mapped : {A : Type 0} (p : A → Bool) (t : A → A) → ((x : A) → p x ≡ p (t x)) → (xs : List A) → map t (filter p xs) ≡ filter p (map t xs)
filter-mapped p t same [] = refl
filter-mapped {A = A} p t same (x ∷ xs) =
    by_test (p x) (filter p xs)
    ∙ ap (λ (b : Bool). cond b (t x ∷ map t (filter p xs)) (map t (filter p xs))) (same x)
    ∙ ap (λ (ys : List A). cond (p (t x)) (t x ∷ ys) ys) (filter-mapped p t same xs)
  where
    by_test : (b : Bool) (ys : List A) → map t (cond b (x ∷ ys) ys) ≡ cond b (t x ∷ map t ys) (map t ys)
    by_test true ys = refl
    by_test false ys = refl

pub before_first-mapped : {A : Type 0} (p : A → Bool) (t : A → A) → ((x : A) → p x ≡ p (t x)) → (xs : List A) → map t (before_first p xs) ≡ before_first p (map t xs)
before_first-mapped p t same [] = refl
before_first-mapped {A = A} p t same (x ∷ xs) =
    by_test (p x) (before_first p xs)
    ∙ ap (λ (b : Bool). cond b [] (t x ∷ map t (before_first p xs))) (same x)
    ∙ ap (λ (ys : List A). cond (p (t x)) [] (t x ∷ ys)) (before_first-mapped p t same xs)
  where
    by_test : (b : Bool) (ys : List A) → map t (cond b [] (x ∷ ys)) ≡ cond b [] (t x ∷ map t ys)
    by_test true ys = refl
    by_test false ys = refl

pub behind_first-mapped : {A : Type 0} (p : A → Bool) (t : A → A) → ((x : A) → p x ≡ p (t x)) → (xs : List A) → map t (behind_first p xs) ≡ behind_first p (map t xs)
behind_first-mapped p t same [] = refl
behind_first-mapped {A = A} p t same (x ∷ xs) =
    by_test (p x) (behind_first p xs)
    ∙ ap (λ (b : Bool). cond b (map t xs) (map t (behind_first p xs))) (same x)
    ∙ ap (λ (ys : List A). cond (p (t x)) (map t xs) ys) (behind_first-mapped p t same xs)
  where
    by_test : (b : Bool) (ys : List A) → map t (cond b xs ys) ≡ cond b (map t xs) (map t ys)
    by_test true ys = refl
    by_test false ys = refl

pub behind_last-mapped : {A : Type 0} (p : A → Bool) (t : A → A) → ((x : A) → p x ≡ p (t x)) → (xs : List A) → map t (behind_last p xs) ≡ behind_last p (map t xs)
behind_last-mapped p t same [] = refl
behind_last-mapped {A = A} p t same (x ∷ xs) =
    by_test (list_any p (x ∷ xs)) (behind_last p xs)
    ∙ ap (λ (b : Bool). cond b (map t (behind_last p xs)) (t x ∷ map t xs)) (any-kept p t same (x ∷ xs))
    ∙ ap (λ (ys : List A). cond (list_any p (t x ∷ map t xs)) ys (t x ∷ map t xs)) (behind_last-mapped p t same xs)
  where
    by_test : (b : Bool) (ys : List A) → map t (cond b ys (x ∷ xs)) ≡ cond b (map t ys) (t x ∷ map t xs)
    by_test true ys = refl
    by_test false ys = refl

pub take-mapped : {A : Type 0} (t : A → A) (n : ℕ) (xs : List A) → map t (take n xs) ≡ take n (map t xs)
take-mapped t zero xs = refl
take-mapped t (suc n) [] = refl
take-mapped {A = A} t (suc n) (x ∷ xs) = ap (λ (ys : List A). t x ∷ ys) (take-mapped t n xs)

-- The last of a list, and what stands before it.
pub last-mapped : {A : Type 0} (t : A → A) (xs : List A) → slice_get (map t xs) (length (map t xs) - 1) ≡ option_map t (slice_get xs (length xs - 1))
last-mapped t xs = ap (λ (n : ℕ). slice_get (map t xs) (n - 1)) (length-map xs t) ∙ slice_get-map t xs (length xs - 1)

pub front-mapped : {A : Type 0} (t : A → A) (xs : List A) → map t (take (length xs - 1) xs) ≡ take (length (map t xs) - 1) (map t xs)
front-mapped t xs = take-mapped t (length xs - 1) xs ∙ ap (λ (n : ℕ). take (n - 1) (map t xs)) (sym (length-map xs t))
