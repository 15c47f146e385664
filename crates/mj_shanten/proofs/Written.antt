-- Numbers written one kind after another.
use Rattle.std.proofs.Common.{ℕ, ◌≡◌, ◌≢◌, ◌<◌, ◌≤◌, ◌+◌, List, length, get_or, set, take, sym, ◌∙◌, ap, arith, ◌⊎◌, inl, inr}
use Rattle.std.proofs.lemmas.Bool.{cases_eq}
use Rattle.std.proofs.lemmas.List.{ext_get_or, get_or-set_same, get_or-set_other, get_or-take, length-take-le, length-set}
use Rattle.mj_shanten.specs.Suits.{with_two}
use Rattle.mj_shanten.proofs.Pairs.{two_more}

-- the kinds written so far, and none of the others
pub record Written (f : ℕ → ℕ) (kind : ℕ) (target : List ℕ) : Type 0 where
  pub size : length target ≡ 36
  pub before : (k : ℕ) → k < kind → get_or target k 0 ≡ f k
  pub later : (k : ℕ) → kind ≤ k → get_or target k 0 ≡ 0

pub written_more : (f : ℕ → ℕ) (kind y : ℕ) (target : List ℕ) → kind < 34 → y ≡ f kind → Written f kind target → Written f (kind + 1) (set target kind y)
written_more f kind y target inside is h = record {
  size = length-set target kind y ∙ h.size;
  before = λ k few. here k few (cases_eq k kind);
  later = λ k past. (let apart : k ≢ kind = omega arith in get_or-set_other target kind k y 0 apart ∙ h.later k (omega arith));
}
  where
    here : (k : ℕ) → k < kind + 1 → (k ≡ kind) ⊎ (k ≢ kind) → get_or (set target kind y) k 0 ≡ f k
    here k few (inl same) = ap (λ j. get_or (set target kind y) j 0) same ∙ get_or-set_same target kind y 0 (let s = h.size in omega arith) ∙ is ∙ ap f (sym same)
    here k few (inr apart) = get_or-set_other target kind k y 0 apart ∙ h.before k (omega arith)

pub written_all : (f : ℕ → ℕ) (counts : List ℕ) (kind : ℕ) (target : List ℕ) → kind ≡ 34 → length counts ≡ 34 → ((k : ℕ) → k < 34 → get_or counts k 0 ≡ f k) → Written f kind target
    → target ≡ with_two counts
written_all f counts kind target last size each h =
    two_more target counts h.size
    (ext_get_or 0 (take 34 target) counts (front ∙ sym size)
    (λ k inside. (let low : k < 34 = (let f = front in omega arith) in get_or-take 34 target k 0 low ∙ h.before k (omega arith) ∙ sym (each k low))))
    (λ k past. h.later k (omega arith))
  where
    front : length (take 34 target) ≡ 34
    front = length-take-le 34 target (let s = h.size in omega arith)

-- the beginning of a longer list
pub copied_more : (wide numbers : List ℕ) (kind : ℕ) → kind < length numbers → ((k : ℕ) → k < kind → get_or numbers k 0 ≡ get_or wide k 0) → (k : ℕ) → k < kind + 1
    → get_or (set numbers kind (get_or wide kind 0)) k 0 ≡ get_or wide k 0
copied_more wide numbers kind inside before k few = here (cases_eq k kind)
  where
    here : (k ≡ kind) ⊎ (k ≢ kind) → get_or (set numbers kind (get_or wide kind 0)) k 0 ≡ get_or wide k 0
    here (inl same) = ap (λ j. get_or (set numbers kind (get_or wide kind 0)) j 0) same ∙ get_or-set_same numbers kind (get_or wide kind 0) 0 inside ∙ ap (λ j. get_or wide j 0) (sym same)
    here (inr apart) = get_or-set_other numbers kind k (get_or wide kind 0) 0 apart ∙ before k (omega arith)

pub copied_all : (wide numbers : List ℕ) (kind : ℕ) → length numbers ≡ 34 → length wide ≡ 36 → 34 ≤ kind → ((k : ℕ) → k < kind → get_or numbers k 0 ≡ get_or wide k 0) → numbers ≡ take 34 wide
copied_all wide numbers kind a b last each =
    ext_get_or 0 numbers (take 34 wide) (a ∙ sym (length-take-le 34 wide (omega arith))) (λ k inside. each k (omega arith) ∙ sym (get_or-take 34 wide k 0 (omega arith)))
