-- Numbers in places, one of which is one more, 255 at most; and how many tiles of a kind there are, with one more.
use Rattle.std.proofs.Common.{◌≡◌, ℕ, ◌+◌, ◌<◌, ◌≤◌, ◌⊎◌, inl, inr, cond, eqb, min, List, ◌∷◌, length, set, get_or, sym, ap, ◌∙◌, arith, get_or-set_same, get_or-set_other}
use Rattle.std.proofs.lemmas.Bool.{cases_eq, eq-eqb, ne_eqb}
use Rattle.std.proofs.lemmas.List.Sums.{sum_by-cons}
use Rattle.mj_tiles.specs.Counts.{number_of}
use Rattle.mj_tiles.specs.Faces.{kind_of}

-- So many as were there and those that came, n of them before and m of them now, as long as they are at most 255.
pub one_counted : (were now : List ℕ) (n m : ℕ → ℕ) (key place v : ℕ) → ((p : ℕ) → m p ≡ n p + cond (eqb key p) 1 0) → place ≡ key → place < length now →
    v ≡ min (get_or now place 0 + 1) 255 → ((p : ℕ) → get_or were p 0 + n p ≤ 255 → get_or now p 0 ≡ get_or were p 0 + n p) →
    (p : ℕ) → get_or were p 0 + m p ≤ 255 → get_or (set now place v) p 0 ≡ get_or were p 0 + m p
one_counted were now n m key place v more is there what was p few = at (cases_eq p place)
  where
    within : (a n m x : ℕ) → m ≡ n + x → a + m ≤ 255 → a + n ≤ 255
    within a n m x e k = omega (arith, e, k)

    before : get_or now p 0 ≡ get_or were p 0 + n p
    before = was p (within _ _ _ _ (more p) few)

    one : (v b a n m x : ℕ) → v ≡ min (b + 1) 255 → b ≡ a + n → m ≡ n + x → x ≡ 1 → a + m ≤ 255 → v ≡ a + m
    one v b a n m x e f g k l = omega (arith, e, f, g, k, l)

    none : (b a n m x : ℕ) → b ≡ a + n → m ≡ n + x → x ≡ 0 → b ≡ a + m
    none b a n m x f g k = omega (arith, f, g, k)

    at : (p ≡ place) ⊎ (p ≡ place → ⊥) → get_or (set now place v) p 0 ≡ get_or were p 0 + m p
    at (inl same) =
        ap (λ q. get_or (set now place v) q 0) same ∙ get_or-set_same now place v 0 there
        ∙ one v (get_or now place 0) _ _ _ _ what (ap (λ q. get_or now q 0) (sym same) ∙ before) (more p) (ap (λ b. cond b 1 0) (eq-eqb key p (sym is ∙ sym same))) few
    at (inr differ) =
        get_or-set_other now place p v 0 differ
        ∙ none _ _ _ _ _ before (more p) (ap (λ b. cond b 1 0) (ne_eqb key p (λ e. differ (sym e ∙ sym is))))

-- How many of a kind stand among tiles, one of which comes first.
pub number_of-cons : (tile : ℕ) (tiles : List ℕ) (kind : ℕ) → number_of (tile ∷ tiles) kind ≡ cond (eqb (kind_of tile) kind) 1 0 + number_of tiles kind
number_of-cons tile tiles kind = sum_by-cons (λ t. cond (eqb (kind_of t) kind) 1 0) tile tiles
