-- What deeds give and take, one deed further: tiles that are put down are held.
use Rattle.std.proofs.Common.{◌≡◌, ℕ, ◌+◌, ◌-◌, ◌≤◌, ◌⊎◌, inl, inr, Bool, true, cond, eqb, List, [], ◌∷◌, ◌++◌, refl, ap, ◌∙◌, subst, arith, append-nil}
use Rattle.std.specs.Prelude.{nat_le, sum_by, flat_map}
use Rattle.std.specs.List.{list_all}
use Rattle.std.proofs.lemmas.Bool.{cases_eq, ne_eqb, and_parts, leb-true}
use Rattle.std.proofs.lemmas.List.Sums.{sum_by-append, sum_by-cons}
use Rattle.std.proofs.lemmas.List.Concat.{flat_map-append}
use Rattle.mj_tiles.specs.Faces.{number_in}
use Rattle.mj_deeds.specs.declared.deed.Deed.{Deed}
use Rattle.mj_deeds.specs.Fits.{are_held}

-- A sum over what a list of deeds gives.
pub sum_more : (w : ℕ → ℕ) (f : Deed → List ℕ) (ds : List Deed) (d : Deed) → sum_by w (flat_map f (ds ++ d ∷ [])) ≡ sum_by w (flat_map f ds) + sum_by w (f d)
sum_more w f ds d =
    ap (sum_by w) (flat_map-append f ds (d ∷ []))
    ∙ sum_by-append w (flat_map f ds) (f d ++ [])
    ∙ ap (λ n. sum_by w (flat_map f ds) + n) (ap (sum_by w) (append-nil (f d)))

-- How often a face stands in it.
pub number_more : (f : Deed → List ℕ) (ds : List Deed) (d : Deed) (face : ℕ) → number_in (flat_map f (ds ++ d ∷ [])) face ≡ number_in (flat_map f ds) face + number_in (f d) face
number_more f ds d face = sum_more (λ x. cond (eqb x face) 1 0) f ds d

-- A face that passes, or that stands nowhere.
all_or_none : (q : ℕ → Bool) (tiles : List ℕ) (face : ℕ) → list_all q tiles ≡ true → (q face ≡ true) ⊎ (number_in tiles face ≡ 0)
all_or_none q [] face h = inr refl
all_or_none q (t ∷ ts) face h =
    let parts = and_parts (q t) (list_all q ts) h in
    elim (cases_eq t face) [
      | inl e ↦ inl (subst (λ x. q x ≡ true) e parts.0)
      | inr ne ↦ elim (all_or_none q ts face parts.1) [
        | inl there ↦ inl there
        | inr none ↦ inr (sum_by-cons (λ x. cond (eqb x face) 1 0) t ts ∙ both _ _ (ap (λ b. cond b 1 0) (ne_eqb t face ne)) none)
      ]
    ]
  where
    both : (a b : ℕ) → a ≡ 0 → b ≡ 0 → a + b ≡ 0
    both a b e g = omega arith

-- Tiles that are held leave room for what was put down before.
pub held_room : (got gone tiles : List ℕ) (face : ℕ) → are_held got gone tiles ≡ true → number_in gone face ≤ number_in got face → number_in gone face + number_in tiles face ≤ number_in got face
held_room got gone tiles face h within =
    elim (all_or_none (λ x. nat_le (number_in tiles x) (number_in got x - number_in gone x)) tiles face h) [
      | inl there ↦ some _ _ _ (leb-true _ _ there) within
      | inr none ↦ without _ _ _ none within
    ]
  where
    some : (t o g : ℕ) → t ≤ o - g → g ≤ o → g + t ≤ o
    some t o g h k = omega arith

    without : (t o g : ℕ) → t ≡ 0 → g ≤ o → g + t ≤ o
    without t o g h k = omega arith
