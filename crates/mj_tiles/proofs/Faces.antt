-- Faces: equal either way round, and how many there are.
use Rattle.std.proofs.Common.{◌≡◌, ℕ, length, eqb, inl, inr, refl, sym, ◌∙◌}
use Rattle.std.proofs.lemmas.Bool.{cases_eq, ne_eqb, eq-eqb}
use Rattle.mj_tiles.specs.Faces.{tile_order}

-- One is the other exactly where the other is the one.
pub either_way : (a b : ℕ) → eqb a b ≡ eqb b a
either_way a b = elim (cases_eq a b) [
  | inl e ↦ eq-eqb a b e ∙ sym (eq-eqb b a (sym e))
  | inr n ↦ ne_eqb a b n ∙ sym (ne_eqb b a (λ e. n (sym e)))
]

-- All faces stand in tile order.
pub all_faces : length tile_order ≡ 37
unfolding tile_order
all_faces = refl
