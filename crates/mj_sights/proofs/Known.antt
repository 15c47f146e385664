-- Tiles of the game.
use Rattle.std.proofs.Common.{◌≡◌, ℕ, ◌<◌, Bool, true, false, ltb, List, [], ◌∷◌, refl, arith}
use Rattle.std.specs.Prelude.{All}
use Rattle.std.specs.List.{list_all}
use Rattle.std.proofs.lemmas.Bool.{and_parts, and_from, lt-ltb, ltb-true}
use Rattle.std.proofs.lemmas.List.Elements.{All-nil, All-cons}
use Rattle.mj_deeds.specs.Fits.{is_face}

abbrev pub is_known : ℕ → Bool
is_known face = ltb face 37

pub all_known : (xs : List ℕ) → list_all is_known xs ≡ true → All (λ t. t < 37) xs
all_known [] h = All-nil (λ t. t < 37)
all_known (x ∷ xs) h = let parts = and_parts (is_known x) (list_all is_known xs) h in All-cons (λ t. t < 37) x xs (ltb-true x 37 parts.0) (all_known xs parts.1)

face_known : (red : Bool) (x : ℕ) → is_face red x ≡ true → is_known x ≡ true
face_known true x h = h
face_known false x h = lt-ltb x 37 (omega (arith, ltb-true x 34 h))

pub known : (red : Bool) (xs : List ℕ) → list_all (is_face red) xs ≡ true → list_all is_known xs ≡ true
known red [] h = refl
known red (x ∷ xs) h = let parts = and_parts (is_face red x) (list_all (is_face red) xs) h in and_from (is_known x) _ (face_known red x parts.0) (known red xs parts.1)
