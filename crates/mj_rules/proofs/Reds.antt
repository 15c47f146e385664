-- The tiles of a wall are of the game.
use Rattle.std.proofs.Common.{◌≡◌, ℕ, ◌<◌, ◌&&◌, Bool, true, false, cond, List, [], ◌∷◌, get_or, refl}
use Rattle.std.specs.Prelude.{All, nat_lt}
use Rattle.std.specs.List.{list_all}
use Rattle.std.proofs.lemmas.Bool.{and_from, lt-ltb}
use Rattle.std.proofs.lemmas.List.Elements.{All-head, All-tail}
use Rattle.mj_wall.specs.Places.{is_wall}
use Rattle.mj_wall.proofs.WallFaces.{wall_faces, wall_plain_faces}
use Rattle.mj_deeds.specs.Fits.{is_face}
use Rattle.mj_deeds.proofs.RealTiles.{at_passes}

-- The tiles of a wall are below 37, and without red fives below 34.
pub wall_below : (red : Bool) (wall : List ℕ) → is_wall red wall ≡ true → All (λ t. t < cond red 37 34) wall
wall_below true wall h = wall_faces true wall h
wall_below false wall h = wall_plain_faces wall h

pub below_passes : (n : ℕ) (tiles : List ℕ) → All (λ t. t < n) tiles → list_all (λ t. nat_lt t n) tiles ≡ true
below_passes n [] h = refl
below_passes n (t ∷ ts) h = and_from (nat_lt t n) _ (lt-ltb t n (All-head (λ x. x < n) t ts h)) (below_passes n ts (All-tail (λ x. x < n) t ts h))

zero_passes : (red : Bool) → is_face red 0 ≡ true
zero_passes true = refl
zero_passes false = refl

-- A tile of a wall is of the game.
pub place_passes : (red : Bool) (wall : List ℕ) (i : ℕ) → is_wall red wall ≡ true → is_face red (get_or wall i 0) ≡ true
place_passes red wall i h = at_passes (is_face red) wall i (zero_passes red) (below_passes (cond red 37 34) wall (wall_below red wall h))

pub place_is_real : (red : Bool) (wall : List ℕ) (i : ℕ) → is_wall red wall ≡ true → (is_face red (get_or wall i 0) && true) ≡ true
place_is_real red wall i h = and_from (is_face red (get_or wall i 0)) true (place_passes red wall i h) refl
