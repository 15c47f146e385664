-- Lists beside each other, place by place.
use Rattle.std.specs.Prelude.{◌≡◌, ℕ, List, length, Some, slice_get}

-- What is in one place of two lists, which are as long, is so related.
pub record Matches {X Y : Type 0} (P : X → Y → Type 0) (xs : List X) (ys : List Y) : Type 0 where
  pub many : length ys ≡ length xs
  pub each : (t : ℕ) (x : X) (y : Y) → slice_get xs t ≡ Some x → slice_get ys t ≡ Some y → P x y

-- What is in one place of three lists, which are as long, is so related, by the place too.
pub record Beside {X Y Z : Type 0} (P : ℕ → X → Y → Z → Type 0) (xs : List X) (ys : List Y) (zs : List Z) : Type 0 where
  pub second : length ys ≡ length xs
  pub third : length zs ≡ length xs
  pub each : (t : ℕ) (x : X) (y : Y) (z : Z) → slice_get xs t ≡ Some x → slice_get ys t ≡ Some y → slice_get zs t ≡ Some z → P t x y z
