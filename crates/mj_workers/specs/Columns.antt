-- Rows and columns of values.
use Rattle.std.specs.Prelude.{◌≡◌, ℕ, All, List, [], ◌∷◌, ◌++◌, length, map, Some, slice_get, Vec}
use Rattle.std.specs.declared.alloc.Global.{Global}
use Rattle.mj_ticker.specs.Beside.{Beside}

module _ {X : Type 0} where
  -- What lists hold.
  abbrev pub items_of : List (Vec X Global) → List (List X)
  items_of vecs = map (λ v. v.items) vecs

  -- Of each row the last value was taken, and these values are the column, in the order of the rows.
  abbrev pub IsTaken : List (List X) → List (List X) → List X → Type 0
  IsTaken old new column = Beside (λ t row left x. row ≡ left ++ x ∷ []) old new column

  -- Each column has one value for each of so many rows.
  abbrev pub AreColumns : ℕ → List (List X) → Type 0
  AreColumns many columns = All (λ c. length c ≡ many) columns

  -- So many rows hold the values of columns, one column after the other.
  pub record AreRows (many : ℕ) (columns rows : List (List X)) : Type 0 where
    pub many_are : length rows ≡ many
    pub each : (t : ℕ) (row : List X) → slice_get rows t ≡ Some row → map Some row ≡ map (λ c. slice_get c t) columns
