-- What is left with the tiles of two.
use Rattle.std.specs.Prelude.{ℕ, ◌-◌, max}
use Rattle.mj_suits.specs.Rows.{taken}

-- what is left beside so many sets of the first, with no pair of it and with one, where the lanes of the second are moved by
-- those sets
abbrev pub beside_moved : (ℕ → ℕ → ℕ) → (ℕ → ℕ → ℕ) → ℕ → ℕ → ℕ → ℕ
beside_moved first moved sets s p = max (moved s p - (15 - first sets 0)) (taken 0 1 moved s p - (15 - first sets 1))

-- what is left beside so many sets of the first
abbrev pub beside : (ℕ → ℕ → ℕ) → (ℕ → ℕ → ℕ) → ℕ → ℕ → ℕ → ℕ
beside first second sets s p = max (taken sets 0 second s p - (15 - first sets 0)) (taken sets 1 second s p - (15 - first sets 1))

-- the most that is left of both, where the first makes at most four sets
unfoldable pub joined : (ℕ → ℕ → ℕ) → (ℕ → ℕ → ℕ) → ℕ → ℕ → ℕ
joined first second s p =
    max (max (max (beside first second 0 s p) (beside first second 1 s p)) (max (beside first second 2 s p) (beside first second 3 s p))) (beside first second 4 s p)
