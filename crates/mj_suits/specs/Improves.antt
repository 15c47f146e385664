-- What is as near, and what a search makes of the best target so far.
use Rattle.std.specs.Prelude.{◌≡◌, ◌⊎◌, ℕ, ◌<◌, false, Option, None, Some, List}
use Rattle.std.specs.Ordering.{nat_cmp, is_gt}
use Rattle.std.specs.Cmp.Lexicographic.{slice_cmp}
use Rattle.mj_suits.specs.Targets.{missing}

-- the first target misses fewer than the second, or as few and is not lexicographically less
abbrev pub AsNear : ℕ × List ℕ → ℕ × List ℕ → Type 0
AsNear x y = (x.0 < y.0) ⊎ ((x.0 ≡ y.0) × (is_gt (slice_cmp nat_cmp y.1 x.1) ≡ false))

-- any target is as good as none
abbrev pub AsGood : Option (ℕ × List ℕ) → Option (ℕ × List ℕ) → Type 0
AsGood x None = Unit {0}
AsGood None (Some y) = ⊥
AsGood (Some x) (Some y) = AsNear x y

-- the best target becomes one with the property where that is nearer, and then none with the property is nearer still
pub record Improves (held : List ℕ) (P : List ℕ → Type 0) (old new : Option (ℕ × List ℕ)) : Type 0 where
  pub one : (new ≡ old) ⊎ ((target : List ℕ) × P target × (new ≡ Some (missing target held, target)))
  pub kept : AsGood new old
  pub best : (target : List ℕ) → P target → AsGood new (Some (missing target held, target))
