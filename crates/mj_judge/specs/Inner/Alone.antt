-- Kinds that stand alone in a hand, and orphans that it lacks.
use Rattle.std.specs.Prelude.{ℕ, ◌≡◌, ◌<◌, ◌+◌, ◌-◌, false, true, List, slice_index}
use Rattle.mj_tiles.specs.Terminals.{is_terminal_or_honour}

-- The kind stands once, and no tile does within two of it, where it is no honour.
pub record IsAlone (counts : List ℕ) (kind : ℕ) : Type 0 where
  pub within : kind < 34
  pub once : slice_index counts kind ≡ 1
  pub next : kind < 27 → slice_index counts (kind + 1) ≡ 0
  pub after_next : kind < 27 → slice_index counts (kind + 2) ≡ 0
  pub before : kind < 27 → 0 < kind → slice_index counts (kind - 1) ≡ 0
  pub two_before : kind < 27 → 1 < kind → slice_index counts (kind - 2) ≡ 0

-- Three kinds do.
pub record AreThree (counts : List ℕ) : Type 0 where
  pub first : ℕ
  pub second : ℕ
  pub third : ℕ
  pub then_second : first < second
  pub then_third : second < third
  pub first_alone : IsAlone counts first
  pub second_alone : IsAlone counts second
  pub third_alone : IsAlone counts third

-- The kind, from two to eight, is held.
pub record IsInner (counts : List ℕ) (kind : ℕ) : Type 0 where
  pub within : kind < 34
  pub held : 0 < slice_index counts kind
  pub inner : is_terminal_or_honour kind ≡ false

-- Two kinds are.
pub record AreTwo (counts : List ℕ) : Type 0 where
  pub first : ℕ
  pub second : ℕ
  pub then_second : first < second
  pub first_inner : IsInner counts first
  pub second_inner : IsInner counts second

-- A terminal or an honour other than the kind is not held.
pub record LacksOrphan (counts : List ℕ) (kind : ℕ) : Type 0 where
  pub other : ℕ
  pub within : other < 34
  pub outer : is_terminal_or_honour other ≡ true
  pub differs : kind ≡ other → ⊥
  pub none : slice_index counts other ≡ 0
