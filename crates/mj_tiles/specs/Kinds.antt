-- Sets of kinds. A set is known by the kinds that it has: two sets of kinds that have the same kinds are equal.
use Rattle.std.specs.Prelude.{ℕ, ◌==◌, ◌^◌, Bool, List, [], ◌∷◌, filter}
use Rattle.std.specs.Int.{bit_at}
use Rattle.std.specs.Int.Bits.{bit_or}
use Rattle.mj_tiles.specs.Counts.{all_kinds}

-- A set has a kind where the bit of the kind's number is one.
unfoldable pub has_kind : ℕ → ℕ → Bool
has_kind set kind = bit_at set kind == 1

-- The set without any kind.
unfoldable pub no_kinds : ℕ
no_kinds = 0

-- A set and one kind more.
unfoldable pub with_kind : ℕ → ℕ → ℕ
with_kind set kind = bit_or set (2 ^ kind)

-- The set of the kinds of a list.
abbrev pub set_of : List ℕ → ℕ
set_of [] = no_kinds
set_of (kind ∷ others) = with_kind (set_of others) kind

-- The set of the kinds that pass a test.
unfoldable pub kinds_that : (ℕ → Bool) → ℕ
kinds_that test = set_of (filter test all_kinds)
