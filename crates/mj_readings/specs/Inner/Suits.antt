-- What a whole suit says of one tile more in it. The suits are 0 to 2, and the honours are the suit 3.
use Rattle.std.specs.Prelude.{ℕ, ◌≡◌, ◌<◌, ◌≤◌, ◌+◌, ◌*◌, Bool, false, nat_lt, ◌&&◌, List, length}
use Rattle.mj_tiles.specs.Kinds.{kinds_that}
use Rattle.mj_readings.specs.declared.completing_kinds.Known.{Known}
use Rattle.mj_readings.specs.Completing.{is_completing}
use Rattle.mj_readings.specs.Inner.OneMore.{NoSpecial}
use Rattle.mj_readings.specs.Inner.Sums.{IsOver, ArePairless}

-- No kind of a suit passes a test.
abbrev pub NoneIn : ℕ → (ℕ → Bool) → Type 0
NoneIn suit test = (kind : ℕ) → kind < 34 → 9 * suit ≤ kind → kind < 9 * suit + 9 → test kind ≡ false

-- The kinds below a number that complete a hand.
abbrev pub completing_below : List ℕ → ℕ → ℕ → ℕ
completing_below counts melds n = kinds_that (λ kind. nat_lt kind n && is_completing counts melds kind)

-- What is known of a hand before a tile is added to it.
pub record IsKnown (counts : List ℕ) (known : Known) : Type 0 where
  pub size : length counts ≡ 34
  pub over : IsOver counts known.over
  pub pairless : ArePairless counts known.pairless
  pub special : known.special ≡ false → NoSpecial counts known.melds
