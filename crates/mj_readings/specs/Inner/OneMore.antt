-- Which kinds can't complete a hand otherwise than by sets and a pair.
use Rattle.std.specs.Prelude.{ℕ, ◌≡◌, ◌<◌, ◌+◌, ◌-◌, ◌==◌, Bool, false, nat_lt, ◌&&◌, ◌||◌, List, is_some, slice_index}
use Rattle.mj_readings.specs.Complete.{is_seven_pairs}
use Rattle.mj_readings.specs.Tests.{one_more, orphan_double}

-- No tile more makes the hand seven pairs or thirteen orphans.
abbrev pub NoSpecial : List ℕ → ℕ → Type 0
NoSpecial counts melds =
    (kind : ℕ) → kind < 34 → (melds == 0 && (is_seven_pairs (one_more counts kind) || is_some (orphan_double (one_more counts kind)))) ≡ false

-- The kind is held, or two neighbouring kinds are that may make a run with it.
unfoldable pub has_company : List ℕ → ℕ → Bool
has_company counts kind =
    let held : ℕ → Bool = λ other. nat_lt 0 (slice_index counts other) in
    held kind
    || nat_lt kind 27
    && (held (kind + 1) && (nat_lt 0 kind && held (kind - 1) || held (kind + 2))
    || nat_lt 1 kind && held (kind - 1) && held (kind - 2))
