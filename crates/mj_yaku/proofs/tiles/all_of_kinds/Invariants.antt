use Rattle.std.proofs.Common.{ℕ, ◌≡◌, ◌<◌, true, not, ◌||◌}
use Rattle.mj_tiles.specs.Kinds.{has_kind}
use Rattle.mj_yaku.specs.Inner.Classes.{in_class}
use Rattle.mj_yaku.proofs.tiles.all_of_kinds.Given as goal

abbrev pub invariant-loop-number : goal.invariant-loop-number
invariant-loop-number l = (kind : ℕ) → kind < l.number → (not (has_kind l.kinds kind) || in_class l.class kind) ≡ true
