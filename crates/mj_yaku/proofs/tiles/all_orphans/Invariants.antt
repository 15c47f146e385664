use Rattle.std.proofs.Common.{ℕ, ◌≡◌, ◌<◌, true, not, ◌||◌}
use Rattle.mj_tiles.specs.Terminals.{is_terminal_or_honour}
use Rattle.mj_yaku.specs.Inner.Classes.{in_class}
use Rattle.mj_yaku.proofs.tiles.all_orphans.Given as goal

abbrev pub invariant-loop-number : goal.invariant-loop-number
invariant-loop-number l = (kind : ℕ) → kind < l.number → (not (is_terminal_or_honour kind) || in_class l.class kind) ≡ true
