-- Furiten.
use Rattle.std.specs.Prelude.{ℕ, Bool, ◌&&◌, ◌||◌}
use Rattle.std.specs.List.{list_any}
use Rattle.mj_tiles.specs.Counts.{all_kinds}
use Rattle.mj_tiles.specs.Kinds.{has_kind}
use Rattle.mj_waits.specs.declared.furiten_rule.Facts.{Facts}

-- A kind that is a wait and was discarded by the seat itself, or let pass since its last discard or since its riichi.
abbrev pub is_missed : Facts → ℕ → Bool
is_missed facts kind = has_kind facts.waits kind
    && (has_kind facts.own kind || has_kind facts.passed kind || has_kind facts.passed_in_riichi kind)

-- A seat is furiten where it missed one of its waits.
unfoldable pub is_furiten : Facts → Bool
is_furiten facts = list_any (is_missed facts) all_kinds
