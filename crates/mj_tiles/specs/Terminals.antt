-- Terminals and honours.
use Rattle.std.specs.Prelude.{ℕ, ◌%◌, ◌==◌, Bool, nat_lt, nat_le, ◌&&◌, ◌||◌}

-- The honours are the winds and the dragons.
abbrev pub is_honour : ℕ → Bool
is_honour kind = nat_le 27 kind

-- The terminals are the ones and the nines.
abbrev pub is_terminal : ℕ → Bool
is_terminal kind = nat_lt kind 27 && (kind % 9 == 0 || kind % 9 == 8)

-- The kind is a terminal or an honour.
unfoldable pub is_terminal_or_honour : ℕ → Bool
is_terminal_or_honour kind = is_terminal kind || is_honour kind
