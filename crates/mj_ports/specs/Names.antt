-- Which texts are names of seats.
use Rattle.std.specs.Prelude.{ℕ, ◌==◌, ◌&&◌, not, Bool, true, nat_lt, nat_le, List, [], ◌∷◌, length, bytes_eq}
use Rattle.std.specs.Str.{is_utf8}
use Rattle.std.specs.List.{list_any, list_all}

-- A name is a text in UTF-8 of 1 to 64 bytes, none of them a quotation mark, a backslash or below 32.
unfoldable pub is_name : List ℕ → Bool
is_name text = nat_lt 0 (length text) && nat_le (length text) 64 && list_all (λ byte. nat_le 32 byte && not (byte == 34) && not (byte == 92)) text && is_utf8 text

-- No text stands twice.
abbrev pub are_different : List (List ℕ) → Bool
are_different [] = true
are_different (text ∷ texts) = not (list_any (λ other. bytes_eq text other) texts) && are_different texts
