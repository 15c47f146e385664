-- Yaku of the tiles of the whole hand.
use Rattle.std.specs.Prelude.{ℕ, ◌/◌, ◌==◌, Bool, nat_lt, not, ◌&&◌, ◌||◌}
use Rattle.std.specs.List.{list_all, list_any}
use Rattle.mj_readings.specs.declared.reading.Reading.{Reading}
use Rattle.mj_tiles.specs.Terminals.{is_honour, is_terminal, is_terminal_or_honour}
use Rattle.mj_yaku.specs.Hands.{tiles_of, suits}

-- The kind is of the suit with this lowest kind.
abbrev pub is_of_suit : ℕ → ℕ → Bool
is_of_suit suit kind = nat_lt kind 27 && kind / 9 == suit / 9

-- All tiles of the hand pass a test.
abbrev pub all_tiles : (ℕ → Bool) → Reading → Bool
all_tiles test reading = list_all test (tiles_of reading)

-- No tile of the hand is an honour.
abbrev pub no_honour : Reading → Bool
no_honour reading = all_tiles (λ kind. not (is_honour kind)) reading

-- tanyao: no terminal and no honour.
unfoldable pub tanyao : Reading → Bool
tanyao reading = all_tiles (λ kind. not (is_terminal_or_honour kind)) reading

-- honroutou: terminals and honours alone.
unfoldable pub honroutou : Reading → Bool
honroutou reading = all_tiles is_terminal_or_honour reading

-- All tiles of the hand are of one suit.
abbrev pub is_one_suit : Reading → Bool
is_one_suit reading = list_any (λ suit. all_tiles (is_of_suit suit) reading) suits

-- chinitsu: one suit, no honour.
unfoldable pub chinitsu : Reading → Bool
chinitsu reading = is_one_suit reading

-- tsuuiisou: honours alone.
unfoldable pub tsuuiisou : Reading → Bool
tsuuiisou reading = all_tiles is_honour reading

-- honitsu: one suit and honours, both there.
unfoldable pub honitsu : Reading → Bool
honitsu reading =
    list_any (λ suit. all_tiles (λ kind. is_of_suit suit kind || is_honour kind) reading) suits
    && not (no_honour reading) && not (all_tiles is_honour reading)

-- chinroutou: terminals alone.
unfoldable pub chinroutou : Reading → Bool
chinroutou reading = all_tiles is_terminal reading

-- The kinds without any red: 2s, 3s, 4s, 6s, 8s and F.
abbrev pub is_green : ℕ → Bool
is_green kind = kind == 19 || kind == 20 || kind == 21 || kind == 23 || kind == 25 || kind == 32

-- ryuuiisou: green tiles alone.
unfoldable pub ryuuiisou : Reading → Bool
ryuuiisou reading = all_tiles is_green reading
