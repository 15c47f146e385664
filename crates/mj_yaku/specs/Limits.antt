-- The two yakuman of a form of their own: thirteen orphans and the nine gates.
use Rattle.std.specs.Prelude.{ℕ, ◌+◌, ◌==◌, Bool, true, ◌&&◌, ◌||◌, if◌then◌else◌, nat_le, List, count_by, length}
use Rattle.std.specs.List.{list_all, list_any}
use Rattle.mj_tiles.specs.declared.meld.Meld.{Meld}
use Rattle.mj_readings.specs.declared.reading.Case.{Case}
use Rattle.mj_readings.specs.declared.reading.Reading.{Reading}
use Rattle.mj_fu.specs.Fu.{is_orphans}
use Rattle.mj_yaku.specs.Hands.{tiles_of, in_standard, suits, numbers}
use Rattle.mj_yaku.specs.WholeHand.{is_one_suit}

-- kokushi: thirteen orphans, a closed hand.
unfoldable pub kokushi : Reading → Case → Bool
kokushi reading case = case.closed && is_orphans reading

-- The least number of tiles of each number in the nine gates: three ones and nines, and one of each other number.
abbrev pub in_gates : ℕ → ℕ
in_gates number = if number == 0 || number == 8 then 3 else 1

-- At least so many of each number of the suit.
abbrev pub has_gates : Reading → ℕ → Bool
has_gates reading suit =
    list_all
    (λ number. nat_le (in_gates number) (count_by (λ tile. tile == suit + number) (tiles_of reading)))
    numbers

-- chuuren: a closed hand of four sets and a pair without melds, of one suit with at least three ones and nines and
-- one of each other number.
unfoldable pub chuuren : Reading → List Meld → Case → Bool
chuuren reading melds case =
    case.closed && in_standard (λ sets pair. true) reading && length melds == 0 && is_one_suit reading
    && list_any (has_gates reading) suits
