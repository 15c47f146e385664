-- A win: its circumstances, read off the deeds, what it is worth, and what each seat gains by it.
use Rattle.std.specs.Prelude.{ℕ, ◌+◌, ◌-◌, ◌%◌, ◌==◌, Bool, true, false, nat_lt, if◌then◌else◌, List, [], ◌∷◌, ◌++◌, length}
use Rattle.std.specs.Prelude.{map, flat_map, sum_by, count_by, Option, Some, unwrap_or, ℤ, pos, ◌+ℤ◌, nat_abs}
use Rattle.std.specs.List.{range_with_len, slice_index_or}
use Rattle.mj_tiles.specs.Faces.{kind_of, is_red, after_kind, less}
use Rattle.mj_tiles.specs.Counts.{number_of, kind_counts}
use Rattle.mj_tiles.specs.Melds.{tiles_of_meld}
use Rattle.mj_rounds.specs.declared.rounds.Standing.{Standing}
use Rattle.mj_readings.specs.declared.reading.Case.{Case}
use Rattle.mj_readings.specs.declared.reading.Riichi.{Riichi}
use Rattle.mj_readings.specs.declared.reading.Riichi.TheVariants as riichi
use Rattle.mj_yaku.specs.Hands.{are_concealed}
use Rattle.mj_yaku.specs.Han.{has_yakuman, han}
use Rattle.mj_pay.specs.Payments.{ron_changes, drawn_changes}
use Rattle.mj_score.specs.declared.score.Extra.{Extra}
use Rattle.mj_score.specs.declared.score.Score.{Score}
use Rattle.mj_score.specs.Scores.{rows_of}
use Rattle.mj_score.specs.Worth.{worth_of}
use Rattle.mj_wall.specs.Places.{under_tile}
use Rattle.mj_deeds.specs.declared.deed.Deed.{Deed}
use Rattle.mj_deeds.specs.declared.deed.Deed.TheVariants.{Draw, AddedKan, Win}
use Rattle.mj_deeds.specs.Hand.{hand}
use Rattle.mj_deeds.specs.Facts.{newest, concealed_tiles, seat_melds, live_tiles, indicators}
use Rattle.mj_deeds.specs.Firsts.{is_first}
use Rattle.mj_deeds.specs.Riichi.{is_in_riichi, is_double, is_ippatsu}
use Rattle.mj_deeds.specs.Points.{points, deposits}
use Rattle.mj_deeds.specs.Course.{before_wins}
use Rattle.mj_deeds.specs.Standings.{standing}
use Rattle.mj_deeds.specs.Ends.{winners}

-- The wind of a seat: the dealer's is east, and the others' follow in turn order.
abbrev pub seat_wind : ℕ → ℕ → ℕ
seat_wind dealer seat = 27 + (seat + 4 - dealer) % 4

-- The riichi of a seat in the deeds of a hand.
abbrev pub riichi_of : List Deed → ℕ → Riichi
riichi_of deeds seat = if is_in_riichi deeds seat then (if is_double deeds seat then riichi.Double else riichi.Single) else riichi.No

-- The newest deed is a draw, a replacement draw, or an added kan.
abbrev pub is_draw : Option Deed → Bool
is_draw (Some (Draw who tile replacement)) = true
is_draw other = false

abbrev pub is_replacement : Option Deed → Bool
is_replacement (Some (Draw who tile replacement)) = replacement
is_replacement other = false

abbrev pub is_added : Option Deed → Bool
is_added (Some (AddedKan who tile a b c)) = true
is_added other = false

-- The circumstances of a win of a seat by the newest of the deeds of a hand, which gives the tile.
unfoldable pub case_of : Standing → List Deed → ℕ → Case
case_of now deeds seat = record {
  seat_wind = seat_wind now.dealer seat;
  round_wind = now.round;
  by_draw = is_draw (newest deeds);
  closed = are_concealed (seat_melds deeds seat);
  riichi = riichi_of deeds seat;
  ippatsu = is_ippatsu deeds seat;
  last = live_tiles deeds == 0;
  rinshan = is_replacement (newest deeds);
  robbed = is_added (newest deeds);
  first = is_first deeds seat;
}

-- The concealed tiles of a winner without the winning one: a drawn tile is among them, and a tile of another seat is not.
abbrev pub own_tiles_of : List Deed → ℕ → ℕ → List ℕ
own_tiles_of deeds seat tile = if is_draw (newest deeds) then less (concealed_tiles deeds seat) (tile ∷ []) else concealed_tiles deeds seat

-- How many of the tiles are dora by these indicators: for each one those of the kind after it.
abbrev pub dora_by : List ℕ → List ℕ → ℕ
dora_by indicators tiles = sum_by (λ indicator. number_of tiles (after_kind (kind_of indicator))) indicators

-- The hidden indicators under those that are shown, for a winner in riichi; none for another.
abbrev pub unders_of : List ℕ → List Deed → ℕ → List ℕ
unders_of wall deeds seat = if is_in_riichi deeds seat then map (under_tile wall) (range_with_len 0 (length (indicators deeds))) else []

-- What a winner shows: its concealed tiles without the winning one, the winning tile, and the hidden indicators.
pub record Shows : Type 0 where
  pub own : List ℕ
  pub tile : ℕ
  pub unders : List ℕ

-- The dora of a win: by the indicators and the hidden ones, and the red fives.
abbrev pub extra_by : List ℕ → List ℕ → List ℕ → Extra
extra_by indicators unders tiles = record { dora = dora_by indicators tiles; under = dora_by unders tiles; red = count_by is_red tiles }

abbrev pub extra_of : List Deed → ℕ → Shows → Extra
extra_of deeds seat shows = extra_by (indicators deeds) shows.unders (shows.own ++ shows.tile ∷ flat_map tiles_of_meld (seat_melds deeds seat))

-- Worth nothing: no lawful win is.
abbrev pub no_score : Score
no_score = record { han = 0; fu = 0; yaku = 0; base = 0 }

-- What a win is worth, by the deeds of the hand and what the winner shows.
unfoldable pub score_of_win : Standing → List Deed → ℕ → Shows → Score
score_of_win now deeds seat shows =
    unwrap_or (worth_of (kind_counts (shows.own ++ shows.tile ∷ [])) (seat_melds deeds seat) (kind_of shows.tile) (case_of now deeds seat) (extra_of deeds seat shows)) no_score

-- A row of dora, where there are any.
abbrev pub dora_row : ℕ → ℕ → List (ℕ × ℕ)
dora_row row number = if nat_lt 0 number then (row, number) ∷ [] else []

abbrev pub dora_rows : Extra → List (ℕ × ℕ)
dora_rows extra = dora_row 28 extra.dora ++ dora_row 29 extra.under ++ dora_row 30 extra.red

-- The rows of a win with their han, and after them the rows of dora with their numbers; beside a yakuman no dora counts.
unfoldable pub rows_of_win : Score → Bool → Extra → List (ℕ × ℕ)
rows_of_win score closed extra =
    map (λ row. (row, han row closed)) (rows_of score.yaku) ++ (if has_yakuman score.yaku then [] else dora_rows extra)

-- What each seat gains by a win of a seat on a tile of another, or on its own draw.
unfoldable pub win_changes : Bool → ℕ → ℕ → ℕ → ℕ → ℕ → ℕ → List ℤ
win_changes by_draw seat target dealer base honba deposits =
    if by_draw then drawn_changes seat dealer base honba deposits else ron_changes seat target dealer base honba deposits

-- The value of a win: what its payments bring the winner, without honba and deposits.
abbrev pub value_of_win : Bool → ℕ → ℕ → ℕ → ℕ → ℕ
value_of_win by_draw seat target dealer base = nat_abs (slice_index_or (win_changes by_draw seat target dealer base 0 0) seat (pos 0))

-- Only the first winner of a hand takes the honba and the deposits.
abbrev pub for_first : List Deed → ℕ → ℕ
for_first hand number = if length (winners hand) == 0 then number else 0

-- Lists of points added seat by seat.
abbrev pub points_with : List ℤ → List ℤ → List ℤ
points_with points changes =
    map (λ seat. slice_index_or points seat (pos 0) +ℤ slice_index_or changes seat (pos 0)) (0 ∷ 1 ∷ 2 ∷ 3 ∷ [])

-- The win of a seat on a tile of the target, after the deeds of the game, by what it shows: all its numbers follow from the
-- deeds and from that. The other winners on the same tile follow.
unfoldable pub win_shown : List Deed → ℕ → ℕ → Shows → List ℕ → Deed
win_shown deeds seat target shows rest =
    let now = standing deeds in
    let before = before_wins (hand deeds) in
    let case = case_of now before seat in
    let score = score_of_win now before seat shows in
    let changes = win_changes case.by_draw seat target now.dealer score.base (for_first (hand deeds) now.honba) (for_first (hand deeds) (deposits deeds)) in
    Win seat target shows.tile shows.unders shows.own (rows_of_win score case.closed (extra_of before seat shows)) score.fu score.han
    (value_of_win case.by_draw seat target now.dealer score.base) changes (points_with (points deeds) changes) rest

-- The win of a seat on a tile of the target, from the wall of the hand: it shows its concealed tiles without the winning one,
-- and in riichi the hidden indicators.
abbrev pub win_deed : List ℕ → List Deed → ℕ → ℕ → ℕ → List ℕ → Deed
win_deed wall deeds seat target tile rest =
    win_shown deeds seat target (record { own = own_tiles_of (before_wins (hand deeds)) seat tile; tile = tile; unders = unders_of wall (before_wins (hand deeds)) seat }) rest
