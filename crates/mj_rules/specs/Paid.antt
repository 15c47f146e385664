-- The laws of what a win is worth, and what is paid for it.
use Rattle.std.specs.Prelude.{◌≡◌, ℕ, ◌<◌, Bool, true, false, nat_lt, List, [], ◌∷◌, ◌++◌, length, map, filter, flat_map, slice_index, Option, Some, is_some, option_and_then, ℤ, pos, ◌+ℤ◌}
use Rattle.std.specs.List.{list_all, slice_index_or}
use Rattle.mj_tiles.specs.Faces.{kind_of, less}
use Rattle.mj_tiles.specs.Counts.{kind_counts}
use Rattle.mj_tiles.specs.Melds.{tiles_of_meld}
use Rattle.mj_yaku.specs.Han.{has_yakuman, han}
use Rattle.mj_pay.specs.Payments.{ron_changes, drawn_changes}
use Rattle.mj_score.specs.declared.score.Extra.{Extra}
use Rattle.mj_score.specs.declared.score.Score.{Score}
use Rattle.mj_score.specs.Scores.{rows_of}
use Rattle.mj_score.specs.Worth.{worth_of}
use Rattle.mj_deeds.specs.declared.four.Four.{Four}
use Rattle.mj_deeds.specs.declared.answer.Answer.{Answer}
use Rattle.mj_deeds.specs.declared.deed.Deed.{Deed}
use Rattle.mj_deeds.specs.declared.deed.Deed.TheVariants.{Draw, Win}
use Rattle.mj_deeds.specs.Facts.{newest, concealed_tiles, indicators}
use Rattle.mj_deeds.specs.Four.{at_seat}
use Rattle.mj_deeds.specs.Hand.{hand}
use Rattle.mj_deeds.specs.Points.{points_of, deposits}
use Rattle.mj_deeds.specs.Points.{is_win as is_win_deed}
use Rattle.mj_deeds.specs.Riichi.{is_in_riichi}
use Rattle.mj_deeds.specs.Standings.{standing}
use Rattle.mj_wall.specs.Places.{is_wall, under_tile}
use Rattle.mj_wall.specs.declared.setting.Rules.{Rules}
use Rattle.mj_rules.specs.Broken.{is_win, won_tiles}
use Rattle.mj_rules.specs.Outcome.{won_tile, outcome, wall_of, wall_now}
use Rattle.mj_rules.specs.Played.{IsLawful, AllLawful, IsPlayed}
use Rattle.mj_rules.specs.Precedence.{offer_of, winners_behind}
use Rattle.mj_rules.specs.View.{SeatView, view_of}
use Rattle.mj_rules.specs.Wins.{extra_by}

-- What a win on a tile is worth by what its seat may know: its concealed tiles with the one that is won on, its own melds, and the
-- circumstances by which its answer is judged.
abbrev pub worth_by : SeatView → ℕ → Extra → Option Score
worth_by view tile extra = worth_of (kind_counts (won_tiles view)) view.melds (kind_of tile) view.case extra

-- A lawful win is worth something, whatever the dora.
abbrev pub LawfulWinsAreWorth : Type 0
LawfulWinsAreWorth =
    (rules : Rules) (deeds : List Deed) (last : Deed) (seat : ℕ) (answer : Answer) (extra : Extra) → newest deeds ≡ Some last → is_win answer ≡ true → IsLawful rules deeds seat answer →
    is_some (worth_by (view_of deeds seat) (won_tile last) extra) ≡ true

-- The hidden indicators that a winner shows: in riichi the one under each indicator that is shown, in their order, and else none.
pub record ShowsUnders (wall : List ℕ) (deeds : List Deed) (seat : ℕ) (unders : List ℕ) : Type 0 where
  pub as_many : is_in_riichi deeds seat ≡ true → length unders ≡ length (indicators deeds)
  pub each : is_in_riichi deeds seat ≡ true → (place : ℕ) → place < length (indicators deeds) → slice_index unders place ≡ under_tile wall place
  pub without_riichi : is_in_riichi deeds seat ≡ false → unders ≡ []

-- The dora of a winner by what it shows: of its own tiles, the one that is won on and its melds.
abbrev pub extra_shown : List Deed → ℕ → ℕ → List ℕ → List ℕ → Extra
extra_shown window seat tile unders own = extra_by (indicators (hand window)) unders (own ++ tile ∷ flat_map tiles_of_meld (view_of window seat).melds)

-- The dora that are listed: none beside a yakuman, and else of those by the indicators, those by the hidden ones and the red fives each
-- of which there are any, with their number.
abbrev pub dora_listed : Bool → Extra → List (ℕ × ℕ)
dora_listed true extra = []
dora_listed false extra = filter (λ row. nat_lt 0 row.1) ((28, extra.dora) ∷ (29, extra.under) ∷ (30, extra.red) ∷ [])

-- The rows that are listed for a score: each of its yaku with its han, and after them the dora.
abbrev pub rows_listed : Score → Bool → Extra → List (ℕ × ℕ)
rows_listed score closed extra = map (λ row. (row, han row closed)) (rows_of score.yaku) ++ dora_listed (has_yakuman score.yaku) extra

-- The points of the four seats with what each of them gains.
abbrev pub points_then : List Deed → List ℤ → List ℤ
points_then deeds gains = map (λ seat. points_of deeds seat +ℤ slice_index_or gains seat (pos 0)) (0 ∷ 1 ∷ 2 ∷ 3 ∷ [])

-- A win that is said in a window is paid behind the deeds, which may be those of wins before it: the winner shows the hidden
-- indicators and its own tiles, and the deed lists the rows, and says the fu, the han and the points of what the win is worth in that
-- window. Its payments are these for its base, so many honba and deposits; its value is what they bring the winner without either.
pub record IsPaid (wall : List ℕ) (window deeds : List Deed) (seat target tile : ℕ) (own : List ℕ) (payments : ℕ → ℕ → ℕ → List ℤ) (honba laid : ℕ) (rest : List ℕ) (deed : Deed) : Type 0 where
  pub unders : List ℕ
  pub shown : ShowsUnders wall (hand window) seat unders
  pub score : Score
  pub worth : worth_by (view_of window seat) tile (extra_shown window seat tile unders own) ≡ Some score
  pub value : ℕ
  pub brings : slice_index_or (payments score.base 0 0) seat (pos 0) ≡ pos value
  pub is : deed ≡
      Win seat target tile unders own (rows_listed score (view_of window seat).case.closed (extra_shown window seat tile unders own)) score.fu score.han value (payments score.base honba laid)
      (points_then deeds (payments score.base honba laid)) rest

-- The deed that comes, and how it is paid.
pub record ComesPaid (rules : Rules) (walls : List (List ℕ)) (deeds : List Deed) (given : Four Answer) (window : List Deed) (seat target tile : ℕ)
    (own : List ℕ) (payments : ℕ → ℕ → ℕ → List ℤ) (honba laid : ℕ)
    (rest : List ℕ) : Type 0 where
  pub deed : Deed
  pub comes : outcome rules walls deeds given ≡ Some deed
  pub paid : IsPaid (wall_now walls deeds) window deeds seat target tile own payments honba laid rest deed

-- Of those who win lawfully on a tile, after played deeds, the first in turn order takes what the tile's seat pays, with the honba and
-- the deposits, and shows its concealed tiles.
abbrev pub FirstRonIsPaid : Type 0
FirstRonIsPaid =
    (rules : Rules) (walls : List (List ℕ)) (deeds : List Deed) (given : Four Answer) (who tile first : ℕ) (others : List ℕ) → ((number : ℕ) → is_wall rules.red (wall_of walls number) ≡ true) →
    IsPlayed rules walls deeds → AllLawful rules deeds given → option_and_then offer_of (newest deeds) ≡ Some (who, tile) → winners_behind who given ≡ first ∷ others →
    ComesPaid rules walls deeds given deeds first who tile (concealed_tiles (hand deeds) first) (ron_changes first who (standing deeds).dealer) (standing deeds).honba (deposits deeds) others

-- Each further one of them, after the wins before it and whatever is answered there, takes what that seat pays, without honba and
-- deposits, and shows its concealed tiles.
abbrev pub FurtherRonsArePaid : Type 0
FurtherRonsArePaid =
    (rules : Rules) (walls : List (List ℕ)) (window : List Deed) (first : Deed) (more : List Deed) (given : Four Answer) (who tile seat : ℕ)
    (answer : Answer) (winner : ℕ) (unders own : List ℕ) (yaku : List (ℕ × ℕ))
    (fu han value : ℕ) (deltas said : List ℤ) (rest : List ℕ) → ((number : ℕ) → is_wall rules.red (wall_of walls number) ≡ true) → IsPlayed rules walls window →
    option_and_then offer_of (newest window) ≡ Some (who, tile) → is_win answer ≡ true → IsLawful rules window seat answer → list_all is_win_deed (first ∷ more) ≡ true →
    newest (window ++ first ∷ more) ≡ Some (Win winner who tile unders own yaku fu han value deltas said (seat ∷ rest)) →
    ComesPaid rules walls (window ++ first ∷ more) given window seat who tile (concealed_tiles (hand window) seat) (ron_changes seat who (standing window).dealer) 0 0 rest

-- Who wins lawfully on its own draw takes what all others pay, with the honba and the deposits, and shows its concealed tiles without
-- the drawn one.
abbrev pub OwnWinIsPaid : Type 0
OwnWinIsPaid =
    (rules : Rules) (walls : List (List ℕ)) (deeds : List Deed) (given : Four Answer) (seat tile : ℕ) (replacement : Bool) → ((number : ℕ) → is_wall rules.red (wall_of walls number) ≡ true) →
    IsPlayed rules walls deeds → AllLawful rules deeds given → newest deeds ≡ Some (Draw seat tile replacement) → is_win (at_seat given seat) ≡ true →
    ComesPaid rules walls deeds given deeds seat seat tile (less (concealed_tiles (hand deeds) seat) (tile ∷ []))
    (drawn_changes seat (standing deeds).dealer) (standing deeds).honba (deposits deeds) []
