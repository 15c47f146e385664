-- What a window is about, and what a seat may know that decides over its own answers.
use Rattle.std.specs.Prelude.{ℕ, ◌-◌, Bool, List, Option, Some, None, option_map, flat_map, ℤ}
use Rattle.mj_tiles.specs.Faces.{number_in, less}
use Rattle.mj_tiles.specs.Counts.{room_beside}
use Rattle.mj_tiles.specs.Melds.{tiles_of_meld}
use Rattle.mj_tiles.specs.declared.meld.Meld.{Meld}
use Rattle.mj_calls.specs.Bans.{banned_kinds}
use Rattle.mj_readings.specs.declared.reading.Case.{Case}
use Rattle.mj_deeds.specs.declared.deed.Deed.{Deed}
use Rattle.mj_deeds.specs.declared.deed.Deed.TheVariants as deeds
use Rattle.mj_deeds.specs.Hand.{hand}
use Rattle.mj_deeds.specs.Facts.{newest, tiles_gained, tiles_lost, drawn_tile, seat_melds, kans, live_tiles}
use Rattle.mj_deeds.specs.Riichi.{is_in_riichi}
use Rattle.mj_deeds.specs.Passed.{own_kinds, passed_kinds, passed_in_riichi}
use Rattle.mj_deeds.specs.Points.{points_of}
use Rattle.mj_deeds.specs.Standings.{standing}
use Rattle.mj_rules.specs.Wins.{case_of}

-- What a window is about: whose turn it is and what it may be answered to.
pub data WindowTurn : Type 0 where
  -- a seat drew
  Drew : (seat : ℕ) → WindowTurn
  -- a seat discarded a tile, which others may take or win on
  Discarded : (seat tile : ℕ) → WindowTurn
  -- a seat added a tile to a triplet, which others may win on
  Added : (seat tile : ℕ) → WindowTurn
  -- a seat reached, and has to discard so that its hand is ready
  Reached : (seat : ℕ) → WindowTurn
  -- a seat took a discard and has to discard, but none of these kinds
  Called : (seat : ℕ) (banned : List ℕ) → WindowTurn
  -- it is nobody's turn
  Nobodys : WindowTurn

-- The turn in the window on a deed.
abbrev pub turn_by : Deed → WindowTurn
turn_by (deeds.Draw seat tile replacement) = Drew seat
turn_by (deeds.Discard seat tile drawn) = Discarded seat tile
turn_by (deeds.AddedKan seat tile a b c) = Added seat tile
turn_by (deeds.Reach seat) = Reached seat
turn_by (deeds.Chi seat target tile a b) = Called seat (banned_kinds (deeds.Chi seat target tile a b))
turn_by (deeds.Pon seat target tile a b) = Called seat (banned_kinds (deeds.Pon seat target tile a b))
turn_by other = Nobodys

abbrev pub turn_in : Option WindowTurn → WindowTurn
turn_in None = Nobodys
turn_in (Some turn) = turn

-- What a seat may know of the hand that decides over its own answers.
pub record SeatView : Type 0 where
  -- what the window is about
  pub turn : WindowTurn
  -- the tile that the seat has drawn and may still discard as drawn
  pub drawn : Option ℕ
  -- all tiles that it was given, and all that it put down
  pub tiles_gained : List ℕ
  pub tiles_lost : List ℕ
  -- its melds
  pub melds : List Meld
  -- how many kans stand, and how many live tiles are left
  pub kans : ℕ
  pub live : ℕ
  -- whether it is in riichi, and its points
  pub accepted : Bool
  pub points : ℤ
  -- the kinds that it discarded, that it let pass since its last discard, and since its reach
  pub own : ℕ
  pub passed : ℕ
  pub passed_in_riichi : ℕ
  -- the circumstances of a win that it would have now
  pub case : Case

-- What a seat may know, read off the newest deed and the deeds of its hand.
unfoldable pub view_of : List Deed → ℕ → SeatView
view_of deeds seat = record {
  turn = turn_in (option_map turn_by (newest deeds));
  drawn = drawn_tile deeds seat;
  tiles_gained = tiles_gained (hand deeds) seat;
  tiles_lost = tiles_lost (hand deeds) seat;
  melds = seat_melds (hand deeds) seat;
  kans = kans (hand deeds);
  live = live_tiles (hand deeds);
  accepted = is_in_riichi (hand deeds) seat;
  points = points_of deeds seat;
  own = own_kinds (hand deeds) seat;
  passed = passed_kinds (hand deeds) seat;
  passed_in_riichi = passed_in_riichi (hand deeds) seat;
  case = case_of (standing deeds) (hand deeds) seat;
}

-- How many tiles of a face the seat holds concealed.
abbrev pub held_count : SeatView → ℕ → ℕ
held_count view face = number_in view.tiles_gained face - number_in view.tiles_lost face

-- Its concealed tiles, in tile order.
abbrev pub concealed : SeatView → List ℕ
concealed view = less view.tiles_gained view.tiles_lost

-- The room that its melds leave of four tiles of each kind.
abbrev pub room : SeatView → List ℕ
room view = room_beside (flat_map tiles_of_meld view.melds)
