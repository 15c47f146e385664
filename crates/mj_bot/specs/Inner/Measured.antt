-- What is known of a seat's hand before its discard is chosen.
use Rattle.std.specs.Prelude.{ℕ, ◌≡◌, ◌<◌, ◌≤◌, true, List, Some, is_none, length, map, IsTrue}
use Rattle.mj_tiles.specs.Counts.{kind_counts}
use Rattle.mj_readings.specs.Sets.{set_of_meld}
use Rattle.mj_suits.specs.Tables.{IsLeast}
use Rattle.mj_shanten.specs.Room.{IsRoom}
use Rattle.mj_shanten.specs.Shanten.{IsGoal}
use Rattle.mj_wall.specs.declared.setting.Rules.{Rules}
use Rattle.mj_rules.specs.Broken.{broken_by}
use Rattle.mj_rules.specs.Default.{discard_of}
use Rattle.mj_rules.specs.View.{SeatView, concealed, room}
use Rattle.mj_judge.specs.Measured.{is_measured}

-- These are the counts and the room of the seat's hand, the number of its melds, and how many tiles the nearest complete hand
-- misses.
pub record IsMeasuredHand (view : SeatView) (counts left : List ℕ) (melds missing : ℕ) : Type 0 where
  pub counts_are : counts ≡ kind_counts (concealed view)
  pub left_is : left ≡ room view
  pub melds_are : melds ≡ length view.melds
  pub few : melds ≤ 4
  pub size : length counts ≡ 34
  pub is_room : IsRoom left melds
  pub least : IsLeast counts (IsGoal left melds) missing
  pub measured : IsTrue (is_measured (kind_counts (concealed view)) (room view) (map set_of_meld view.melds))

-- The seat is in riichi, and this is the tile that it has drawn, whose discard breaks no rule.
pub record IsLockedDiscard (rules : Rules) (seat : ℕ) (view : SeatView) (tile : ℕ) : Type 0 where
  pub accepted : view.accepted ≡ true
  pub drawn : view.drawn ≡ Some tile
  pub face : tile < 37
  pub lawful : IsTrue (is_none (broken_by rules seat view (discard_of seat view tile)))
