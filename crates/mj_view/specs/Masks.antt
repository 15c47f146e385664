-- A deed as a viewer sees it: each hidden tile, and what the record alone is told, is replaced by none.
use Rattle.std.specs.Prelude.{ℕ, Bool, true, false, List, length, Option, Some, None}
use Rattle.mj_deeds.specs.declared.four.Four.{Four}
use Rattle.mj_deeds.specs.Shown.{Shown, Tiles, Hidden}
use Rattle.mj_deeds.specs.declared.deed.Viewer.{Viewer}
use Rattle.mj_deeds.specs.declared.deed.Viewer.TheVariants.{Seat, Record}
use Rattle.mj_deeds.specs.declared.deed.Deed.{Deed}
use Rattle.mj_deeds.specs.declared.deed.Deed.TheVariants as deeds
use Rattle.mj_view.specs.declared.masked.Masked.{Masked}
use Rattle.mj_view.specs.declared.masked.Masked.TheVariants as masks
use Rattle.mj_view.specs.Seen.{own_tile}
pub use Rattle.mj_view.specs.Seen.{sees}

-- What the record alone is told.
abbrev pub for_record : {A : Type 0} → Viewer → A → Option A
for_record (Seat seat) fact = None
for_record Record fact = Some fact

-- A dealt hand that is seen, or the number of its tiles.
abbrev pub hand_seen : Bool → List ℕ → Shown
hand_seen true tiles = Tiles tiles
hand_seen false tiles = Hidden (length tiles)

-- The four dealt hands as a viewer sees them.
abbrev pub deal_seen : Viewer → Four (List ℕ) → Four Shown
deal_seen viewer hands = record {
  first = hand_seen (sees viewer 0) hands.first;
  second = hand_seen (sees viewer 1) hands.second;
  third = hand_seen (sees viewer 2) hands.third;
  fourth = hand_seen (sees viewer 3) hands.fourth;
}

-- The deed as a viewer sees it.
abbrev pub mask : Viewer → Deed → Masked
mask viewer (deeds.StartGame names) = masks.StartGame names
mask viewer (deeds.StartHand round number honba deposits dealer indicator hands) = masks.StartHand round number honba deposits dealer indicator (deal_seen viewer hands)
mask viewer (deeds.Draw seat tile replacement) = masks.Draw seat (own_tile (sees viewer seat) tile) replacement
mask viewer (deeds.Discard seat tile drawn) = masks.Discard seat tile drawn
mask viewer (deeds.Chi seat target tile a b) = masks.Chi seat target tile a b
mask viewer (deeds.Pon seat target tile a b) = masks.Pon seat target tile a b
mask viewer (deeds.OpenKan seat target tile a b c) = masks.OpenKan seat target tile a b c
mask viewer (deeds.ClosedKan seat a b c d) = masks.ClosedKan seat a b c d
mask viewer (deeds.AddedKan seat tile a b c) = masks.AddedKan seat tile a b c
mask viewer (deeds.Dora tile) = masks.Dora tile
mask viewer (deeds.Reach seat) = masks.Reach seat
mask viewer (deeds.ReachAccepted seat points bid) = masks.ReachAccepted seat points (for_record viewer bid)
mask viewer (deeds.Win seat target tile unders hand yaku fu han value deltas points rest) = masks.Win seat target tile unders hand yaku fu han value deltas points (for_record viewer rest)
mask viewer (deeds.DrawnHand reason hands ready deltas points) = masks.DrawnHand reason hands ready deltas points
mask viewer deeds.EndHand = masks.EndHand
mask viewer (deeds.EndGame points deposits) = masks.EndGame points deposits
