-- The line of a deed for a viewer is that of the deed as the viewer sees it.
use Rattle.std.proofs.Common.{◌≡◌, ℕ, Bool, true, false, List, refl, ap}
use Rattle.mj_deeds.specs.declared.four.Four.{Four}
use Rattle.mj_deeds.specs.declared.deed.Viewer.{Viewer}
use Rattle.mj_deeds.specs.declared.deed.Viewer.TheVariants.{Seat, Record}
use Rattle.mj_deeds.specs.declared.deed.Deed.{Deed}
use Rattle.mj_deeds.specs.declared.deed.Deed.TheVariants as deeds
use Rattle.mj_view.specs.Seen.{own_tile}
use Rattle.mj_view.specs.Masks.{hand_seen, deal_seen, mask}
use Rattle.mj_view.specs.Seen.{sees}
use Rattle.mj_forms.specs.Lines.{line, masked_line, hands_seen, shown_tiles, hand_at_draw, hands_or_hidden, tile_seen, tile_or_hidden, start_hand_line, draw_line, reach_accepted_line, win_line}

hand_told : (seen : Bool) (tiles : List ℕ) → shown_tiles seen tiles ≡ hand_at_draw (hand_seen seen tiles)
hand_told true tiles = refl
hand_told false tiles = refl

hands_told : (viewer : Viewer) (hands : Four (List ℕ)) → hands_seen viewer hands ≡ hands_or_hidden (deal_seen viewer hands)
hands_told viewer hands =
    let p = hand_told (sees viewer 0) hands.first in
    let q = hand_told (sees viewer 1) hands.second in
    let r = hand_told (sees viewer 2) hands.third in
    let s = hand_told (sees viewer 3) hands.fourth in
    λ i. record { first = p i; second = q i; third = r i; fourth = s i }

tile_told : (seen : Bool) (tile : ℕ) → tile_seen seen tile ≡ tile_or_hidden (own_tile seen tile)
tile_told true tile = refl
tile_told false tile = refl

pub line_of_mask : (viewer : Viewer) (d : Deed) → line viewer d ≡ masked_line viewer (mask viewer d)
unfolding reach_accepted_line win_line
line_of_mask viewer (deeds.StartHand round number honba deposits dealer indicator hands) = ap (start_hand_line round number honba deposits dealer indicator) (hands_told viewer hands)
line_of_mask viewer (deeds.Draw who tile replacement) = ap (draw_line who) (tile_told (sees viewer who) tile)
line_of_mask (Seat seat) (deeds.ReachAccepted who points bid) = refl
line_of_mask Record (deeds.ReachAccepted who points bid) = refl
line_of_mask (Seat seat) (deeds.Win who target tile unders hand yaku fu han value deltas points rest) = refl
line_of_mask Record (deeds.Win who target tile unders hand yaku fu han value deltas points rest) = refl
line_of_mask viewer other = refl
