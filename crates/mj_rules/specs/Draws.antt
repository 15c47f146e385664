-- A hand that ends without a winner: which hands are shown, who is ready, and what each seat gains.
use Rattle.std.specs.Prelude.{ℕ, Bool, true, false, ◌==◌, List, [], ◌∷◌, length, flat_map, Option, Some}
use Rattle.mj_tiles.specs.Counts.{kind_counts, room_beside}
use Rattle.mj_tiles.specs.Melds.{tiles_of_meld}
use Rattle.mj_waits.specs.Waits.{is_ready}
use Rattle.mj_pay.specs.Payments.{draw_changes}
use Rattle.mj_deeds.specs.declared.four.Four.{Four}
use Rattle.mj_deeds.specs.declared.reason.Reason.{Reason}
use Rattle.mj_deeds.specs.declared.reason.Reason.TheVariants.{Fanpai, Kyushukyuhai}
use Rattle.mj_deeds.specs.declared.deed.Deed.{Deed}
use Rattle.mj_deeds.specs.declared.deed.Deed.TheVariants.{Draw, DrawnHand}
use Rattle.mj_deeds.specs.Four.{for_each_seat}
use Rattle.mj_deeds.specs.Shown.{Shown, Tiles, Hidden}
use Rattle.mj_deeds.specs.Hand.{hand}
use Rattle.mj_deeds.specs.Facts.{newest, concealed_tiles, seat_melds}
use Rattle.mj_deeds.specs.Points.{points}
use Rattle.mj_rules.specs.Wins.{points_with}

-- The hand of a seat is ready: it has a wait. No wait is on a tile of which the seat holds all four.
unfoldable pub is_ready_in : List Deed → ℕ → Bool
is_ready_in deeds seat =
    let melds = seat_melds deeds seat in
    is_ready (kind_counts (concealed_tiles deeds seat)) (room_beside (flat_map tiles_of_meld melds)) (length melds)

-- The newest deed is a draw of the seat.
abbrev pub is_draw_of : ℕ → Option Deed → Bool
is_draw_of seat (Some (Draw who tile replacement)) = who == seat
is_draw_of seat other = false

-- Whose hands are shown: the ready ones at an exhaustive draw, that of the seat which has nine kinds, and none at any other
-- draw.
abbrev pub is_hand_shown : Reason → List Deed → ℕ → Bool
is_hand_shown Fanpai deeds seat = is_ready_in deeds seat
is_hand_shown Kyushukyuhai deeds seat = is_draw_of seat (newest deeds)
is_hand_shown other deeds seat = false

-- The tiles of a hand where it is shown, else how many there are.
abbrev pub shown_where : Bool → List ℕ → Shown
shown_where true tiles = Tiles tiles
shown_where false tiles = Hidden (length tiles)

-- What is seen of the hand of a seat, and of the four hands.
unfoldable pub hand_at_draw : Reason → List Deed → ℕ → Shown
hand_at_draw reason deeds seat = shown_where (is_hand_shown reason deeds seat) (concealed_tiles deeds seat)

abbrev pub hands_at_draw : Reason → List Deed → Four Shown
hands_at_draw reason deeds = for_each_seat (hand_at_draw reason deeds)

-- The hand is shown.
abbrev pub is_shown : Shown → Bool
is_shown (Tiles tiles) = true
is_shown (Hidden number) = false

-- Who is ready: at an exhaustive draw whose hand is shown, and nobody at any other.
abbrev pub ready_by : Reason → Four Shown → List Bool
ready_by Fanpai hands = is_shown hands.first ∷ is_shown hands.second ∷ is_shown hands.third ∷ is_shown hands.fourth ∷ []
ready_by other hands = false ∷ false ∷ false ∷ false ∷ []

-- The end of a hand without a winner, by what is seen of the hands: at an exhaustive draw the unready pay the ready.
unfoldable pub draw_shown : List Deed → Reason → Four Shown → Deed
draw_shown deeds reason hands =
    let ready = ready_by reason hands in
    let changes = draw_changes ready in
    DrawnHand reason hands ready changes (points_with (points deeds) changes)

-- The end of a hand without a winner, by the deeds of the hand.
abbrev pub drawn_hand : List Deed → Reason → Deed
drawn_hand deeds reason = draw_shown deeds reason (hands_at_draw reason (hand deeds))
