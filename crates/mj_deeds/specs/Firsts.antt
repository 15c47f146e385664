-- Whether a seat is in its first turn of a hand.
use Rattle.std.specs.Prelude.{ℕ, ◌==◌, ◌&&◌, Bool, not, List}
use Rattle.std.specs.List.{list_any}
use Rattle.mj_deeds.specs.declared.deed.Deed.{Deed}
use Rattle.mj_deeds.specs.declared.deed.Deed.TheVariants.{Discard}
use Rattle.mj_deeds.specs.Facts.{is_call}
use Rattle.mj_deeds.specs.Hand.{is_hand_start}

-- A deed that ends the first turn of a seat: its own discard, and a chi, pon or kan of any seat.
abbrev pub ends_first : ℕ → Deed → Bool
ends_first seat (Discard who tile drawn) = who == seat
ends_first seat other = is_call other

-- A seat is in its first turn: the hand has begun, and no deed of it has ended that turn.
abbrev pub is_first : List Deed → ℕ → Bool
is_first deeds seat = list_any is_hand_start deeds && not (list_any (ends_first seat) deeds)
