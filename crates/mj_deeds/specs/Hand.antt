-- The deeds of a game by hands: where a hand starts, and the deeds of the newest one.
use Rattle.std.specs.Prelude.{ℕ, ◌-◌, Bool, true, false, if◌then◌else◌, List, [], ◌∷◌, length, filter}
use Rattle.std.specs.List.{list_any}
use Rattle.mj_deeds.specs.declared.deed.Deed.{Deed}
use Rattle.mj_deeds.specs.declared.deed.Deed.TheVariants.{StartHand}

-- The start of a hand.
abbrev pub is_hand_start : Deed → Bool
is_hand_start (StartHand round number honba deposits dealer indicator hands) = true
is_hand_start other = false

-- Of a list what stands from the last one on that passes a test; nothing where none does.
abbrev pub from_last : {A : Type 0} → (A → Bool) → List A → List A
from_last test [] = []
from_last test (x ∷ xs) = if list_any test xs then from_last test xs else (if test x then x ∷ xs else [])

-- The deeds of the newest hand, from its start on; before the first hand there are none.
unfoldable pub hand : List Deed → List Deed
hand deeds = from_last is_hand_start deeds

-- Of the deeds of the newest hand those that stand before a deed in its own hand: a start begins a hand of its own.
abbrev pub before_in : List Deed → Deed → List Deed
before_in hand deed = if is_hand_start deed then [] else hand

-- The starts of hands, in order.
abbrev pub starts : List Deed → List Deed
starts deeds = filter is_hand_start deeds

-- The number of the newest hand, counted from 0.
abbrev pub hand_number : List Deed → ℕ
hand_number deeds = length (starts deeds) - 1
