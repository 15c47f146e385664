-- The standing of a game, read off a list of its deeds.
use Rattle.std.specs.Prelude.{ℕ, List, Option, Some}
use Rattle.mj_rounds.specs.declared.rounds.Standing.{Standing}
use Rattle.mj_rounds.specs.Rounds.{first_standing}
use Rattle.mj_deeds.specs.declared.deed.Deed.{Deed}
use Rattle.mj_deeds.specs.declared.deed.Deed.TheVariants.{StartHand}
use Rattle.mj_deeds.specs.Facts.{newest}
use Rattle.mj_deeds.specs.Hand.{starts, hand_number}

-- The standing that a start of a hand says, of the hand of that number, counted from 0; that of the first hand where there
-- is no start.
abbrev pub standing_by : ℕ → Option Deed → Standing
standing_by number (Some (StartHand round dealer_number honba deposits dealer indicator hands)) = record { round = round; dealer = dealer; honba = honba; hand = number }
standing_by number other = first_standing

-- The standing of the newest hand.
abbrev pub standing : List Deed → Standing
standing deeds = standing_by (hand_number deeds) (newest (starts deeds))
