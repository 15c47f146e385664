-- Whether a deed fits in its hand, by what a table keeps of the hand.
use Rattle.std.specs.Prelude.{ℕ, ◌+◌, ◌-◌, ◌&&◌, ◌||◌, not, Bool, true, nat_lt, nat_le, [], ◌∷◌, length}
use Rattle.std.specs.List.{list_any, list_all}
use Rattle.mj_deeds.specs.declared.deed.Deed.{Deed}
use Rattle.mj_deeds.specs.declared.deed.Deed.TheVariants.{Draw, AddedKan, ReachAccepted}
use Rattle.mj_deeds.specs.Facts.{is_kan, makes_by}
use Rattle.mj_deeds.specs.Fits.{has_seats, has_tiles, is_triplet_of}
use Rattle.mj_deeds.specs.Four.{at_seat}
use Rattle.mj_deeds.specs.declared.four.Four.{Four}
use Rattle.mj_facts.specs.declared.hand_facts.HandFacts.{HandFacts}
use Rattle.mj_facts.specs.declared.seat_facts.SeatFacts.{SeatFacts}

-- All four are so.
abbrev pub are_four : Bool → Bool → Bool → Bool → Bool
are_four first second third fourth = first && second && third && fourth

-- A tile that is added goes to an own pon of its kind.
abbrev pub adds_to_own : Four SeatFacts → Deed → Bool
adds_to_own seats (AddedKan who tile a b c) = list_any (is_triplet_of tile a b c) (at_seat seats who).melds
adds_to_own seats other = true

-- No seat has a fifth meld.
abbrev pub has_place_for : Four SeatFacts → Deed → ℕ → Bool
has_place_for seats deed seat = nat_le (length (at_seat seats seat).melds + length (makes_by seat deed)) 4

abbrev pub has_places : Four SeatFacts → Deed → Bool
has_places seats deed = list_all (has_place_for seats deed) (0 ∷ 1 ∷ 2 ∷ 3 ∷ [])

-- There is no fifth kan, and a kan needs a live tile; so does a live draw.
abbrev pub has_tile_left : HandFacts → Deed → Bool
has_tile_left facts (Draw who tile replacement) = replacement || nat_lt 0 (70 - facts.drawn - facts.kans)
has_tile_left facts deed = not (is_kan deed) || (nat_lt facts.kans 4 && nat_lt 0 (70 - facts.drawn - facts.kans))

-- A seat's reach is accepted once at most.
abbrev pub reaches_first : Four SeatFacts → Deed → Bool
reaches_first seats (ReachAccepted who points bid) = not (at_seat seats who).marks.accepted
reaches_first seats other = true

-- A deed fits in its hand, where the seats hold the tiles that they put down, or don't, no kind is brought in a fifth time, or
-- one is, and no seat has a fifth meld, or one has.
unfoldable pub fits_by : Bool → Bool → Bool → Bool → HandFacts → Deed → Bool
fits_by red held kinds places facts deed =
    has_seats deed && held && adds_to_own facts.seats deed && has_tiles red deed && kinds && places && has_tile_left facts deed && reaches_first facts.seats deed
