-- What is kept of each seat of the deeds of one hand.
use Rattle.std.specs.Prelude.{◌≡◌, ◌≤◌, List, flat_map, ℕ}
use Rattle.std.specs.List.{list_any}
use Rattle.mj_deeds.specs.declared.deed.Deed.{Deed}
use Rattle.mj_deeds.specs.Course.{before_wins}
use Rattle.mj_deeds.specs.Ends.{dealer_won}
use Rattle.mj_deeds.specs.Facts.{is_discard_by, adds_by, seat_melds}
use Rattle.mj_deeds.specs.Firsts.{ends_first}
use Rattle.mj_deeds.specs.declared.four.Four.{Four}
use Rattle.mj_deeds.specs.Four.{at_seat}
use Rattle.mj_deeds.specs.Hand.{is_hand_start}
use Rattle.mj_deeds.specs.Passed.{kinds_among, own_kinds, offers_to, offered_tiles, passed_kinds, passed_in_riichi}
use Rattle.mj_deeds.specs.Riichi.{is_reach_by, has_reached, is_in_riichi, is_double, is_ippatsu, behind_first, behind_reach}
use Rattle.mj_facts.specs.declared.mark_facts.MarkFacts.{MarkFacts}
use Rattle.mj_facts.specs.declared.seat_facts.SeatFacts.{SeatFacts}
use Rattle.mj_facts.specs.Few.{Lists}

-- What is kept of a seat's riichi says these facts of the deeds of one hand: whether it has begun, and the seat's first turn
-- has ended; whether the seat has reached, its reach was accepted and is a double one; whether it has discarded after its
-- reach, and a deed after that discard ended its one turn; and whether it is within that turn, and was at the tile given.
pub record KeepsMarks (deeds : List Deed) (seat : ℕ) (marks : MarkFacts) : Type 0 where
  pub begun : marks.begun ≡ list_any is_hand_start deeds
  pub ended : marks.ended ≡ list_any (ends_first seat) deeds
  pub reached : marks.reached ≡ has_reached deeds seat
  pub accepted : marks.accepted ≡ is_in_riichi deeds seat
  pub double : marks.double ≡ is_double deeds seat
  pub declared : marks.declared ≡ list_any (is_discard_by seat) (behind_first (is_reach_by seat) deeds)
  pub broken : marks.broken ≡ list_any (ends_first seat) (behind_reach deeds seat)
  pub ippatsu : marks.ippatsu ≡ is_ippatsu deeds seat
  pub given : marks.given ≡ is_ippatsu (before_wins deeds) seat

-- What is kept of a seat says these facts of the deeds of one hand: the kinds of its discards, those of the tiles that were
-- offered to it since its last one and since its reach, those of them that it let pass, its melds, the tiles that it added
-- to them, its riichi, and whether it has won.
pub record Keeps (deeds : List Deed) (seat : ℕ) (facts : SeatFacts) : Type 0 where
  pub own : facts.own ≡ own_kinds deeds seat
  pub offered : facts.offered ≡ kinds_among (offered_tiles deeds seat)
  pub passed : facts.passed ≡ passed_kinds deeds seat
  pub offered_in_riichi : facts.offered_in_riichi ≡ kinds_among (flat_map (offers_to seat) (behind_first (is_reach_by seat) deeds))
  pub passed_in_riichi : facts.passed_in_riichi ≡ passed_in_riichi deeds seat
  pub melds : facts.melds ≡ seat_melds deeds seat
  pub added : Lists facts.added (flat_map (adds_by seat) deeds)
  pub marks : KeepsMarks deeds seat facts.marks
  pub won : facts.won ≡ dealer_won deeds seat

-- What is kept of each of the four seats says its facts of the deeds.
abbrev pub AllKeep : List Deed → Four SeatFacts → Type 0
AllKeep deeds facts = (seat : ℕ) → seat ≤ 3 → Keeps deeds seat (at_seat facts seat)
