-- What is kept of the course of one hand.
use Rattle.std.specs.Prelude.{◌≡◌, ◌≤◌, ◌-◌, ◌==◌, ℕ, Bool, false, not, if◌then◌else◌, min, List, length, filter, count_by, flat_map, Option, Some, None, option_map, slice_get}
use Rattle.std.specs.List.{list_any, slice_index_or}
use Rattle.mj_rounds.specs.declared.rounds.HandEnd.{HandEnd}
use Rattle.mj_deeds.specs.declared.deed.Deed.{Deed}
use Rattle.mj_deeds.specs.declared.reason.Reason.{Reason}
use Rattle.mj_deeds.specs.declared.reason.Reason.TheVariants as reasons
use Rattle.mj_deeds.specs.Ends.{drawn_by_reason, draws_by}
use Rattle.mj_deeds.specs.Facts.{indicators, kan_seats}
use Rattle.mj_deeds.specs.Four.{at_seat}
use Rattle.mj_deeds.specs.Points.{is_deposit, is_win}
use Rattle.mj_deeds.specs.Reasons.{is_turn, kind_at, differ}
use Rattle.mj_facts.specs.declared.course_facts.CourseFacts.{CourseFacts}
use Rattle.mj_facts.specs.declared.course_facts.HandDraw.{HandDraw}
use Rattle.mj_facts.specs.Few.{Lists}

-- How a draw of the hand ended it, for a dealer.
abbrev pub end_by : ℕ → HandDraw → HandEnd
end_by dealer draw = drawn_by_reason draw.reason (slice_index_or draw.ready dealer false)

-- What is kept of the draw of one hand is how the first draw ended it, for each dealer.
abbrev pub Draws : List Deed → Option HandDraw → Type 0
Draws deeds draw = (dealer : ℕ) → option_map (end_by dealer) draw ≡ slice_get (flat_map (draws_by dealer) deeds) 0

-- The seat of a further kan is another than that of the first one.
abbrev pub is_another : Option ℕ → Option ℕ → Bool
is_another (Some first) (Some seat) = not (seat == first)
is_another first seat = false

-- The first of the reasons that holds, in a game whose rules have such draws.
abbrev pub reason_by : Bool → Bool → Bool → Bool → Option Reason
reason_by draws winds riichis kans =
    if not draws then None else
    (if winds then Some reasons.Suufonrenta else
    (if riichis then Some reasons.Suuchareach else
    (if kans then Some reasons.Suukaikan else None)))

-- What is kept of the course says these facts of the deeds of one hand: the indicators that are shown; the seats of the
-- first and of the newest kan, and whether the kans are not all one seat's; how many discards and calls were made, and how
-- many reaches were accepted, 255 at most; the kinds that the first four discards and calls discarded; whether a seat has
-- won; and how the first draw ended the hand.
pub record Follows (deeds : List Deed) (facts : CourseFacts) : Type 0 where
  pub shown : Lists facts.shown (indicators deeds)
  pub first_kan : facts.first_kan ≡ slice_get (kan_seats deeds) 0
  pub newest_kan : facts.newest_kan ≡ slice_get (kan_seats deeds) (length (kan_seats deeds) - 1)
  pub several : facts.several ≡ differ (kan_seats deeds)
  pub turns : facts.turns ≡ min (length (filter is_turn deeds)) 255
  pub kinds : (place : ℕ) → place ≤ 3 → at_seat facts.kinds place ≡ kind_at deeds place
  pub riichis : facts.riichis ≡ min (count_by is_deposit deeds) 255
  pub won : facts.won ≡ list_any is_win deeds
  pub draw : Draws deeds facts.draw
