-- The course of a hand: the one deed that follows a closed window.
use Rattle.std.specs.Prelude.{ℕ, ◌≡◌, ◌≤◌, ◌+◌, ◌-◌, ◌%◌, ◌==◌, Bool, true, false, if◌then◌else◌, List, [], ◌∷◌, ◌++◌}
use Rattle.std.specs.Prelude.{Option, Some, None, option_and_then, option_to_list, length, slice_get, unwrap_or}
use Rattle.std.specs.Option.{option_map_or}
use Rattle.std.specs.List.{slice_index_or}
use Rattle.mj_tiles.specs.Faces.{in_tile_order}
use Rattle.mj_rounds.specs.declared.rounds.Standing.{Standing}
use Rattle.mj_rounds.specs.Rounds.{first_standing}
use Rattle.mj_wall.specs.Places.{dealt_tiles, live_tile, indicator_tile, replacement_tile}
use Rattle.mj_wall.specs.declared.setting.Rules.{Rules}
use Rattle.mj_deeds.specs.declared.four.Four.{Four}
use Rattle.mj_deeds.specs.declared.answer.Pai.{Pai}
use Rattle.mj_deeds.specs.declared.answer.Pai.TheVariants.{Known, Hidden}
use Rattle.mj_deeds.specs.declared.answer.Answer.{Answer}
use Rattle.mj_deeds.specs.declared.answer.Answer.TheVariants as answers
use Rattle.mj_deeds.specs.declared.deed.Deed.{Deed}
use Rattle.mj_deeds.specs.declared.deed.Deed.TheVariants.{StartGame, StartHand, Draw, Discard, Chi, Pon, OpenKan, ClosedKan, AddedKan, Dora, Reach, ReachAccepted, Win, DrawnHand, EndHand, EndGame}
use Rattle.mj_deeds.specs.Four.{for_each_seat, next_seat}
use Rattle.mj_deeds.specs.Bids.{call_of_bid}
use Rattle.mj_deeds.specs.declared.bid.Bid.{Bid}
use Rattle.mj_deeds.specs.declared.bid.Bid.TheVariants.{NoBid}
use Rattle.mj_deeds.specs.Facts.{before_newest}
use Rattle.mj_deeds.specs.Course.{is_reach}
use Rattle.mj_deeds.specs.Reasons.{reason}
use Rattle.mj_deeds.specs.Points.{points, deposits}
use Rattle.mj_deeds.specs.Standings.{standing}
use Rattle.mj_deeds.specs.Ends.{standing_after}
use Rattle.mj_deeds.specs.declared.reason.Reason.TheVariants.{Fanpai, Kyushukyuhai}
use Rattle.mj_rules.specs.Draws.{drawn_hand}
use Rattle.mj_pay.specs.Payments.{deposit_changes}
use Rattle.mj_window.specs.declared.decision.Seats.{Seats}
use Rattle.mj_rules.specs.Wins.{win_deed, points_with}
use Rattle.mj_deeds.specs.Hand.{hand, hand_number}
use Rattle.mj_deeds.specs.Facts.{newest, live_draws, live_tiles, kans, kan_seats, indicators}
use Rattle.mj_window.specs.declared.decision.Decision.{Decision}
use Rattle.mj_window.specs.declared.decision.Decision.TheVariants.{Rons, Call, Act, Pass}
use Rattle.mj_window.specs.Decided.{decision_by}

-- The wall of a hand, counted from 0: the walls are taken in turn.
abbrev pub wall_of : List (List ℕ) → ℕ → List ℕ
wall_of walls hand = slice_index_or walls (hand % length walls) []

-- Up to the hand of that number, counted from 0, each hand has the same wall from both lists.
abbrev pub AreSame : List (List ℕ) → List (List ℕ) → ℕ → Type 0
AreSame walls others last = (number : ℕ) → number ≤ last → wall_of walls number ≡ wall_of others number

-- The thirteen tiles that a seat is dealt, in tile order: the dealer is the first that is dealt to.
abbrev pub hand_dealt : List ℕ → ℕ → ℕ → List ℕ
hand_dealt wall dealer seat = in_tile_order (dealt_tiles wall ((seat + 4 - dealer) % 4))

-- The start of a hand of a standing, with so many deposits on the table: dealt from a wall, with its first indicator.
unfoldable pub hand_start : List ℕ → Standing → ℕ → Deed
hand_start wall now deposits =
    StartHand now.round (now.dealer + 1) now.honba deposits now.dealer (indicator_tile wall 0) (for_each_seat (hand_dealt wall now.dealer))

-- A seat draws the next live tile; where none is left, the hand is drawn.
unfoldable pub next_draw : List ℕ → List Deed → ℕ → Deed
next_draw wall deeds seat =
    if live_tiles (hand deeds) == 0 then drawn_hand deeds Fanpai
    else Draw seat (live_tile wall (live_draws (hand deeds))) false

-- After a kan the next indicator is shown.
unfoldable pub next_dora : List ℕ → List Deed → Deed
next_dora wall deeds = Dora (indicator_tile wall (length (indicators deeds)))

-- The seat of the newest kan.
abbrev pub newest_kan_seat : List Deed → ℕ
newest_kan_seat deeds = unwrap_or (slice_get (kan_seats deeds) (length (kan_seats deeds) - 1)) 0

-- Its seat draws the next replacement tile.
unfoldable pub next_replacement : List ℕ → List Deed → Deed
next_replacement wall deeds = Draw (newest_kan_seat deeds) (replacement_tile wall (kans deeds - 1)) true

-- Deeds whose tiles an answer names; none where a tile is hidden.
abbrev pub of_one : (ℕ → Deed) → Pai → Option Deed
of_one deed (Known a) = Some (deed a)
of_one deed Hidden = None

abbrev pub of_two : (ℕ → ℕ → Deed) → Pai → Pai → Option Deed
of_two deed (Known a) b = of_one (deed a) b
of_two deed Hidden b = None

abbrev pub of_three : (ℕ → ℕ → ℕ → Deed) → Pai → Pai → Pai → Option Deed
of_three deed (Known a) b c = of_two (deed a) b c
of_three deed Hidden b c = None

abbrev pub of_four : (ℕ → ℕ → ℕ → ℕ → Deed) → Pai → Pai → Pai → Pai → Option Deed
of_four deed (Known a) b c d = of_three (deed a) b c d
of_four deed Hidden b c d = None

-- What the seat whose turn it is does by its answer: a discard, a reach, or a kan of its own.
abbrev pub act_of : ℕ → Answer → Option Deed
act_of seat (answers.Discard actor tile drawn) = of_one (λ t. Discard seat t drawn) tile
act_of seat (answers.ClosedKan actor a b c d) = of_four (λ x y z w. ClosedKan seat x y z w) a b c d
act_of seat (answers.AddedKan actor tile a b c) = of_four (λ t x y z. AddedKan seat t x y z) tile a b c
act_of seat (answers.Reach actor) = Some (Reach seat)
act_of seat other = None

-- The tile of a deed that is won on.
abbrev pub won_tile : Deed → ℕ
won_tile (Draw seat tile replacement) = tile
won_tile (Discard seat tile drawn) = tile
won_tile (AddedKan seat tile a b c) = tile
won_tile other = 0

-- The first of the winners on a tile, with the others after.
abbrev pub others_of : Seats → List ℕ
others_of seats = option_to_list seats.second ++ option_to_list seats.third

-- The seat whose turn a deed is.
abbrev pub seat_of : Deed → ℕ
seat_of (Draw seat tile replacement) = seat
seat_of (Discard seat tile drawn) = seat
seat_of (AddedKan seat tile a b c) = seat
seat_of other = 0

-- What a seat does by its answer to its own draw: it wins, ends the hand by nine kinds, or acts otherwise.
abbrev pub own_act : List ℕ → List Deed → Deed → ℕ → Answer → Option Deed
own_act wall deeds last seat (answers.Win actor target tile) = Some (win_deed wall deeds seat seat (won_tile last) [])
own_act wall deeds last seat (answers.NineKinds actor) = Some (drawn_hand deeds Kyushukyuhai)
own_act wall deeds last seat answer = act_of seat answer

-- A reach is accepted once its discard was not won on: the seat lays down its deposit, and a call that was bid is kept.
unfoldable pub accept : List Deed → ℕ → Bid → Deed
accept deeds seat bid = ReachAccepted seat (points_with (points deeds) (deposit_changes seat)) bid

-- The hand is drawn where a reason holds, and else goes on.
abbrev pub drawn_or : Rules → List Deed → Deed → Deed
drawn_or rules deeds deed = option_map_or (drawn_hand deeds) (reason rules.draws (hand deeds)) deed

-- A call that was bid, or else the draw of the next seat.
abbrev pub called_or_draw : List ℕ → List Deed → ℕ → Bid → Deed
called_or_draw wall deeds seat bid = unwrap_or (call_of_bid bid) (next_draw wall deeds (next_seat seat))

-- After a discard that nobody wins on: where it is that of a reach, the reach is accepted; else the hand is drawn where a
-- reason holds, the discard is called, or the next seat draws.
abbrev pub behind_discard : Rules → List ℕ → List Deed → ℕ → Bid → Deed
behind_discard rules wall deeds seat bid =
    if option_map_or is_reach (before_newest (hand deeds)) false then accept deeds seat bid
    else drawn_or rules deeds (called_or_draw wall deeds seat bid)

-- After the last winner the hand has ended; before that the next one wins on the same tile.
abbrev pub next_winner : List ℕ → List Deed → ℕ → ℕ → List ℕ → Deed
next_winner wall deeds target tile [] = EndHand
next_winner wall deeds target tile (seat ∷ rest) = win_deed wall deeds seat target tile rest

-- The next hand from its wall, or the end of the game with the deposits that are left.
abbrev pub next_start : List (List ℕ) → List Deed → Option Standing → Deed
next_start walls deeds (Some next) = hand_start (wall_of walls next.hand) next (deposits deeds)
next_start walls deeds None = EndGame (points deeds) (deposits deeds)

-- What follows a deed whose window decides nothing: after the start of the game the first hand, from the first wall; after
-- the start of a hand the dealer's draw; after a discard what follows one that is not called; after an accepted reach the
-- drawn hand where a reason holds, the call that was kept, or the draw of the next seat; after a kan the next indicator, and
-- after that the kan's seat draws a replacement tile; after a win the next winner, or the end of the hand, and that after a
-- drawn hand too; after the end of a hand the next hand, or the end of the game. After a draw, a reach, a chi or a pon the
-- answer of its seat decides, and nothing follows the end of the game.
abbrev pub after_pass : Rules → List (List ℕ) → List ℕ → List Deed → Deed → Option Deed
after_pass rules walls wall deeds (StartGame names) = Some (hand_start (wall_of walls 0) first_standing 0)
after_pass rules walls wall deeds (StartHand round number honba deposits dealer indicator hands) = Some (next_draw wall deeds dealer)
after_pass rules walls wall deeds (Draw seat tile replacement) = None
after_pass rules walls wall deeds (Discard seat tile drawn) = Some (behind_discard rules wall deeds seat NoBid)
after_pass rules walls wall deeds (Chi seat target tile a b) = None
after_pass rules walls wall deeds (Pon seat target tile a b) = None
after_pass rules walls wall deeds (OpenKan seat target tile a b c) = Some (next_dora wall (hand deeds))
after_pass rules walls wall deeds (ClosedKan seat a b c d) = Some (next_dora wall (hand deeds))
after_pass rules walls wall deeds (AddedKan seat tile a b c) = Some (next_dora wall (hand deeds))
after_pass rules walls wall deeds (Dora tile) = Some (next_replacement wall (hand deeds))
after_pass rules walls wall deeds (Reach seat) = None
after_pass rules walls wall deeds (ReachAccepted seat points bid) = Some (drawn_or rules deeds (called_or_draw wall deeds seat bid))
after_pass rules walls wall deeds (Win seat target tile unders own yaku fu han value deltas points rest) = Some (next_winner wall deeds target tile rest)
after_pass rules walls wall deeds (DrawnHand reason hands ready deltas points) = Some EndHand
after_pass rules walls wall deeds EndHand = Some (next_start walls deeds (standing_after (standing deeds) (hand deeds)))
after_pass rules walls wall deeds (EndGame points deposits) = None

-- The wall of the newest hand.
abbrev pub wall_now : List (List ℕ) → List Deed → List ℕ
wall_now walls deeds = wall_of walls (hand_number deeds)

-- What follows the newest deed by what the answers to its window decide: the first winner, the call that was bid, what the
-- seat whose turn it is does, or how the hand goes on.
abbrev pub follows : Rules → List (List ℕ) → List Deed → Deed → Decision → Option Deed
follows rules walls deeds last (Rons seats) = Some (win_deed (wall_now walls deeds) deeds seats.first (seat_of last) (won_tile last) (others_of seats))
follows rules walls deeds last (Call bid) = Some (behind_discard rules (wall_now walls deeds) deeds (seat_of last) bid)
follows rules walls deeds last (Act seat answer) = own_act (wall_now walls deeds) deeds last seat answer
follows rules walls deeds last Pass = after_pass rules walls (wall_now walls deeds) deeds last

-- The one deed that follows the window on the newest deed, by its four answers; none before the first deed and after the
-- end of the game.
unfoldable pub outcome : Rules → List (List ℕ) → List Deed → Four Answer → Option Deed
outcome rules walls deeds given = option_and_then (λ last. follows rules walls deeds last (decision_by last given)) (newest deeds)

-- A game goes on after its newest deed, unless that is its end.
abbrev pub goes_on : Option Deed → Bool
goes_on None = false
goes_on (Some (EndGame points deposits)) = false
goes_on (Some other) = true
