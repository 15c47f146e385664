-- What the four answers to a window decide: a bid that is taken, or the act of the seat whose turn it is.
use Rattle.std.specs.Prelude.{ℕ, ◌+◌, ◌%◌, Bool, true, false, List, [], ◌∷◌, filter, slice_get}
use Rattle.mj_deeds.specs.declared.four.Four.{Four}
use Rattle.mj_deeds.specs.declared.answer.Pai.{Pai}
use Rattle.mj_deeds.specs.declared.answer.Pai.TheVariants.{Known, Hidden}
use Rattle.mj_deeds.specs.declared.answer.Answer.{Answer}
use Rattle.mj_deeds.specs.declared.answer.Answer.TheVariants as answers
use Rattle.mj_deeds.specs.declared.bid.Bid.{Bid}
use Rattle.mj_deeds.specs.declared.bid.Bid.TheVariants as bids
use Rattle.mj_deeds.specs.declared.deed.Deed.{Deed}
use Rattle.mj_deeds.specs.declared.deed.Deed.TheVariants.{Draw, Discard, Chi, Pon, AddedKan, Reach}
use Rattle.mj_deeds.specs.Four.{at_seat}
use Rattle.mj_window.specs.declared.decision.Decision.{Decision}
use Rattle.mj_window.specs.declared.decision.Decision.TheVariants.{Rons, Call, Act, Pass}

-- A bid of named tiles; none where one of them is hidden.
abbrev pub bid_of_three : (ℕ → ℕ → ℕ → Bid) → Pai → Pai → Pai → Bid
bid_of_three bid (Known t) (Known a) (Known b) = bid t a b
bid_of_three bid (Known t) (Known a) Hidden = bids.NoBid
bid_of_three bid (Known t) Hidden b = bids.NoBid
bid_of_three bid Hidden a b = bids.NoBid

abbrev pub bid_of_four : (ℕ → ℕ → ℕ → ℕ → Bid) → Pai → Pai → Pai → Pai → Bid
bid_of_four bid (Known t) a b c = bid_of_three (bid t) a b c
bid_of_four bid Hidden a b c = bids.NoBid

-- The pon or the kan that a seat bids for a discard.
abbrev pub triplet_bid : ℕ → Answer → Bid
triplet_bid seat (answers.Pon actor target tile a b) = bid_of_three (λ t x y. bids.Pon seat target t x y) tile a b
triplet_bid seat (answers.OpenKan actor target tile a b c) = bid_of_four (λ t x y z. bids.OpenKan seat target t x y z) tile a b c
triplet_bid seat other = bids.NoBid

-- The chi that it bids.
abbrev pub run_bid : ℕ → Answer → Bid
run_bid seat (answers.Chi actor target tile a b) = bid_of_three (λ t x y. bids.Chi seat target t x y) tile a b
run_bid seat other = bids.NoBid

-- The one bid, or else the other.
abbrev pub or_bid : Bid → Bid → Bid
or_bid bids.NoBid other = other
or_bid bid other = bid

-- Of the four seats the first that bids so.
abbrev pub bid_by : (ℕ → Answer → Bid) → Four Answer → Bid
bid_by bid given = or_bid (bid 0 given.first) (or_bid (bid 1 given.second) (or_bid (bid 2 given.third) (bid 3 given.fourth)))

-- The bid for a discard that is taken: a pon or a kan, where one is bid, and else a chi.
unfoldable pub best_bid : Four Answer → Bid
best_bid given = or_bid (bid_by triplet_bid given) (bid_by run_bid given)

-- The discard is called where a bid is taken.
abbrev pub call_or_pass : Bid → Decision
call_or_pass bids.NoBid = Pass
call_or_pass bid = Call bid

-- A seat wins by its answer.
abbrev pub is_win : Answer → Bool
is_win (answers.Win actor target tile) = true
is_win other = false

-- The other seats in turn order after a seat.
abbrev pub seats_after : ℕ → List ℕ
seats_after seat = (seat + 1) % 4 ∷ (seat + 2) % 4 ∷ (seat + 3) % 4 ∷ []

-- The seats that win on a tile of a seat, in turn order after it.
abbrev pub rons_on : ℕ → Four Answer → List ℕ
rons_on seat given = filter (λ other. is_win (at_seat given other)) (seats_after seat)

-- They win, where there are any; and else it is decided otherwise.
abbrev pub rons_or : List ℕ → Decision → Decision
rons_or [] other = other
rons_or (seat ∷ seats) other = Rons (record { first = seat; second = slice_get seats 0; third = slice_get seats 1 })

-- By the newest deed: a discard or an added kan is won on by the seats that say so; else a discard is called by the best
-- bid; who drew, reached or called acts by its own answer; and else nothing is decided by the answers.
abbrev pub decision_by : Deed → Four Answer → Decision
decision_by (Discard seat tile drawn) given = rons_or (rons_on seat given) (call_or_pass (best_bid given))
decision_by (AddedKan seat tile a b c) given = rons_or (rons_on seat given) Pass
decision_by (Draw seat tile replacement) given = Act seat (at_seat given seat)
decision_by (Reach seat) given = Act seat (at_seat given seat)
decision_by (Chi seat target tile a b) given = Act seat (at_seat given seat)
decision_by (Pon seat target tile a b) given = Act seat (at_seat given seat)
decision_by other given = Pass
