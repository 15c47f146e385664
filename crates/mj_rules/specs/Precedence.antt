-- The laws of what decides a discard: every win, else a draw reason, else a pon or an open kan, else a chi, else the next draw.
use Rattle.std.specs.Prelude.{◌≡◌, ℕ, ◌+◌, ◌%◌, ◌<◌, Bool, true, false, List, [], ◌∷◌, filter, Option, Some, None, option_and_then, ℤ}
use Rattle.std.specs.Option.{option_map_or}
use Rattle.mj_deeds.specs.declared.four.Four.{Four}
use Rattle.mj_deeds.specs.declared.bid.Bid.{Bid}
use Rattle.mj_deeds.specs.declared.reason.Reason.{Reason}
use Rattle.mj_deeds.specs.declared.answer.Answer.{Answer}
use Rattle.mj_deeds.specs.declared.answer.Answer.TheVariants as answers
use Rattle.mj_deeds.specs.declared.deed.Deed.{Deed}
use Rattle.mj_deeds.specs.declared.deed.Deed.TheVariants.{Discard, Chi, Pon, OpenKan, AddedKan, ReachAccepted}
use Rattle.mj_deeds.specs.Four.{at_seat, next_seat}
use Rattle.mj_deeds.specs.Bids.{call_of_bid}
use Rattle.mj_deeds.specs.Course.{is_reach}
use Rattle.mj_deeds.specs.Facts.{newest, before_newest}
use Rattle.mj_deeds.specs.Hand.{hand}
use Rattle.mj_deeds.specs.Reasons.{reason}
use Rattle.mj_wall.specs.Places.{is_wall}
use Rattle.mj_wall.specs.declared.setting.Rules.{Rules}
use Rattle.mj_rules.specs.Broken.{is_win}
use Rattle.mj_rules.specs.Draws.{drawn_hand}
use Rattle.mj_rules.specs.Outcome.{of_three, of_four, accept, next_draw, outcome, wall_of, wall_now}
use Rattle.mj_rules.specs.Played.{AllLawful, IsPlayed}
use Rattle.mj_rules.specs.Wins.{win_deed}

-- A seat says that it wins.
abbrev pub wins_by : Four Answer → ℕ → Bool
wins_by given seat = is_win (at_seat given seat)

-- An answer takes a discard by a pon or an open kan.
abbrev pub is_pon_or_kan : Answer → Bool
is_pon_or_kan (answers.Pon actor target tile a b) = true
is_pon_or_kan (answers.OpenKan actor target tile a b c) = true
is_pon_or_kan other = false

-- An answer takes a discard by a chi.
abbrev pub is_chi : Answer → Bool
is_chi (answers.Chi actor target tile a b) = true
is_chi other = false

-- The deed by which a seat takes a discard as it says.
abbrev pub taking : ℕ → Answer → Option Deed
taking seat (answers.Chi actor target tile a b) = of_three (λ t x y. Chi seat target t x y) tile a b
taking seat (answers.Pon actor target tile a b) = of_three (λ t x y. Pon seat target t x y) tile a b
taking seat (answers.OpenKan actor target tile a b c) = of_four (λ t x y z. OpenKan seat target t x y z) tile a b c
taking seat other = None

-- The other seats in turn order after a seat, and those of them that win.
abbrev pub behind : ℕ → List ℕ
behind who = (who + 1) % 4 ∷ (who + 2) % 4 ∷ (who + 3) % 4 ∷ []

abbrev pub winners_behind : ℕ → Four Answer → List ℕ
winners_behind who given = filter (wins_by given) (behind who)

-- The seat and the tile of a deed on whose tile others may win.
abbrev pub offer_of : Deed → Option (ℕ × ℕ)
offer_of (Discard seat tile drawn) = Some (seat, tile)
offer_of (AddedKan seat tile a b c) = Some (seat, tile)
offer_of other = None

-- All who win on a tile win: the first of them in turn order after its seat, with all others after it, and nothing else comes.
abbrev pub AllWinsCome : Type 0
AllWinsCome =
    (rules : Rules) (walls : List (List ℕ)) (deeds : List Deed) (given : Four Answer) (who tile first : ℕ) (others : List ℕ) → option_and_then offer_of (newest deeds) ≡ Some (who, tile) →
    winners_behind who given ≡ first ∷ others → outcome rules walls deeds given ≡ Some (win_deed (wall_now walls deeds) deeds first who tile others)

-- The newest of played deeds is a discard of a seat, and four lawful answers to it are given.
pub record Answered (rules : Rules) (walls : List (List ℕ)) (deeds : List Deed) (given : Four Answer) (who tile : ℕ) : Type 0 where
  pub whole : (number : ℕ) → is_wall rules.red (wall_of walls number) ≡ true
  pub played : IsPlayed rules walls deeds
  pub lawful : AllLawful rules deeds given
  pub drawn : Bool
  pub discarded : newest deeds ≡ Some (Discard who tile drawn)

-- At most one seat takes a discard by a pon or an open kan, and at most one by a chi: so no two bids of one kind meet, and no tie is
-- broken by a seat's number.
abbrev pub OnePonOrKan : Type 0
OnePonOrKan =
    (rules : Rules) (walls : List (List ℕ)) (deeds : List Deed) (given : Four Answer) (who tile one other : ℕ) → Answered rules walls deeds given who tile → one < 4 → other < 4 →
    is_pon_or_kan (at_seat given one) ≡ true → is_pon_or_kan (at_seat given other) ≡ true → one ≡ other

abbrev pub OneChi : Type 0
OneChi =
    (rules : Rules) (walls : List (List ℕ)) (deeds : List Deed) (given : Four Answer) (who tile one other : ℕ) → Answered rules walls deeds given who tile → one < 4 → other < 4 →
    is_chi (at_seat given one) ≡ true → is_chi (at_seat given other) ≡ true → one ≡ other

-- What comes of a discard that isn't won on: the hand is drawn where a reason holds, else the call comes, and without one the next
-- seat draws.
pub record ComesOf (rules : Rules) (walls : List (List ℕ)) (deeds : List Deed) (given : Four Answer) (who : ℕ) (call : Option Deed) : Type 0 where
  pub drawn : (why : Reason) → reason rules.draws (hand deeds) ≡ Some why → outcome rules walls deeds given ≡ Some (drawn_hand deeds why)
  pub called : (deed : Deed) → reason rules.draws (hand deeds) ≡ None → call ≡ Some deed → outcome rules walls deeds given ≡ Some deed
  pub draws : reason rules.draws (hand deeds) ≡ None → call ≡ None → outcome rules walls deeds given ≡ Some (next_draw (wall_now walls deeds) deeds (next_seat who))

-- The discard of a reach is accepted first, and keeps the call.
pub record IsKept (rules : Rules) (walls : List (List ℕ)) (deeds : List Deed) (given : Four Answer) (who : ℕ) (call : Option Deed) : Type 0 where
  pub bid : Bid
  pub is_call : call_of_bid bid ≡ call
  pub accepted : outcome rules walls deeds given ≡ Some (accept deeds who bid)

-- The newest deed is the discard of a reach.
abbrev pub is_of_reach : List Deed → Bool
is_of_reach deeds = option_map_or is_reach (before_newest (hand deeds)) false

-- So a discard is decided with a call, or with none.
pub record IsDecided (rules : Rules) (walls : List (List ℕ)) (deeds : List Deed) (given : Four Answer) (who : ℕ) (call : Option Deed) : Type 0 where
  pub of_reach : is_of_reach deeds ≡ true → IsKept rules walls deeds given who call
  pub otherwise : is_of_reach deeds ≡ false → ComesOf rules walls deeds given who call

abbrev pub NobodyWins : Four Answer → Type 0
NobodyWins given = (seat : ℕ) → seat < 4 → wins_by given seat ≡ false

abbrev pub NoPonOrKan : Four Answer → Type 0
NoPonOrKan given = (seat : ℕ) → seat < 4 → is_pon_or_kan (at_seat given seat) ≡ false

-- A call that a seat says is the call by which it is decided.
pub record IsTaken (rules : Rules) (walls : List (List ℕ)) (deeds : List Deed) (given : Four Answer) (who seat : ℕ) : Type 0 where
  pub call : Deed
  pub said : taking seat (at_seat given seat) ≡ Some call
  pub decided : IsDecided rules walls deeds given who (Some call)

-- Where nobody wins, a pon or an open kan that is said is the call, whatever chi is said beside it.
abbrev pub PonOrKanComes : Type 0
PonOrKanComes =
    (rules : Rules) (walls : List (List ℕ)) (deeds : List Deed) (given : Four Answer) (who tile seat : ℕ) → Answered rules walls deeds given who tile → NobodyWins given → seat < 4 →
    is_pon_or_kan (at_seat given seat) ≡ true → IsTaken rules walls deeds given who seat

-- Where nobody says one, a chi that is said is the call.
abbrev pub ChiComes : Type 0
ChiComes =
    (rules : Rules) (walls : List (List ℕ)) (deeds : List Deed) (given : Four Answer) (who tile seat : ℕ) → Answered rules walls deeds given who tile → NobodyWins given → NoPonOrKan given → seat < 4 →
    is_chi (at_seat given seat) ≡ true → IsTaken rules walls deeds given who seat

-- Where nobody calls, there is none.
abbrev pub NothingIsCalled : Type 0
NothingIsCalled =
    (rules : Rules) (walls : List (List ℕ)) (deeds : List Deed) (given : Four Answer) (who tile : ℕ) → Answered rules walls deeds given who tile → NobodyWins given → NoPonOrKan given →
    ((seat : ℕ) → seat < 4 → is_chi (at_seat given seat) ≡ false) → IsDecided rules walls deeds given who None

-- After an accepted reach the call that it kept comes, unless a reason holds.
abbrev pub KeptCallComes : Type 0
KeptCallComes =
    (rules : Rules) (walls : List (List ℕ)) (deeds : List Deed) (given : Four Answer) (who : ℕ) (said : List ℤ) (bid : Bid) → newest deeds ≡ Some (ReachAccepted who said bid) →
    ComesOf rules walls deeds given who (call_of_bid bid)
