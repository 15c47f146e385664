-- Two games that agree for a seat and differ in what the seat is not told.
use Rattle.std.specs.Prelude.{◌≢◌, ℕ, ◌<◌, ◌==◌, not, Bool, true, false, if◌then◌else◌, List, [], ◌∷◌, ◌++◌, length, map, filter, flat_map, Option, Some, None}
use Rattle.std.specs.Option.{option_or, option_map_or}
use Rattle.mj_ports.specs.declared.entry.Entry.{Entry}
use Rattle.mj_ports.specs.declared.entry.Entry.TheVariants.{Sat, Back, Said, Gone, Expired}
use Rattle.mj_deeds.specs.declared.answer.Answer.{Answer}
use Rattle.mj_deeds.specs.declared.deed.Deed.{Deed}
use Rattle.mj_deeds.specs.declared.deed.Deed.TheVariants.{Draw, Chi, Pon, OpenKan, ReachAccepted}
use Rattle.mj_deeds.specs.Bids.{call_of_bid}
use Rattle.mj_wall.specs.declared.setting.Setting.{Setting}
use Rattle.mj_rules.specs.Broken.{is_call_answer}
use Rattle.mj_history.specs.After.{After, Verdict, Taken, Refused, Closing, before_all, own_part, next_deed, step, after}
use Rattle.mj_history.specs.Shown.{verdict_at}
use Rattle.mj_history.specs.Legal.{Game}
use Rattle.mj_secrecy.specs.Trace.{Agree}

-- The author of an entry.
abbrev pub author_of : Entry Answer → ℕ
author_of (Sat author name key) = author
author_of (Back author seat) = author
author_of (Said author seat answer) = author
author_of (Gone author seat) = author
author_of (Expired author window t1 t2) = author

-- The authors of a game's entries, in order.
abbrev pub authors : Game → List ℕ
authors game = map author_of game.entries

-- The seat of an answer that is another's than a seat's.
abbrev pub other_answers : ℕ → Entry Answer → List ℕ
other_answers seat (Said author who answer) = if who == seat then [] else who ∷ []
other_answers seat other = []

-- The seats of the answers of all seats but one, in order.
abbrev pub answers_of_others : ℕ → Game → List ℕ
answers_of_others seat game = flat_map (other_answers seat) game.entries

-- The seats that leave, in order.
abbrev pub leaves : Entry Answer → List ℕ
leaves (Gone author seat) = seat ∷ []
leaves other = []

abbrev pub departures : Game → List ℕ
departures game = flat_map leaves game.entries

-- The seats that come back, in order.
abbrev pub comes_back : Entry Answer → List ℕ
comes_back (Back author seat) = seat ∷ []
comes_back other = []

abbrev pub returns : Game → List ℕ
returns game = flat_map comes_back game.entries

-- The windows whose time runs out, in order.
abbrev pub runs_out : Entry Answer → List ℕ
runs_out (Expired author window t1 t2) = window ∷ []
runs_out other = []

abbrev pub expiries : Game → List ℕ
expiries game = flat_map runs_out game.entries

-- The tiles that are drawn, in order.
abbrev pub draws : Deed → List ℕ
draws (Draw seat tile replacement) = tile ∷ []
draws other = []

abbrev pub tiles_drawn : Game → List ℕ
tiles_drawn game = flat_map draws (after game.setting game.entries).deeds

-- An answer is refused, for good or not.
abbrev pub is_refused : Answer → Option Verdict → Bool
is_refused answer (Some (Refused rule)) = true
is_refused answer (Some (Closing rule)) = true
is_refused answer other = false

-- It bids for a discard, and is taken.
abbrev pub is_bid : Answer → Option Verdict → Bool
is_bid answer (Some Taken) = is_call_answer answer
is_bid answer other = false

-- The seat of an answer that passes a test by its verdict.
abbrev pub seat_that : (Answer → Option Verdict → Bool) → Setting → After → Entry Answer → List ℕ
seat_that test setting now (Said author seat answer) = if test answer (verdict_at setting.rules now seat answer) then seat ∷ [] else []
seat_that test setting now other = []

-- The seats of such answers from some point on, in order.
abbrev pub seats_from : (Answer → Option Verdict → Bool) → Setting → After → List (Entry Answer) → List ℕ
seats_from test setting now [] = []
seats_from test setting now (entry ∷ entries) = seat_that test setting now entry ++ seats_from test setting (step setting now entry) entries

-- The seats of the answers that were refused, and of those by which a discard was bid for and which were taken, whether the seat was
-- given it or another was.
abbrev pub refusals : Game → List ℕ
refusals game = seats_from is_refused game.setting before_all game.entries

abbrev pub bids : Game → List ℕ
bids game = seats_from is_bid game.setting before_all game.entries

-- The deed that closes the window which is open: the next that comes of the entries, where any comes.
abbrev pub closing : Setting → After → List (Entry Answer) → Option Deed
closing setting now [] = None
closing setting now (entry ∷ entries) = option_or (next_deed setting (own_part setting now entry) entry) (closing setting (step setting now entry) entries)

-- A deed is a call of a seat; and a call is given to a seat by its deed, or by an accepted reach that keeps it.
abbrev pub is_call_by : ℕ → Deed → Bool
is_call_by seat (Chi who target tile a b) = who == seat
is_call_by seat (Pon who target tile a b) = who == seat
is_call_by seat (OpenKan who target tile a b c) = who == seat
is_call_by seat other = false

abbrev pub is_given : ℕ → Deed → Bool
is_given seat (ReachAccepted who points bid) = option_map_or (is_call_by seat) (call_of_bid bid) false
is_given seat deed = is_call_by seat deed

-- A bid of a seat is lost where its window closes with another deed than that call: with no call of the seat.
abbrev pub is_lost : Option Deed → ℕ → Bool
is_lost None seat = false
is_lost (Some deed) seat = not (is_given seat deed)

-- The seats of the bids that were taken and lost their window, in order.
abbrev pub lost_from : Setting → After → List (Entry Answer) → List ℕ
lost_from setting now [] = []
lost_from setting now (entry ∷ entries) =
    filter (λ seat. is_lost (closing setting now (entry ∷ entries)) seat) (seat_that is_bid setting now entry) ++ lost_from setting (step setting now entry) entries

abbrev pub lost_bids : Game → List ℕ
lost_bids game = lost_from game.setting before_all game.entries

-- Two games agree for a seat, and differ in the walls and their number, in the deeds that come of them and the tiles that are drawn,
-- in the limit of a window, in the authors, in what the other seats said and in which order, in how many answers were refused, in
-- how many bids were taken and how many of them lost their window, in who left, in who came back, and in which windows the time ran
-- out. The seat's own answers have the same verdicts in both, and both have the same calls, since the seat sees them: so what was
-- refused is another's, and so is the bid that was lost.
pub record AgreeApart (seat : ℕ) : Type 0 where
  pub one : Game
  pub other : Game
  pub agree : Agree seat one other
  pub walls : one.setting.walls ≢ other.setting.walls
  pub number : length one.setting.walls ≢ length other.setting.walls
  pub deeds : (after one.setting one.entries).deeds ≢ (after other.setting other.entries).deeds
  pub drawn : tiles_drawn one ≢ tiles_drawn other
  pub limits : one.setting.rules.limit ≢ other.setting.rules.limit
  pub writers : authors one ≢ authors other
  pub order : answers_of_others seat one ≢ answers_of_others seat other
  pub refused : length (refusals one) ≢ length (refusals other)
  pub taken : length (bids one) ≢ length (bids other)
  pub bidding : length (lost_bids one) ≢ length (lost_bids other)
  pub leaving : departures one ≢ departures other
  pub coming : returns one ≢ returns other
  pub time : expiries one ≢ expiries other

-- For each seat some games do.
abbrev pub SomeAgreeApart : Type 0
SomeAgreeApart = (seat : ℕ) → seat < 4 → AgreeApart seat
