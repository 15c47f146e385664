-- The newest deed and the one beside it: what a table keeps of the deeds themselves.
use Rattle.std.specs.Prelude.{ℕ, ◌==◌, ◌-◌, ◌||◌, ◌&&◌, Bool, false, not, if◌then◌else◌, List, length, take, Option, Some, None, option_and_then}
use Rattle.mj_deeds.specs.declared.deed.Deed.{Deed}
use Rattle.mj_deeds.specs.declared.deed.Deed.TheVariants.{Discard, Dora, Reach, ReachAccepted, Win, EndHand}
use Rattle.mj_deeds.specs.Course.{only_if, is_reach, is_offer, before_wins}
use Rattle.mj_deeds.specs.Facts.{newest, drawn_by}
use Rattle.mj_deeds.specs.Hand.{is_hand_start}
use Rattle.mj_deeds.specs.Points.{is_win}
use Rattle.mj_table.specs.declared.latest.Latest.{Latest}

-- The newest deed and the one beside it, as they are kept.
abbrev pub newest_of : Latest → Option Deed
newest_of latest = if latest.turned then latest.second else latest.first

abbrev pub previous_of : Latest → Option Deed
previous_of latest = if latest.turned then latest.first else latest.second

-- Of the deeds of one hand before a deed the one that stands beside it: the newest, and before a win the newest that is no
-- win.
abbrev pub previous_to : List Deed → Deed → Option Deed
previous_to before deed = if is_win deed then newest (before_wins before) else newest before

-- The deed that stands beside the newest one.
abbrev pub previous : List Deed → Option Deed
previous deeds = option_and_then (previous_to (take (length deeds - 1) deeds)) (newest deeds)

-- The newest deed is a win.
abbrev pub is_after_win : Option Deed → Bool
is_after_win None = false
is_after_win (Some deed) = is_win deed

-- What stands beside a further deed: nothing of an earlier hand, and after a win what stood beside it.
abbrev pub previous_with : Bool → Option Deed → Option Deed → Deed → Option Deed
previous_with begun before newest deed =
    if not begun || is_hand_start deed then None else (if is_win deed && is_after_win newest then before else newest)

-- What the newest deed comes of, by what is kept.
abbrev pub cause_by : Option Deed → Option Deed → Option Deed
cause_by (Some (Discard who tile drawn)) previous = only_if is_reach previous
cause_by (Some (ReachAccepted who points bid)) previous = previous
cause_by (Some (Win who target tile unders hand yaku fu han value deltas points rest)) previous = only_if is_offer previous
cause_by (Some (Dora tile)) previous = previous
cause_by (Some EndHand) previous = previous
cause_by other previous = None

-- The tile of a seat's draw, where the deed is one.
abbrev pub drawn_before : ℕ → Option Deed → Option ℕ
drawn_before seat deed = option_and_then (drawn_by seat) deed

-- The drawn tile of a seat, by what is kept.
abbrev pub drawn_of : ℕ → Option Deed → Option Deed → Option ℕ
drawn_of seat None previous = None
drawn_of seat (Some (Reach who)) previous = if who == seat then drawn_before seat previous else None
drawn_of seat (Some other) previous = drawn_by seat other

-- The newest deed of the hand that is no win, by what is kept.
abbrev pub before_wins_of : Bool → Option Deed → Option Deed → Option Deed
before_wins_of begun newest previous = if begun then (if is_after_win newest then previous else newest) else None

-- The discard that may be taken, by what is kept.
abbrev pub taken_of : Option Deed → Option Deed → Option Deed
taken_of (Some (ReachAccepted who points bid)) previous = previous
taken_of newest previous = newest
