-- What led to the newest deed.
use Rattle.std.specs.Prelude.{◌-◌, not, Bool, true, false, if◌then◌else◌, List, length, take, filter, Option, Some, None, option_and_then}
use Rattle.mj_deeds.specs.declared.deed.Deed.{Deed}
use Rattle.mj_deeds.specs.declared.deed.Deed.TheVariants.{Discard, AddedKan, Dora, Reach, ReachAccepted, Win, EndHand}
use Rattle.mj_deeds.specs.Facts.{newest}
use Rattle.mj_deeds.specs.Points.{is_win}

-- Of an option one that passes a test.
abbrev pub only_if : {A : Type 0} → (A → Bool) → Option A → Option A
only_if test None = None
only_if test (Some x) = if test x then Some x else None

abbrev pub is_reach : Deed → Bool
is_reach (Reach who) = true
is_reach other = false

-- A deed gives a tile that another seat may win on: a discard, or a tile added to a triplet.
abbrev pub is_offer : Deed → Bool
is_offer (Discard who tile drawn) = true
is_offer (AddedKan who tile a b c) = true
is_offer other = false

-- The deeds before the winners are named.
abbrev pub before_wins : List Deed → List Deed
before_wins deeds = filter (λ deed. not (is_win deed)) deeds

-- Of the deeds before a deed the one that it comes of: a discard of the reach right before it, an accepted reach of its
-- discard, a win of the discard or the added kan that was won on, an indicator of the kan, and the end of a hand of the win
-- or the draw right before it.
abbrev pub comes_of : List Deed → Deed → Option Deed
comes_of before (Discard who tile drawn) = only_if is_reach (newest before)
comes_of before (ReachAccepted who points bid) = newest before
comes_of before (Win who target tile unders hand yaku fu han value deltas points rest) = only_if is_offer (newest (before_wins before))
comes_of before (Dora tile) = newest before
comes_of before EndHand = newest before
comes_of before other = None

-- The cause of the newest deed.
abbrev pub cause : List Deed → Option Deed
cause deeds = option_and_then (comes_of (take (length deeds - 1) deeds)) (newest deeds)
