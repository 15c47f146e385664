-- What the token of a deed holds at most.
use Rattle.std.specs.Prelude.{◌≡◌, ℕ, ◌==◌, ◌&&◌, Bool, true, false, not, if◌then◌else◌, List, []}
use Rattle.mj_deeds.specs.declared.four.Four.{Four}
use Rattle.mj_deeds.specs.declared.bid.Bid.TheVariants.{NoBid}
use Rattle.mj_deeds.specs.declared.deed.Deed.{Deed}
use Rattle.mj_deeds.specs.declared.deed.Deed.TheVariants.{StartHand, Draw, ReachAccepted, Win, DrawnHand, EndGame}
use Rattle.mj_view.specs.Tokens.{token}

-- Tiles where a seat holds them, else none.
abbrev pub where_own : Bool → List ℕ → List ℕ
where_own true tiles = tiles
where_own false tiles = []

-- Of four hands a seat's own.
abbrev pub own_alone : ℕ → Four (List ℕ) → Four (List ℕ)
own_alone seat hands = record {
  first = where_own (seat == 0) hands.first;
  second = where_own (seat == 1) hands.second;
  third = where_own (seat == 2) hands.third;
  fourth = where_own (not (seat == 0) && not (seat == 1) && not (seat == 2)) hands.fourth;
}

-- A deed with nothing left in it but what a seat sees and can't reckon: no points, changes of points, honba or deposits; no
-- round, dealer or number of the hand; no yaku, fu, han or value of a win; not who is ready, nor whether a draw is a
-- replacement; neither the call that is kept at an accepted reach nor the winners after one; no hand that another is dealt,
-- and no tile that another draws.
abbrev pub bare : ℕ → Deed → Deed
bare seat (StartHand round number honba deposits dealer indicator hands) = StartHand 0 0 0 0 0 indicator (own_alone seat hands)
bare seat (Draw who tile replacement) = Draw who (if who == seat then tile else 0) false
bare seat (ReachAccepted who points bid) = ReachAccepted who [] NoBid
bare seat (Win who target tile unders hand yaku fu han value deltas points rest) = Win who target tile unders hand [] 0 0 0 [] [] []
bare seat (DrawnHand reason hands ready deltas points) = DrawnHand reason hands [] [] []
bare seat (EndGame points deposits) = EndGame [] 0
bare seat other = other

-- The token of a deed holds nothing that isn't left in the bare deed.
abbrev pub TokensHoldNoMore : Type 0
TokensHoldNoMore = (seat : ℕ) (d : Deed) → token seat d ≡ token seat (bare seat d)
