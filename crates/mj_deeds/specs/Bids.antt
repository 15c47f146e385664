-- The deed that a bid for a discard becomes where it is taken.
use Rattle.std.specs.Prelude.{Option, Some, None}
use Rattle.mj_deeds.specs.declared.bid.Bid.{Bid}
use Rattle.mj_deeds.specs.declared.bid.Bid.TheVariants as bids
use Rattle.mj_deeds.specs.declared.deed.Deed.{Deed}
use Rattle.mj_deeds.specs.declared.deed.Deed.TheVariants.{Chi, Pon, OpenKan}

abbrev pub call_of_bid : Bid → Option Deed
call_of_bid bids.NoBid = None
call_of_bid (bids.Chi seat target tile a b) = Some (Chi seat target tile a b)
call_of_bid (bids.Pon seat target tile a b) = Some (Pon seat target tile a b)
call_of_bid (bids.OpenKan seat target tile a b c) = Some (OpenKan seat target tile a b c)
