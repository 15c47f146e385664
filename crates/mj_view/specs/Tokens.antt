-- What one seat learns of a deed.
use Rattle.std.specs.Prelude.{ℕ}
use Rattle.mj_deeds.specs.declared.deed.Viewer.TheVariants.{Seat}
use Rattle.mj_deeds.specs.declared.deed.Deed.{Deed}
use Rattle.mj_deeds.specs.declared.deed.Deed.TheVariants as deeds
use Rattle.mj_deeds.specs.declared.token.Token.{Token}
use Rattle.mj_deeds.specs.declared.token.Token.TheVariants as tokens
use Rattle.mj_deeds.specs.Four.{at_seat}
use Rattle.mj_view.specs.Seen.{sees}
pub use Rattle.mj_view.specs.Seen.{own_tile}

-- What a seat sees of a deed.
abbrev pub token : ℕ → Deed → Token
token seat (deeds.StartGame names) = tokens.StartGame names
token seat (deeds.StartHand round number honba deposits dealer indicator hands) = tokens.StartHand indicator (at_seat hands seat)
token seat (deeds.Draw who tile replacement) = tokens.Draw who (own_tile (sees (Seat seat) who) tile)
token seat (deeds.Discard who tile drawn) = tokens.Discard who tile drawn
token seat (deeds.Chi who target tile a b) = tokens.Chi who target tile a b
token seat (deeds.Pon who target tile a b) = tokens.Pon who target tile a b
token seat (deeds.OpenKan who target tile a b c) = tokens.OpenKan who target tile a b c
token seat (deeds.ClosedKan who a b c d) = tokens.ClosedKan who a b c d
token seat (deeds.AddedKan who tile a b c) = tokens.AddedKan who tile a b c
token seat (deeds.Dora tile) = tokens.Dora tile
token seat (deeds.Reach who) = tokens.Reach who
token seat (deeds.ReachAccepted who points bid) = tokens.ReachAccepted who
token seat (deeds.Win who target tile unders hand yaku fu han value deltas points rest) = tokens.Win who target tile unders hand
token seat (deeds.DrawnHand reason hands ready deltas points) = tokens.DrawnHand reason hands
token seat deeds.EndHand = tokens.EndHand
token seat (deeds.EndGame points deposits) = tokens.EndGame
