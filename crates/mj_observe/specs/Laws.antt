-- The laws of the public view.
use Rattle.std.specs.Prelude.{◌≡◌, ◌≢◌, ◌<◌, ℕ, List, [], ◌∷◌, ◌++◌, Bool, true, false, length, slice_index, ℤ}
use Rattle.mj_deeds.specs.declared.four.Four.{Four}
use Rattle.mj_deeds.specs.declared.bid.Bid.{Bid}
use Rattle.mj_deeds.specs.declared.deed.Deed.{Deed}
use Rattle.mj_deeds.specs.declared.deed.Deed.TheVariants.{StartGame, StartHand, Draw, ReachAccepted, Win}
use Rattle.mj_deeds.specs.declared.deed.Viewer.TheVariants.{Seat}
use Rattle.mj_deeds.specs.Facts.{concealed_tiles}
use Rattle.mj_deeds.specs.Hand.{hand}
use Rattle.mj_forms.specs.Lines.{line}
use Rattle.mj_observe.specs.Views.{public_line, public_part, public_view}
use Rattle.mj_observe.specs.Traces.{public_token, secrets, public_trace, ArePlayed}

-- A watcher is told no more than it may learn: played deeds of which as much is public are told alike, whatever the rules, the
-- walls, the hands that are dealt and the tiles that are drawn, until their hand has ended.
abbrev pub WatchersLearnNoMore : Type 0
WatchersLearnNoMore = (ds es : List Deed) → ArePlayed ds → ArePlayed es → public_trace ds ≡ public_trace es → public_view ds ≡ public_view es

-- One deed more adds its part, and changes nothing that stands.
abbrev pub ViewsGrow : Type 0
ViewsGrow = (ds : List Deed) (d : Deed) → public_view (ds ++ d ∷ []) ≡ public_view ds ++ public_part ds d

-- A start of a game, a start of a hand or a draw: a line of which a seat is told something of its own.
abbrev pub has_own : Deed → Bool
has_own (StartGame names) = true
has_own (StartHand round number honba deposits dealer indicator hands) = true
has_own (Draw seat tile replacement) = true
has_own other = false

-- Of every other deed each seat is told the public line.
abbrev pub OthersAreToldAll : Type 0
OthersAreToldAll = (seat : ℕ) (d : Deed) → has_own d ≡ false → line (Seat seat) d ≡ public_line d

-- No public token holds a secret: it is the same whatever hands are dealt, whichever tile is drawn, whichever call is kept at an accepted
-- reach, and whoever wins after a win.
pub record TokensHoldNoSecret : Type 0 where
  pub dealt : (round number honba deposits dealer indicator : ℕ) (hands others : Four (List ℕ)) →
      public_token (StartHand round number honba deposits dealer indicator hands) ≡ public_token (StartHand round number honba deposits dealer indicator others)
  pub drawn : (seat tile other : ℕ) (replacement : Bool) → public_token (Draw seat tile replacement) ≡ public_token (Draw seat other replacement)
  pub kept : (seat : ℕ) (points : List ℤ) (bid other : Bid) → public_token (ReachAccepted seat points bid) ≡ public_token (ReachAccepted seat points other)
  pub winners : (seat target tile : ℕ) (unders own : List ℕ) (yaku : List (ℕ × ℕ)) (fu han value : ℕ) (deltas points : List ℤ) (rest others : List ℕ) →
      public_token (Win seat target tile unders own yaku fu han value deltas points rest) ≡ public_token (Win seat target tile unders own yaku fu han value deltas points others)

-- Two lists of played deeds with the same public trace, in whose hand every seat holds other tiles and each tile that is drawn is another.
pub record AreAlikeInPublic : Type 0 where
  pub one : List Deed
  pub other : List Deed
  pub one_played : ArePlayed one
  pub other_played : ArePlayed other
  pub same : public_trace one ≡ public_trace other
  pub held : (seat : ℕ) → seat < 4 → concealed_tiles (hand one) seat ≢ concealed_tiles (hand other) seat
  pub some : 0 < length (secrets one).drawn
  pub drawn : (place : ℕ) → place < length (secrets one).drawn → slice_index (secrets one).drawn place ≢ slice_index (secrets other).drawn place
