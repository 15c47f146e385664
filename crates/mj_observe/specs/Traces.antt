-- What a watcher without tiles may learn of deeds: at once what lies open to everybody, and of each hand the rest once it has ended.
use Rattle.std.specs.Prelude.{◌≡◌, ℕ, ◌≤◌, true, if◌then◌else◌, List, [], ◌∷◌, ◌++◌, length, None, flat_map}
use Rattle.std.specs.List.{list_all}
use Rattle.mj_deeds.specs.declared.four.Four.{Four}
use Rattle.mj_deeds.specs.declared.bid.Bid.{Bid}
use Rattle.mj_deeds.specs.declared.deed.Deed.{Deed}
use Rattle.mj_deeds.specs.declared.deed.Deed.TheVariants.{StartHand, Draw, ReachAccepted, Win}
use Rattle.mj_deeds.specs.declared.token.Token.{Token}
use Rattle.mj_deeds.specs.declared.token.Token.TheVariants as tokens
use Rattle.mj_deeds.specs.Hand.{hand}
use Rattle.mj_wall.specs.declared.setting.Rules.{Rules}
use Rattle.mj_wall.specs.Places.{is_wall}
use Rattle.mj_view.specs.Tokens.{token}
use Rattle.mj_rules.specs.Played.{IsPlayed}
use Rattle.mj_observe.specs.Views.{is_hand_end}

-- What everybody sees of a deed: what a seat sees of it, without a dealt hand and without the tile of a draw.
abbrev pub public_token : Deed → Token
public_token (StartHand round number honba deposits dealer indicator hands) = tokens.StartHand indicator []
public_token (Draw seat tile replacement) = tokens.Draw seat None
public_token other = token 0 other

-- The hands that a deed deals, the tile that is drawn by it, the call that is kept at it, and the winners that are kept.
abbrev pub hands_dealt : Deed → List (Four (List ℕ))
hands_dealt (StartHand round number honba deposits dealer indicator hands) = hands ∷ []
hands_dealt other = []

abbrev pub tiles_drawn : Deed → List ℕ
tiles_drawn (Draw seat tile replacement) = tile ∷ []
tiles_drawn other = []

abbrev pub calls_kept : Deed → List Bid
calls_kept (ReachAccepted seat points bid) = bid ∷ []
calls_kept other = []

abbrev pub winners_kept : Deed → List (List ℕ)
winners_kept (Win seat target tile unders hand yaku fu han value deltas points rest) = rest ∷ []
winners_kept other = []

-- What was not open to everybody in a hand.
pub record Secrets : Type 0 where
  pub dealt : List (Four (List ℕ))
  pub drawn : List ℕ
  pub calls : List Bid
  pub winners : List (List ℕ)

abbrev pub secrets : List Deed → Secrets
secrets deeds = record {
  dealt = flat_map hands_dealt deeds;
  drawn = flat_map tiles_drawn deeds;
  calls = flat_map calls_kept deeds;
  winners = flat_map winners_kept deeds;
}

-- What is learnt: what everybody sees of a deed, and the secrets of a hand that has ended.
pub data Item : Type 0 where
  Saw : Token → Item
  Ended : Secrets → Item

-- What is learnt by a deed after others.
abbrev pub learnt_by : List Deed → Deed → List Item
learnt_by before deed = Saw (public_token deed) ∷ (if is_hand_end deed then Ended (secrets (hand (before ++ deed ∷ []))) ∷ [] else [])

abbrev pub trace_from : List Deed → List Deed → List Item
trace_from before [] = []
trace_from before (deed ∷ deeds) = learnt_by before deed ++ trace_from (before ++ deed ∷ []) deeds

-- The public trace of deeds.
abbrev pub public_trace : List Deed → List Item
public_trace deeds = trace_from [] deeds

-- Deeds are played under some rules and with some walls, be they which they may.
pub record ArePlayed (deeds : List Deed) : Type 0 where
  pub rules : Rules
  pub walls : List (List ℕ)
  pub some : 1 ≤ length walls
  pub whole : list_all (is_wall rules.red) walls ≡ true
  pub played : IsPlayed rules walls deeds
