-- What one seat learns of a game, and when two games agree for a seat.
use Rattle.std.specs.Prelude.{◌≡◌, ℕ, ◌+◌, ◌==◌, if◌then◌else◌, List, [], ◌∷◌, ◌++◌, length, Option, Some, None}
use Rattle.mj_ports.specs.declared.entry.Entry.{Entry}
use Rattle.mj_ports.specs.declared.entry.Entry.TheVariants.{Sat, Back, Said, Gone, Expired}
use Rattle.mj_deeds.specs.declared.answer.Answer.{Answer}
use Rattle.mj_deeds.specs.declared.deed.Deed.{Deed}
use Rattle.mj_deeds.specs.declared.token.Token.{Token}
use Rattle.mj_view.specs.Tokens.{token}
use Rattle.mj_wall.specs.declared.setting.Setting.{Setting}
use Rattle.mj_history.specs.After.{After, before_all, own_part, next_deed, step}
use Rattle.mj_history.specs.Legal.{IsLegal, Game}

-- What a seat learns: its own entries without their author, and the token of each deed.
pub data Item : Type 0 where
  OwnSat : (name : List ℕ) (key : Option (List ℕ)) → Item
  OwnBack : Item
  OwnSaid : Answer → Item
  OwnGone : Item
  Saw : Token → Item

-- The entry, where it is the seat's own. The seat of one that sits down is the number of the seats before it.
abbrev pub own_items : ℕ → After → Entry Answer → List Item
own_items seat now (Sat author name key) = if length now.chairs == seat then OwnSat name key ∷ [] else []
own_items seat now (Said author who answer) = if who == seat then OwnSaid answer ∷ [] else []
own_items seat now (Back author who) = if who == seat then OwnBack ∷ [] else []
own_items seat now (Gone author who) = if who == seat then OwnGone ∷ [] else []
own_items seat now (Expired author window t1 t2) = []

-- The token of a deed that was added.
abbrev pub seen_items : ℕ → Option Deed → List Item
seen_items seat None = []
seen_items seat (Some deed) = Saw (token seat deed) ∷ []

-- What a seat learns from some point on: of each entry itself where it is its own, and then of the deed that it adds.
abbrev pub trace_from : Setting → ℕ → After → List (Entry Answer) → List Item
trace_from setting seat now [] = []
trace_from setting seat now (entry ∷ entries) =
    own_items seat now entry ++ (seen_items seat (next_deed setting (own_part setting now entry) entry) ++ trace_from setting seat (step setting now entry) entries)

-- What a seat learns of a game.
abbrev pub trace : ℕ → Setting → List (Entry Answer) → List Item
trace seat setting entries = trace_from setting seat before_all entries

-- Two games agree for a seat: both are legal, under the same switches, and the seat learns the same of both.
pub record Agree (seat : ℕ) (g h : Game) : Type 0 where
  pub legal : IsLegal g.setting g.entries
  pub other_legal : IsLegal h.setting h.entries
  pub draws : g.setting.rules.draws ≡ h.setting.rules.draws
  pub red : g.setting.rules.red ≡ h.setting.rules.red
  pub same : trace seat g.setting g.entries ≡ trace seat h.setting h.entries
