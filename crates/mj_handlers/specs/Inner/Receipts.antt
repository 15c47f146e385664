-- How a link is received before its table is known.
use Rattle.std.specs.Prelude.{◌≡◌, ℕ, List, [], ◌∷◌, ◌++◌}
use Rattle.mj_ports.specs.declared.picking.Picked.{Picked}
use Rattle.mj_ports.specs.declared.picking.Picked.TheVariants as picked
use Rattle.mj_ports.specs.declared.sitting.SitRefused.{SitRefused}
use Rattle.mj_ports.specs.declared.sitting.SitRefused.TheVariants as refused
use Rattle.mj_session.specs.declared.served.Ended.{Ended}
use Rattle.mj_session.specs.declared.served.Ended.TheVariants.{PeerEnded, LinkFault, LineTooLong, NotSeated}
use Rattle.mj_session.specs.Sessions.{WireEnds}
use Rattle.mj_session.specs.Wires.{WireState, Took, Wrote, ToldInPart}
use Rattle.mj_handlers.specs.declared.lobby.Lobby.{Lobby}
use Rattle.mj_handlers.specs.declared.lobby.Received.{Received}
use Rattle.mj_handlers.specs.declared.lobby.Received.TheVariants as received
use Rattle.mj_handlers.specs.Handlers.{IsNew}

-- A line is refused so that is for no table.
abbrev pub RefusedBy : Picked → SitRefused → Type 0
RefusedBy (picked.Table table) why = ⊥
RefusedBy picked.BadName why = why ≡ refused.BadName
RefusedBy picked.NoRoom why = why ≡ refused.NoRoom

-- The session of a link without a table ended before its first line came, or by the refusal of this line.
abbrev pub NoTableFor : (List ℕ → Picked) → Ended → List (List ℕ) → Type 0
NoTableFor picks PeerEnded lines = lines ≡ []
NoTableFor picks LinkFault lines = lines ≡ []
NoTableFor picks LineTooLong lines = lines ≡ []
NoTableFor picks (NotSeated why) lines = (line : List ℕ) × (lines ≡ line ∷ []) × RefusedBy (picks line) why
NoTableFor picks _ lines = ⊥

-- What is written on such a link: the hello line, and the line of its refusal.
abbrev pub turned_away_by : Lobby → Ended → List ℕ
turned_away_by l (NotSeated refused.BadName) = l.hello.items ++ l.bad_name.items
turned_away_by l (NotSeated refused.NoRoom) = l.hello.items ++ l.no_room.items
turned_away_by l _ = l.hello.items

-- The session of a link without a table. After a failed write a prefix is written.
pub record IsTurnedAway (picks : List ℕ → Picked) (l : Lobby) (x y : WireState) : Type 0 where
  pub ended : Ended
  pub lines : List (List ℕ)
  pub rest : List ℕ
  pub took : Took x y lines rest
  pub no_table : NoTableFor picks ended lines
  pub wrote : ToldInPart ⊥ x y [] (turned_away_by l ended)
  pub wire_ends : WireEnds ended x y rest

-- A link that was received was greeted, and one line came that is for the table; or its session ended without a table.
abbrev pub Receives : (List ℕ → Picked) → Lobby → Received → WireState → WireState → Type 0
Receives picks l (received.At table line) x y = (picks line.items ≡ picked.Table table) × Took x y (line.items ∷ []) [] × Wrote x y l.hello.items
Receives picks l received.Nowhere x y = IsTurnedAway picks l x y
Receives picks l received.NoMemory x y = Unit {0}

-- A link that was greeted, and one line of which came, is told a refusal.
abbrev pub Refuses : List ℕ → WireState → WireState → Type 0
Refuses refusal y z =
    (x : WireState) (hello line : List ℕ) → Took x y (line ∷ []) [] → Wrote x y hello
    → Took x z (line ∷ []) [] × ToldInPart ⊥ x z [] (hello ++ refusal)

-- The link of a wire was received: from when it came on it was greeted, and this line came alone.
pub record WasReceived {L : Type 0} (at : List ℕ → L → WireState) (hello line : List ℕ) (y : WireState) : Type 0 where
  pub start : L
  pub is_new : IsNew (at [] start)
  pub took : Took (at [] start) y (line ∷ []) []
  pub told : Wrote (at [] start) y hello
