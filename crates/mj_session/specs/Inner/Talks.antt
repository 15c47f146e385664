-- Where a session has come, and what a turn of it does.
use Rattle.std.specs.Prelude.{◌≡◌, ◌⊎◌, ℕ, List, [], ◌∷◌, ◌++◌, length, Option, Some, None}
use Rattle.mj_connection.specs.Seating.{Entry, Showing}
use Rattle.mj_ports.specs.declared.seated.Seated.{Ghosts}
use Rattle.mj_connection.specs.declared.stage.End.TheVariants as over
use Rattle.mj_connection.specs.declared.stage.Connection.TheVariants as connection
use Rattle.mj_connection.specs.declared.stage.Connection.{Connection}
use Rattle.mj_connection.specs.Stages.{Fits, Listens, IsOpen}
use Rattle.mj_connection.specs.Spoken.{IsAt, IsQuiet, IsShort, IsLost}
use Rattle.mj_session.specs.declared.talk.Doing.{Doing}
use Rattle.mj_session.specs.declared.talk.Doing.TheVariants.{Look, Hear, Lose, Cut}
use Rattle.mj_session.specs.Sessions.{Ended, GameOver, PeerEnded, LinkFault, LineTooLong, TooManyRefusals, NotSeated, NoMemory, IsExcused, WireEnds}
use Rattle.mj_session.specs.Wires.{WireState, Took, Wrote, ToldInPart}

-- What a connection may do in a turn.
abbrev pub CanDo : Doing → Connection → ℕ → Showing → Type 0
CanDo Hear c author w = Listens c × Fits c author w
CanDo _ c author w = IsOpen c × Fits c author w

-- The lines that it hears, of which this one was read last.
abbrev pub heard_by : Doing → List ℕ → List (List ℕ)
heard_by Hear line = line ∷ []
heard_by _ line = []

-- How a session ended by its connection, whose link was lost so, if it was lost.
abbrev pub ended_of : Connection → Ended → Ended
ended_of (connection.Ended (over.Refused why)) lost = NotSeated why
ended_of (connection.Ended (over.Over at)) lost = GameOver
ended_of (connection.Ended (over.Closed at)) lost = TooManyRefusals
ended_of (connection.Ended over.Dry) lost = NoMemory
ended_of (connection.Ended (over.Cut at)) lost = NoMemory
ended_of _ lost = lost

module _ {A : Type 0} (after : List (Entry A) → Showing) (author : ℕ) where
  -- What it leaves, and what it tells more: a connection whose link isn't lost, or is, or one for which memory ran out.
  abbrev pub Leaves : Doing → Connection → Connection → List (Entry A) → List ℕ → List ℕ → Type 0
  Leaves Look b c es before text = IsQuiet ⊥ c before text
  Leaves Hear b c es before text = IsQuiet (b ≡ connection.Greeted) c before text
  Leaves Lose b c es before text = (IsLost after author (Listens b → ⊥) c es ⊎ IsShort c) × (Listens b → text ≡ before)
  Leaves Cut b c es before text = IsShort c

  -- Which end the connection has of a session that ended so, on a link of which this is left. A seat whose link ended the
  -- session had a deed to answer, but where the link failed before anything was said, or doesn't tell what is left.
  abbrev pub EndsAs : Option (List ℕ) → Ended → Connection → List (Entry A) → List (List ℕ) → Type 0
  EndsAs left GameOver (connection.Ended (over.Over at)) es lines = Unit {0}
  EndsAs left PeerEnded c es lines = IsLost after author (left ≡ None) c es
  EndsAs left LinkFault c es lines = IsLost after author ((length lines ≡ 1) ⊎ (left ≡ None)) c es
  EndsAs left LineTooLong c es lines = IsLost after author ⊥ c es
  EndsAs left TooManyRefusals (connection.Ended (over.Closed at)) es lines = Unit {0}
  EndsAs left (NotSeated why) (connection.Ended (over.Refused found)) es lines = found ≡ why
  EndsAs left NoMemory c es lines = IsShort c
  EndsAs left _ c es lines = ⊥

module _ {G S A R : Type 0} (g : Ghosts G S A R) (s : S) (author : ℕ) where
  module _ (start : List (Entry A)) where
    -- The session goes on: all lines that came from x to y were heard, and all that was told is written but for this text.
    pub record Owing (c : Connection) (es : List (Entry A)) (x y : WireState) (text : List ℕ) : Type 0 where
      pub lines : List (List ℕ)
      pub out : List ℕ
      pub at : IsAt g s author start c es lines (out ++ text)
      pub took : Took x y lines []
      pub told : Wrote x y out
      pub quiet : IsQuiet (length lines ≡ 1) c [] text

    -- The session has ended: a rest of a line may have come, and the end of the text may be missing.
    pub record Ends (ended : Ended) (c : Connection) (es : List (Entry A)) (x y : WireState) : Type 0 where
      pub lines : List (List ℕ)
      pub out : List ℕ
      pub rest : List ℕ
      pub at : IsAt g s author start c es lines out
      pub took : Took x y lines rest
      pub told : ToldInPart (IsExcused ended) x y [] out
      pub wire_ends : WireEnds ended x y rest
      pub ends_as : EndsAs (g.after s) author y.left ended c es lines

    -- Where a session has come that ended so, or goes on.
    abbrev pub Comes : Option Ended → Connection → List (Entry A) → WireState → WireState → Type 0
    Comes None c es x y = Owing c es x y []
    Comes (Some ended) c es x y = Ends ended c es x y

  -- One connection became another, while the wire went from y to z, and this was still to be written before.
  abbrev pub Goes : {W : Type 0} → Option Ended → Connection → Connection → List (Entry A) → List (Entry A) → List ℕ → (W → WireState) → W → W → Type 0
  Goes met b c old new text at y z = (start : List (Entry A)) (x : WireState) → Owing start b old x (at y) text → Comes start met c new x (at z)
