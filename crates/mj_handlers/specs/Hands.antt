-- What a handler has come to at tables.
use Rattle.std.specs.Prelude.{◌≡◌, ℕ, ◌<◌, true, false, List, length, Some, slice_get}
use Rattle.turn_lock.specs.Passes.{TurnState, PassState}
use Rattle.mj_ports.specs.declared.entry.Entry.{Entry}
use Rattle.mj_ports.specs.declared.picking.Picked.{Picked}
use Rattle.mj_ports.specs.declared.sitting.SitRefused.TheVariants as refused
use Rattle.mj_ports.specs.declared.answers.Control.{Control}
use Rattle.mj_ports.specs.declared.answers.Control.TheVariants as control
use Rattle.mj_ports.specs.declared.seated.Seated.{Ghosts}
use Rattle.mj_session.specs.Wires.{WireState}
use Rattle.mj_handlers.specs.declared.lobby.Lobby.{Lobby}
use Rattle.mj_handlers.specs.Handlers.{HandlerEnd, Over, Host, NoMemory, Session, HandledIn}
use Rattle.mj_handlers.specs.Picks.{at_table}

-- These are the lines of games that write lines so.
pub record IsLobby {R : Type 0} (says : Control R → List ℕ) (l : Lobby) : Type 0 where
  pub hello : l.hello.items ≡ says control.Hello
  pub bad_name : l.bad_name.items ≡ says (control.SitRefused refused.BadName)
  pub no_room : l.no_room.items ≡ says (control.SitRefused refused.NoRoom)

module _ {T S N : Type 0} (turns : List (TurnState T)) where
  -- At each table below one the turn and the pass in its place are so.
  abbrev pub AllBelow : (TurnState T → PassState T S N → Type 0) → ℕ → List (PassState T S N) → Type 0
  AllBelow P count passes = (t : ℕ) (turn : TurnState T) (p : PassState T S N) → t < count → slice_get turns t ≡ Some turn → slice_get passes t ≡ Some p → P turn p

module _ {T S A R : Type 0} (g : Ghosts T S A R) (setting : T → S) where
  -- The history that a pass has seen is legal, and in it the game is over.
  abbrev pub IsLegalAt : TurnState T → PassState T S (Entry A) → Type 0
  IsLegalAt turn p = g.is_legal (setting turn.opening) p.seen

  abbrev pub IsOverAt : TurnState T → PassState T S (Entry A) → Type 0
  IsOverAt turn p = (g.after (setting turn.opening) p.seen).over ≡ true

  module _ (turns : List (TurnState T)) where
    abbrev pub AllLegal : List (PassState T S (Entry A)) → Type 0
    AllLegal passes = AllBelow turns IsLegalAt (length turns) passes

    -- The games of the tables below one are over in the histories seen.
    abbrev pub AreOver : ℕ → List (PassState T S (Entry A)) → Type 0
    AreOver count passes = AllBelow turns IsOverAt count passes

    -- The game of a table below one goes on in the history seen.
    pub record SomeGoesOn (count : ℕ) (passes : List (PassState T S (Entry A))) : Type 0 where
      pub table : ℕ
      pub turn : TurnState T
      pub pass : PassState T S (Entry A)
      pub below : table < count
      pub turn_is : slice_get turns table ≡ Some turn
      pub pass_is : slice_get passes table ≡ Some pass
      pub on : (g.after (setting turn.opening) pass.seen).over ≡ false

    -- How a handler ends: all games are over in the histories seen; or some goes on there, and the host failed the handler with
    -- its number.
    abbrev pub HandEnds : {F : Type 0} → (F → Type 0) → (F → ℕ) → HandlerEnd F → ℕ → List (PassState T S (Entry A)) → Type 0
    HandEnds made number Over by passes = AreOver (length turns) passes
    HandEnds made number (Host fault) by passes = made fault × (number fault ≡ by) × SomeGoesOn (length turns) passes
    HandEnds made number NoMemory by passes = Unit {0}

module _ {T S A R L : Type 0} (g : Ghosts T S A R) (setting : T → S) (at : List ℕ → L → WireState) (picks : List ℕ → Picked) where
  -- At a table a handler's pass has this number, and, where the history that it has seen is legal, its sessions there are all that
  -- it entered since the first entries.
  pub record IsAtTable (excuse : Type 0) (by t : ℕ) (first : List (Entry A)) (turn : TurnState T) (p : PassState T S (Entry A)) (sessions : List (Session L)) : Type 0 where
    pub number_is : p.number ≡ by
    pub handled : IsLegalAt g setting turn p → HandledIn (at_table g picks t) (setting turn.opening) at excuse by first p.seen sessions

  -- At each table a handler's pass has its number, and, where the history seen is legal, its sessions are all that it entered.
  abbrev pub IsHand : Type 0 → ℕ → (TurnState T → List (Entry A)) → List (TurnState T) → List (PassState T S (Entry A)) → List (List (Session L)) → Type 0
  IsHand excuse by first turns passes kept = (t : ℕ) (turn : TurnState T) (p : PassState T S (Entry A)) (ss : List (Session L)) → slice_get turns t ≡ Some turn →
      slice_get passes t ≡ Some p → slice_get kept t ≡ Some ss → IsAtTable excuse by t (first turn) turn p ss

  -- What was so of all sessions before is so of them now, but for what running out of memory excuses.
  abbrev pub Handles : Type 0 → ℕ → List (TurnState T) → List (PassState T S (Entry A)) → List (List (Session L)) → List (PassState T S (Entry A)) → List (List (Session L)) → Type 0
  Handles excuse by turns passes kept passes' kept' = (first : TurnState T → List (Entry A)) → IsHand ⊥ by first turns passes kept → IsHand excuse by first turns passes' kept'
