-- What is left of the games of turns, once they have ended.
use Rattle.std.specs.Prelude.{ℕ, Bool, List, [], ◌∷◌, ◌++◌, length, Option}
use Rattle.turn_lock.specs.Passes.{TurnState, PassState}
use Rattle.mj_ports.specs.declared.entry.Entry.{Entry}
use Rattle.mj_ports.specs.declared.picking.Picked.{Picked}
use Rattle.mj_ports.specs.declared.seated.Seated.{Ghosts}
use Rattle.mj_session.specs.Wires.{WireState}
use Rattle.mj_ticker.specs.declared.ticker.Sight.{Sight}
use Rattle.mj_handlers.specs.declared.visit.HandlerEnd.{HandlerEnd}
use Rattle.mj_handlers.specs.declared.visit.Session.{Session}
use Rattle.mj_workers.specs.Columns.{AreRows}
use Rattle.mj_seats.specs.Inner.Opened.{AllClosed}
use Rattle.mj_workers.specs.Staffs.{AllDone}
use Rattle.mj_ticker.specs.Watches.{AreWatched}

module _ {T S A R L F : Type 0} (g : Ghosts T S A R) (lost : T → ℕ → Bool) (setting : T → S) (at : List ℕ → L → WireState) (picks : List ℕ → Picked) (made : F → Type 0)
    (number : F → ℕ) (handlers : ℕ) (turns : List (TurnState T)) (r0 r1 : Option (List ℕ)) where
  -- What is left of so many handlers and of the ticker, and of the tables whose turns have ended.
  pub record HasEnded (tables : List T) (kept : List (List (List (Session L)))) (ends : List (HandlerEnd F)) : Type 0 where
    pub columns : List (List (PassState T S (Entry A)))
    pub passes : List (PassState T S (Entry A))
    pub sights : List Sight
    pub rows : List (List (PassState T S (Entry A)))
    pub done : AllDone g setting at picks made number turns handlers columns kept ends
    pub watched : AreWatched g lost handlers setting handlers (λ turn. g.history turn.opening) r0 r1 turns passes sights
    pub are : AreRows (length turns) (columns ++ passes ∷ []) rows
    pub closed : AllClosed g setting turns rows tables
