-- What a handler's steps come to at tables.
use Rattle.std.specs.Prelude.{◌≡◌, ℕ, List, [], length, Option, Some, None, slice_get}
use Rattle.turn_lock.specs.Passes.{TurnState, PassState}
use Rattle.turn_lock.specs.Turns.{IsIdle}
use Rattle.mj_ports.specs.declared.entry.Entry.{Entry}
use Rattle.mj_ports.specs.declared.seated.Seated.{Ghosts}
use Rattle.mj_session.specs.Histories.{Enters}
use Rattle.mj_handlers.specs.Handlers.{HandlerEnd}
use Rattle.mj_handlers.specs.Hands.{HandEnds}

module _ {T S A : Type 0} (setting : T → S) (turns : List (TurnState T)) where
  -- A pass took turns, and entered nothing.
  pub record IsQuiet (turn : TurnState T) (p q : PassState T S (Entry A)) : Type 0 where
    pub idle : IsIdle setting turn q
    pub number_is : q.number ≡ p.number
    pub nothing : Enters p.number p.seen q.seen []

  -- So did each.
  pub record AllQuiet (old new : List (PassState T S (Entry A))) : Type 0 where
    pub many : length new ≡ length old
    pub each : (t : ℕ) (turn : TurnState T) (p q : PassState T S (Entry A)) → slice_get turns t ≡ Some turn → slice_get old t ≡ Some p → slice_get new t ≡ Some q → IsQuiet turn p q

module _ {T S A R : Type 0} (g : Ghosts T S A R) (setting : T → S) (turns : List (TurnState T)) where
  -- How a handler ends, where it does.
  abbrev pub HandEndsTo : {F : Type 0} → (F → Type 0) → (F → ℕ) → Option (HandlerEnd F) → ℕ → List (PassState T S (Entry A)) → Type 0
  HandEndsTo made number None by passes = Unit {0}
  HandEndsTo made number (Some end) by passes = HandEnds g setting turns made number end by passes
