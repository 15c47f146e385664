-- How turns of tables begin and end.
use Rattle.std.specs.Prelude.{◌≡◌, ℕ, ◌<◌, All, List, [], ◌∷◌, ◌++◌, length}
use Rattle.turn_lock.specs.Passes.{TurnState, PassState}
use Rattle.turn_lock.specs.Turns.{IsIdle, IsSeenIn}
use Rattle.mj_ports.specs.declared.entry.Entry.{Entry}
use Rattle.mj_ports.specs.declared.seated.Seated.{Ghosts}
use Rattle.mj_ports.specs.Entries.{author_of}
use Rattle.mj_ticker.specs.Beside.{Beside}

-- A turn with so many passes was made with the value.
pub record IsOpened {T : Type 0} (passes : ℕ) (x : T) (turn : TurnState T) : Type 0 where
  pub opening_is : turn.opening ≡ x
  pub passes_are : turn.passes ≡ passes

-- One turn more was made, with this value.
abbrev pub Opens : {T : Type 0} → ℕ → T → List (TurnState T) → List (TurnState T) → Type 0
Opens {T} passes x old new = (turn : TurnState T) × (new ≡ old ++ turn ∷ []) × IsOpened passes x turn

module _ {T S N : Type 0} (setting : T → S) where
  -- All passes of the turn, none of which is busy.
  pub record IsFullRow (turn : TurnState T) (row : List (PassState T S N)) : Type 0 where
    pub all : length row ≡ turn.passes
    pub idle : All (IsIdle setting turn) row

module _ {T S A R : Type 0} (g : Ghosts T S A R) (setting : T → S) where
  -- A table whose turn has ended with these passes.
  pub record IsClosed (turn : TurnState T) (row : List (PassState T S (Entry A))) (table : T) : Type 0 where
    pub setting_is : g.setting table ≡ setting turn.opening
    pub legal : g.is_legal (setting turn.opening) (g.history table)
    pub seen : All (IsSeenIn author_of (g.history table)) row
    pub below : All (λ e. author_of e < turn.passes) (g.history table)

  -- The tables of turns that have ended, each with its row of passes.
  abbrev pub AllClosed : List (TurnState T) → List (List (PassState T S (Entry A))) → List T → Type 0
  AllClosed turns rows tables = Beside (λ t turn row table. IsClosed turn row table) turns rows tables
