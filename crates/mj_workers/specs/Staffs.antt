-- What handlers begin with, and what is left of them.
use Rattle.std.specs.Prelude.{◌≡◌, ℕ, zero, suc, ◌≤◌, All, List, [], ◌∷◌, ◌++◌, length, map, vec_capacity, Vec}
use Rattle.std.specs.declared.alloc.Global.{Global}
use Rattle.turn_lock.specs.Passes.{TurnState, PassState}
use Rattle.turn_lock.specs.Turns.{pass_from, passes_from}
use Rattle.mj_ports.specs.declared.entry.Entry.{Entry}
use Rattle.mj_ports.specs.declared.picking.Picked.{Picked}
use Rattle.mj_ports.specs.declared.seated.Seated.{Ghosts}
use Rattle.mj_session.specs.Wires.{WireState}
use Rattle.mj_workers.specs.declared.worker.Hand.{Hand}
use Rattle.mj_workers.specs.declared.worker.Back.{Back}
use Rattle.mj_ticker.specs.Beside.{Matches}
use Rattle.mj_handlers.specs.declared.visit.HandlerEnd.{HandlerEnd}
use Rattle.mj_handlers.specs.declared.visit.Session.{Session}
use Rattle.mj_handlers.specs.Handlers.{WantsMemory, rows}
use Rattle.mj_ticker.specs.Idle.{AllIdle}
use Rattle.mj_handlers.specs.Hands.{IsHand, HandEnds}

module _ {T S N : Type 0} (setting : T → S) where
  -- So many new passes of the turn, numbered from 0, which have seen what its value began with.
  abbrev pub IsNewRow : (T → List N) → ℕ → TurnState T → List (PassState T S N) → Type 0
  IsNewRow notes count turn row = row ≡ passes_from turn.id (setting turn.opening) (notes turn.opening) count

module _ {T S N : Type 0} (setting : T → S) (notes : T → List N) (turns : List (TurnState T)) where
  -- For each turn a row of so many new passes, numbered from 0.
  abbrev pub AreNewRows : ℕ → List (List (PassState T S N)) → Type 0
  AreNewRows count rows = Matches (IsNewRow setting notes count) turns rows

  -- For each turn the new pass with this number.
  abbrev pub AreNewPasses : ℕ → List (PassState T S N) → Type 0
  AreNewPasses number passes = Matches (λ turn p. p ≡ pass_from turn.id (setting turn.opening) (notes turn.opening) number) turns passes

-- So many lists of sessions, each of them empty.
pub record AreEmpty {L : Type 0} (tables : ℕ) (kept : List (Vec (Session L) Global)) : Type 0 where
  pub many : length kept ≡ tables
  pub none : All (λ v. v.items ≡ []) kept

module _ {P L : Type 0} where
  -- A hand with nothing in it, and with room for a pass of each table.
  pub record IsReady (tables : ℕ) (h : Hand P L) : Type 0 where
    pub none : h.passes.items ≡ []
    pub room : tables ≤ vec_capacity h.passes
    pub kept : AreEmpty tables h.kept.items

module _ {P L F : Type 0} where
  -- Nothing is left yet, and there is room for what is left of so many.
  pub record HasRoom (count : ℕ) (b : Back P L F) : Type 0 where
    pub no_columns : b.columns.items ≡ []
    pub no_kept : b.kept.items ≡ []
    pub no_ends : b.ends.items ≡ []
    pub columns : count ≤ vec_capacity b.columns
    pub kept : count ≤ vec_capacity b.kept
    pub ends : count ≤ vec_capacity b.ends

  -- There is as much room as before.
  pub record HasRoomOf (old new : Back P L F) : Type 0 where
    pub columns : vec_capacity new.columns ≡ vec_capacity old.columns
    pub kept : vec_capacity new.kept ≡ vec_capacity old.kept
    pub ends : vec_capacity new.ends ≡ vec_capacity old.ends

-- The sessions that handlers have at each table.
abbrev pub sessions_of : {L : Type 0} → List (Vec (Vec (Session L) Global) Global) → List (List (List (Session L)))
sessions_of kept = map (λ k. rows k.items) kept

module _ {T S A R L F : Type 0} (g : Ghosts T S A R) (setting : T → S) (at : List ℕ → L → WireState) (picks : List ℕ → Picked) (made : F → Type 0) (number : F → ℕ) (turns : List (TurnState T)) where
  -- What is left of the handler with this number.
  pub record IsDone (by : ℕ) (passes : List (PassState T S (Entry A))) (kept : List (List (Session L))) (end : HandlerEnd F) : Type 0 where
    pub passes_are : length passes ≡ length turns
    pub kept_are : length kept ≡ length turns
    pub idle : AllIdle setting turns passes
    pub hand : IsHand g setting at picks (WantsMemory end) by (λ turn. g.history turn.opening) turns passes kept
    pub ended : HandEnds g setting turns made number end by passes

  -- What is left of so many handlers, numbered from 0, in this order.
  abbrev pub AllDone : ℕ → List (List (PassState T S (Entry A))) → List (List (List (Session L))) → List (HandlerEnd F) → Type 0
  AllDone zero columns kept ends = (columns ≡ []) × (kept ≡ []) × (ends ≡ [])
  AllDone (suc by) columns kept ends =
      (cs : List (List (PassState T S (Entry A)))) × (c : List (PassState T S (Entry A))) × (ks : List (List (List (Session L)))) × (k : List (List (Session L))) ×
      (es : List (HandlerEnd F)) × (e : HandlerEnd F) × (columns ≡ cs ++ c ∷ []) × (kept ≡ ks ++ k ∷ []) × (ends ≡ es ++ e ∷ []) × AllDone by cs ks es × IsDone by c k e
