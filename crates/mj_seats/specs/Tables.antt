-- What handlers and a ticker leave at one table of several.
use Rattle.std.specs.Prelude.{◌≡◌, ℕ, zero, suc, ◌+◌, ◌*◌, true, List, [], ◌∷◌, ◌++◌, Option}
use mathlib.Core.List.{IsPrefix}
use Rattle.mj_ports.specs.declared.entry.Entry.{Entry}
use Rattle.mj_ports.specs.declared.picking.Picked.{Picked}
use Rattle.mj_ports.specs.declared.seated.Seated.{Ghosts}
use Rattle.mj_session.specs.Wires.{WireState}
use Rattle.mj_ticker.specs.Beside.{Beside}
use Rattle.mj_handlers.specs.declared.visit.HandlerEnd.{HandlerEnd}
use Rattle.mj_handlers.specs.declared.visit.HandlerEnd.TheVariants.{Over, Host, NoMemory}
use Rattle.mj_handlers.specs.declared.visit.Session.{Session}
use Rattle.mj_handlers.specs.Picks.{at_table}
use Rattle.mj_seats.specs.Workers.{IsPlayedBy}

-- How many handlers there are at so many tables of a host that has several. The ticker has the number after theirs.
abbrev pub handlers_of : ℕ → ℕ
handlers_of tables = 4 * tables + 2

module _ {G S A R : Type 0} (g : Ghosts G S A R) where
  -- What `IsPlayedBy` says, of a game with this setting.
  abbrev pub IsPlayedIn : {L : Type 0} → S → (List ℕ → L → WireState) → ℕ → List (Entry A) → List (Entry A) → List (Session L) → Option (List ℕ) → Option (List ℕ) → Type 0
  IsPlayedIn s at handlers first entries sessions was_read read = IsPlayedBy (g.after s) g.reads g.joins (g.sits s) (g.hears s) g.says at handlers first entries sessions was_read read

  -- A game is over.
  abbrev pub IsOver : G → Type 0
  IsOver game = (g.after (g.setting game) (g.history game)).over ≡ true

  -- A game that is handed back has its setting, and begins with the entries that it had.
  abbrev pub ComesBack : G → G → Type 0
  ComesBack was game = (g.setting game ≡ g.setting was) × IsPrefix (g.history was) (g.history game)

module _ {G S A R L : Type 0} (g : Ghosts G S A R) (at : List ℕ → L → WireState) (picks : List ℕ → Picked) (handlers : ℕ) (was_read read : Option (List ℕ)) where
  -- What comes of a game that was played at this table.
  abbrev pub IsPlayedAt : ℕ → G → G → List (Session L) → Type 0
  IsPlayedAt table was game sessions =
      (g.setting game ≡ g.setting was) × g.is_legal (g.setting was) (g.history game)
      × IsPlayedIn (at_table g picks table) (g.setting was) at handlers (g.history was) (g.history game) sessions was_read read

  -- What comes of games that were played at the tables in their places.
  abbrev pub ArePlayed : List G → List G → List (List (Session L)) → Type 0
  ArePlayed were games sessions = Beside IsPlayedAt were games sessions

-- A handler ended since all games are over, or since the host failed it with its number.
abbrev pub EndsWith : {F : Type 0} → Type 0 → (F → Type 0) → (F → ℕ) → ℕ → HandlerEnd F → Type 0
EndsWith all_over made number by Over = all_over
EndsWith all_over made number by (Host fault) = made fault × (number fault ≡ by)
EndsWith all_over made number by NoMemory = ⊥

-- The ends of so many handlers, numbered from 0, in this order.
abbrev pub AllEndWith : {F : Type 0} → Type 0 → (F → Type 0) → (F → ℕ) → ℕ → List (HandlerEnd F) → Type 0
AllEndWith {F} all_over made number zero ends = ends ≡ []
AllEndWith {F} all_over made number (suc by) ends =
    (before : List (HandlerEnd F)) × (end : HandlerEnd F) × (ends ≡ before ++ end ∷ []) × AllEndWith all_over made number by before × EndsWith all_over made number by end
