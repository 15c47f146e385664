-- The sessions at one of many tables.
use Rattle.std.specs.Prelude.{ℕ, ◌==◌, List, [], ◌∷◌, if◌then◌else◌}
use Rattle.mj_handlers.specs.declared.visit.Session.{Session}
use Rattle.mj_tables.specs.declared.closed.TableSession.{TableSession}

-- The sessions at a table, in order.
abbrev pub sessions_at : {L : Type 0} → ℕ → List (TableSession L) → List (Session L)
sessions_at table [] = []
sessions_at table (s ∷ ss) = if s.table == table then s.session ∷ sessions_at table ss else sessions_at table ss
