-- For which of several tables a line is.
use Rattle.std.specs.Prelude.{ℕ, ◌<◌, ◌==◌, List, if◌then◌else◌}
use Rattle.mj_ports.specs.declared.entry.Entry.{Entry}
use Rattle.mj_ports.specs.declared.picking.Picked.{Picked}
use Rattle.mj_ports.specs.declared.picking.Picked.TheVariants as picked
use Rattle.mj_ports.specs.declared.sitting.SitRefused.TheVariants.{BadName, NoRoom}
use Rattle.mj_ports.specs.declared.answers.SitAnswer.{SitAnswer}
use Rattle.mj_ports.specs.declared.answers.SitAnswer.TheVariants as sit
use Rattle.mj_ports.specs.declared.seated.Seated.{Ghosts}

-- What is said at a table to a line that wants a seat: what the game there says to it, where the line is for that table.
abbrev pub sits_by : Picked → ℕ → SitAnswer → SitAnswer
sits_by (picked.Table t) table answer = if t == table then answer else sit.Refused NoRoom
sits_by picked.BadName table answer = sit.Refused BadName
sits_by picked.NoRoom table answer = sit.Refused NoRoom

abbrev pub sits_at : {A : Type 0} → (List ℕ → Picked) → ℕ → (List (Entry A) → List ℕ → SitAnswer) → List (Entry A) → List ℕ → SitAnswer
sits_at picks table sits entries line = sits_by (picks line) table (sits entries line)

-- A line is for one of so many tables, or for none.
abbrev pub IsBelow : ℕ → Picked → Type 0
IsBelow tables (picked.Table t) = t < tables
IsBelow tables picked.BadName = Unit {0}
IsBelow tables picked.NoRoom = Unit {0}

-- What is shown of a game at this table, where lines that want a seat are picked so.
abbrev pub at_table : {G S A R : Type 0} → Ghosts G S A R → (List ℕ → Picked) → ℕ → Ghosts G S A R
at_table g picks table = record g { sits = λ s. sits_at picks table (g.sits s) }
