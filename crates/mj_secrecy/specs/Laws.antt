-- The law of one world: games that agree for a seat tell it the same.
use Rattle.std.specs.Prelude.{◌≡◌, ℕ}
use Rattle.mj_history.specs.After.{connections, scripts}
use Rattle.mj_history.specs.Legal.{Game}
use Rattle.mj_secrecy.specs.Trace.{Agree}

-- Any two games that agree for a seat give it the same bytes.
abbrev pub AgreeingGamesTellTheSame : Type 0
AgreeingGamesTellTheSame = (seat : ℕ) (g h : Game) → Agree seat g h → scripts seat g.setting g.entries ≡ scripts seat h.setting h.entries

-- So each of its connections is given the same bytes, and there are as many.
abbrev pub AgreeingConnectionsAreTheSame : Type 0
AgreeingConnectionsAreTheSame = (seat : ℕ) (g h : Game) → Agree seat g h → connections seat g.setting g.entries ≡ connections seat h.setting h.entries
