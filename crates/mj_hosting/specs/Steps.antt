-- What single steps of served games come to.
use Rattle.std.specs.Prelude.{◌≡◌, ℕ, Bool, true, false, List, [], ◌∷◌, ◌++◌, length, map, Option, Some, slice_get}
use Rattle.std.specs.List.{list_all}
use Rattle.std.specs.Io.KnownBytes.{Appends, Keeps}
use Rattle.mj_words.specs.Asked.{ServedWith}
use Rattle.mj_ports.specs.declared.entry.Entry.{Entry}
use Rattle.mj_deeds.specs.declared.answer.Answer.{Answer}
use Rattle.mj_links.specs.declared.host.Given.{Given}
use Rattle.mj_links.specs.declared.host.Given.TheVariants as given
use Rattle.mj_links.specs.Sinks.{WritesPrefix}
use Rattle.mj_history.specs.After.{after}
use Rattle.mj_history.specs.Legal.{Game, is_over}
use Rattle.mj_handlers.specs.declared.visit.Session.{Session}
use Rattle.mj_hosting.specs.declared.plays.ServeEnd.{ServeEnd}
use Rattle.mj_hosting.specs.declared.plays.ServeEnd.TheVariants as ends
use Rattle.mj_hosting.specs.Plans.{table_setting}
use Rattle.mj_hosting.specs.Plays.{AppendsLinks}

-- So many games are those of the tables, each with these entries.
pub record AreBegun (s : ServedWith) (first : ℕ → List (Entry Answer)) (count : ℕ) (games : List Game) : Type 0 where
  pub many : length games ≡ count
  pub each : (t : ℕ) (game : Game) → slice_get games t ≡ Some game → game ≡ record { setting = table_setting s t; entries = first t }

-- Before their first entries.
abbrev pub AreNew : ServedWith → ℕ → List Game → Type 0
AreNew s count games = AreBegun s (λ t. []) count games

-- A link with the place of its connection.
abbrev pub placed_link : {L : Type 0} → Session L → L × ℕ
placed_link session = (session.link, session.place)

-- Those of one table, and those of all, the first table first.
abbrev pub links_at : {L : Type 0} → List (Session L) → List (L × ℕ)
links_at sessions = map placed_link sessions

abbrev pub links_in : {L : Type 0} → List (List (Session L)) → List (L × ℕ)
links_in [] = []
links_in (sessions ∷ rows) = links_at sessions ++ links_in rows

-- All links were given back, unless memory was wanting.
abbrev pub GivesAllBack : {X : Type 0} → Given → Option (List X) → Option (List X) → List X → Type 0
GivesAllBack given.Kept old new links = AppendsLinks old new links
GivesAllBack given.NoMemory old new links = Unit {0}

-- All games are over.
abbrev pub all_over : List Game → Bool
all_over games = list_all (λ (g : Game). is_over (after g.setting g.entries).deeds) games

-- What is written of games, and whether all of them are over, by the end.
abbrev pub WritesGames : ServeEnd → (List Game → List ℕ) → List Game → Option (List ℕ) → Option (List ℕ) → Type 0
WritesGames ends.Over text games old new = Appends old new (text games) × (all_over games ≡ true)
WritesGames ends.HostLost text games old new = Appends old new (text games) × (all_over games ≡ false)
WritesGames ends.NotOpened text games old new = ⊥
WritesGames ends.WriteFault text games old new = WritesPrefix old new (text games)
WritesGames ends.NoMemory text games old new = Keeps old new
