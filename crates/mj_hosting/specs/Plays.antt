-- What a command over a host does by its plan: games are played at tables by whoever connects, and what there is of them is written.
use Rattle.std.specs.Prelude.{◌≡◌, ◌⊎◌, ℕ, ◌+◌, ◌<◌, List, [], ◌∷◌, ◌++◌, length, flat_map, Option, Some, None, slice_get, All, IsPermutation}
use Rattle.std.specs.Io.KnownBytes.{Appends, Keeps}
use Rattle.mj_links.specs.Sinks.{WritesPrefix}
use Rattle.mj_history.specs.Legal.{Game}
use Rattle.mj_served.specs.Served.{has_ended}
use Rattle.mj_served.specs.Plans.{Plan, TableGame, PlaysAt}
use Rattle.mj_hosting.specs.declared.plays.ServeEnd.{ServeEnd}
use Rattle.mj_hosting.specs.declared.plays.ServeEnd.TheVariants as ends

-- Links and places were put after those that were returned before, where these are known.
abbrev pub AppendsLinks : {X : Type 0} → Option (List X) → Option (List X) → List X → Type 0
AppendsLinks None new links = Unit {0}
AppendsLinks (Some xs) None links = ⊥
AppendsLinks (Some xs) (Some ys) links = ys ≡ xs ++ links

-- What a host, a clock and a sink have told of themselves: the ports that were tried, how many openings failed, the links that
-- were given back, what the clock told, and what was written; of ports, links, readings and text nothing where it isn't told.
pub record Outside (L : Type 0) : Type 0 where
  pub ports : Option (List ℕ)
  pub open_faults : ℕ
  pub returned : Option (List (L × ℕ))
  pub readings : Option (List ℕ)
  pub written : Option (List ℕ)

abbrev pub outside : {L : Type 0} → Option (List ℕ) → ℕ → Option (List (L × ℕ)) → Option (List ℕ) → Option (List ℕ) → Outside L
outside ports open_faults returned readings written = record { ports = ports; open_faults = open_faults; returned = returned; readings = readings; written = written }

-- The host was not opened: it failed once, by a fault of opening, and nothing else was done.
pub record NotOpened {F L : Type 0} (made : F → Type 0) (number : F → ℕ) (port : ℕ) (old new : Outside L) : Type 0 where
  pub fault : F
  pub made_it : made fault
  pub of_opening : number fault ≡ 255
  pub failed_once : new.open_faults ≡ old.open_faults + 1
  pub tried : Appends old.ports new.ports (port ∷ []) ⊎ Keeps old.ports new.ports
  pub none_back : new.returned ≡ old.returned
  pub unwritten : Keeps old.written new.written

abbrev pub games_of : {L : Type 0} → List (TableGame L) → List Game
games_of [] = []
games_of (t ∷ ts) = t.game ∷ games_of ts

-- For each number of so many handlers the host made a fault with it.
abbrev pub HasLostEach : {F : Type 0} → (F → Type 0) → (F → ℕ) → ℕ → Type 0
HasLostEach {F} made number handlers = (k : ℕ) → k < handlers → (fault : F) × made fault × (number fault ≡ k)

-- All games have ended.
abbrev pub have_ended : List Game → Type 0
have_ended games = All has_ended games

module _ {L F : Type 0} (read left written : L → Option (List ℕ)) (read_faults write_faults : L → ℕ) (made : F → Type 0) (number : F → ℕ) where
  -- At each table of the plan a game of its own was played to an end, over links whose first lines are for that table. All these
  -- links, and no others, were given back to the host with the places of their connections, and the text of the games was
  -- written, whole or in part, as `IsWritten` says.
  pub record Plays (IsWritten : List ℕ → Type 0) (Ends : List Game → Type 0) (plan : Plan) (old new : Outside L) : Type 0 where
    pub tables : List (TableGame L)
    pub links : List (L × ℕ)
    pub many : length tables ≡ plan.tables
    pub opened : Appends old.ports new.ports (plan.port ∷ [])
    pub none_failed : new.open_faults ≡ old.open_faults
    pub served : (t : ℕ) (table : TableGame L) → slice_get tables t ≡ Some table → PlaysAt read left written read_faults write_faults plan t table old.readings new.readings
    pub back : AppendsLinks old.returned new.returned links
    pub apart : IsPermutation (flat_map (λ (t : TableGame L). t.links) tables) links
    pub text_is : IsWritten (plan.text (games_of tables))
    pub ends : Ends (games_of tables)

  -- Some game goes on, and the host failed each handler.
  abbrev pub AreAbandoned : ℕ → List Game → Type 0
  AreAbandoned handlers games = (have_ended games → ⊥) × HasLostEach made number handlers

  -- What a command does by its plan, by its end. Running out of memory writes nothing.
  abbrev pub PlaysBy : ServeEnd → Plan → Outside L → Outside L → Type 0
  PlaysBy ends.Over plan old new = Plays (Appends old.written new.written) have_ended plan old new
  PlaysBy ends.HostLost plan old new = Plays (Appends old.written new.written) (AreAbandoned plan.handlers) plan old new
  PlaysBy ends.WriteFault plan old new = Plays (WritesPrefix old.written new.written) (λ games. have_ended games ⊎ AreAbandoned plan.handlers games) plan old new
  PlaysBy ends.NotOpened plan old new = NotOpened made number plan.port old new
  PlaysBy ends.NoMemory plan old new = Keeps old.written new.written
