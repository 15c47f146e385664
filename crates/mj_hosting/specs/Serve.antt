-- What the command `serve` does: a game of 200 shuffled walls is played over a host by whoever connects, and its record is
-- written.
use Rattle.std.specs.Prelude.{◌≡◌, ◌⊎◌, ℕ, ◌<◌, false, List, [], ◌∷◌, Option}
use Rattle.std.specs.Io.KnownBytes.{Appends, Keeps}
use Rattle.mj_words.specs.Asked.{ServedWith}
use Rattle.mj_links.specs.Sinks.{WritesPrefix}
use Rattle.mj_history.specs.After.{after}
use Rattle.mj_history.specs.Legal.{Game, is_over}
use Rattle.mj_served.specs.Served.{IsServed, record_of_game, has_ended}
use Rattle.mj_hosting.specs.declared.plays.ServeEnd.{ServeEnd}
use Rattle.mj_hosting.specs.declared.plays.ServeEnd.TheVariants as ends
use Rattle.mj_hosting.specs.Plans.{served_setting}
pub use Rattle.mj_hosting.specs.Plays.{Outside, outside, NotOpened, AppendsLinks}

-- For each number from 0 to 7 the host made a fault with it.
abbrev pub HasLostAll : {F : Type 0} → (F → Type 0) → (F → ℕ) → Type 0
HasLostAll {F} made number = (k : ℕ) → k < 8 → (fault : F) × made fault × (number fault ≡ k)

module _ {L F : Type 0} (read left written : L → Option (List ℕ)) (read_faults write_faults : L → ℕ) (made : F → Type 0) (number : F → ℕ) where
  -- A game was played to an end, its links were given back to the host with the places of their connections, and its record was
  -- written, whole or in part, as `IsWritten` says.
  pub record PlaysGame (IsWritten : List ℕ → Type 0) (Ends : Game → Type 0) (s : ServedWith) (old new : Outside L) : Type 0 where
    pub game : Game
    pub links : List (L × ℕ)
    pub opened : Appends old.ports new.ports (s.port ∷ [])
    pub none_failed : new.open_faults ≡ old.open_faults
    pub served : IsServed read left written read_faults write_faults (served_setting s) 8 [] game links old.readings new.readings
    pub back : AppendsLinks old.returned new.returned links
    pub record_is : IsWritten (record_of_game game)
    pub ends : Ends game

  -- The game goes on, and the host failed each handler.
  abbrev pub IsAbandoned : Game → Type 0
  IsAbandoned game = (is_over (after game.setting game.entries).deeds ≡ false) × HasLostAll made number

  -- What the command does, by its end. Running out of memory writes nothing.
  abbrev pub Serves : ServeEnd → ServedWith → Outside L → Outside L → Type 0
  Serves ends.Over s old new = PlaysGame (Appends old.written new.written) has_ended s old new
  Serves ends.HostLost s old new = PlaysGame (Appends old.written new.written) IsAbandoned s old new
  Serves ends.WriteFault s old new = PlaysGame (WritesPrefix old.written new.written) (λ game. has_ended game ⊎ IsAbandoned game) s old new
  Serves ends.NotOpened s old new = NotOpened made number s.port old new
  Serves ends.NoMemory s old new = Keeps old.written new.written
