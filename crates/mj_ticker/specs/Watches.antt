-- What the ticker has come to at tables, each of which has so many handlers.
use Rattle.std.specs.Prelude.{◌≡◌, ℕ, ◌<◌, Bool, true, false, List, [], ◌∷◌, ◌++◌, Option, Some, None, slice_get}
use Rattle.std.specs.Io.KnownBytes.{Appends}
use Rattle.turn_lock.specs.Passes.{TurnState, PassState}
use Rattle.turn_lock.specs.Turns.{IsIdle}
use Rattle.mj_ports.specs.declared.entry.Entry.{Entry}
use Rattle.mj_ports.specs.declared.entry.Entry.TheVariants.{Expired}
use Rattle.mj_ports.specs.declared.seated.Seated.{Ghosts}
use Rattle.mj_session.specs.Histories.{Enters}
use Rattle.mj_ticker.specs.declared.ticker.Watch.{Watch}
use Rattle.mj_ticker.specs.declared.ticker.Sight.{Sight}
use Rattle.mj_ticker.specs.declared.ticker.Sight.TheVariants as sight
use Rattle.mj_ticker.specs.declared.ticker.Closing.{Closing}
use Rattle.mj_ticker.specs.declared.ticker.Closing.TheVariants as closing
use Rattle.mj_ticker.specs.Beside.{Beside}
use Rattle.mj_ticker.specs.Ticks.{Timed, TicksAs}

-- The window that is watched.
abbrev pub watch_of : Sight → Option Watch
watch_of sight.Nothing = None
watch_of (sight.Open window) = None
watch_of (sight.Since watch) = Some watch
watch_of (sight.Ended ticked) = None

-- Nothing more is to be told.
abbrev pub is_ended : Sight → Bool
is_ended (sight.Ended ticked) = true
is_ended _ = false

-- Nothing more is to be told at the tables below one.
abbrev pub AreEnded : ℕ → List Sight → Type 0
AreEnded count sights = (t : ℕ) (s : Sight) → t < count → slice_get sights t ≡ Some s → is_ended s ≡ true

-- A window that is watched was seen open before the reading that is kept with it.
abbrev pub SinceRead : Option Watch → List ℕ → Type 0
SinceRead None pending = Unit {0}
SinceRead (Some watch) pending = (between : List ℕ) × (pending ≡ watch.since ∷ between)

-- What `Ticks` says, on the way: the pending readings are those since the last expiry or since a window is watched.
pub record Ticking {A : Type 0} (author : ℕ) (old new : List (Entry A)) (was_read read : Option (List ℕ)) (watch : Option Watch) : Type 0 where
  pub used : List ℕ
  pub pending : List ℕ
  pub mine : List (Entry A)
  pub entered : Enters author old new mine
  pub timed : Timed author used mine
  pub made : Appends was_read read (used ++ pending)
  pub since : SinceRead watch pending

module _ {T S A R : Type 0} (g : Ghosts T S A R) (lost : T → ℕ → Bool) (handlers : ℕ) where
  -- What is known of a table at which nothing more is to be told.
  abbrev pub EndsAs : S → Sight → List (Entry A) → Option T → Type 0
  EndsAs fixed (sight.Ended ticked) new last = TicksAs g lost handlers fixed ticked new last
  EndsAs fixed _ new last = Unit {0}

  -- What comes of a try to close a window that is watched.
  abbrev pub Closes : S → Closing → ℕ → Watch → ℕ → List (Entry A) → List (Entry A) → Option T → Type 0
  Closes fixed (closing.Ends ticked) author watch now old new last = (new ≡ old) × TicksAs g lost handlers fixed ticked new last
  Closes fixed closing.Closed author watch now old new last = new ≡ old ++ Expired author watch.window watch.since now ∷ []
  Closes fixed _ author watch now old new last = new ≡ old

  -- What comes of a try to close a window that is watched, where others entered something before.
  pub record ClosesAt (fixed : S) (what : Closing) (author : ℕ) (watch : Watch) (now : ℕ) (old new : List (Entry A)) (last : Option T) : Type 0 where
    pub until : List (Entry A)
    pub nothing : Enters author old until []
    pub closes : Closes fixed what author watch now until new last

  module _ (setting : T → S) (by : ℕ) where
    -- At a table the ticker has a pass that is not busy, and entered expiries alone since the first entries.
    pub record IsWatched (first : List (Entry A)) (start read : Option (List ℕ)) (turn : TurnState T) (p : PassState T S (Entry A)) (s : Sight) : Type 0 where
      pub idle : IsIdle setting turn p
      pub number_is : p.number ≡ by
      pub ticking : Ticking by first p.seen start read (watch_of s)
      pub ended : EndsAs (setting turn.opening) s p.seen p.last

    -- At each table the ticker has a pass that is not busy, and entered expiries alone since the first entries there.
    abbrev pub AreWatched : (TurnState T → List (Entry A)) → Option (List ℕ) → Option (List ℕ) → List (TurnState T) → List (PassState T S (Entry A)) → List Sight → Type 0
    AreWatched first start read turns passes sights = Beside (λ t turn p s. IsWatched (first turn) start read turn p s) turns passes sights
