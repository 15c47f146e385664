-- What comes of a game that workers play: some that take links, numbered from 0, and one that tells the time, which has the
-- number after theirs.
use Rattle.std.specs.Prelude.{◌≡◌, ℕ, zero, suc, ◌+◌, ◌<◌, All, IsPermutation, List, [], ◌∷◌, ◌++◌, length, map, if◌then◌else◌, Option}
use mathlib.Core.List.{IsPrefix}
use Rattle.mj_connection.specs.Seating.{Entry, JoinLine, SitAnswer, Heard, Control, Showing}
use Rattle.mj_ports.specs.declared.entry.Entry.TheVariants.{Expired}
use Rattle.mj_ports.specs.Entries.{author_of}
use Rattle.mj_ports.specs.Seats.{script}
use Rattle.mj_session.specs.Histories.{Enters, begins_one}
use Rattle.mj_session.specs.Wires.{WireState}
use Rattle.mj_handlers.specs.declared.visit.Session.{Session}
use Rattle.mj_handlers.specs.Handlers.{Noted}
use Rattle.mj_ticker.specs.Ticks.{Ticks}

module _ {A : Type 0} where
  -- The places of all Sat and Back entries, the oldest first, where the first entry has this place.
  abbrev pub begun_from : ℕ → List (Entry A) → List ℕ
  begun_from from [] = []
  begun_from from (e ∷ es) = if begins_one e then from ∷ begun_from (from + 1) es else begun_from (from + 1) es

  -- An expiry is of this author.
  abbrev pub ExpiresBy : ℕ → Entry A → Type 0
  ExpiresBy number (Expired author window t1 t2) = author ≡ number
  ExpiresBy number _ = Unit {0}

module _ {A R L : Type 0} (after : List (Entry A) → Showing) (reads : List ℕ → A) (joins : List ℕ → Option JoinLine) (sits : List (Entry A) → List ℕ →
    SitAnswer) (hears : List (Entry A) → ℕ → ℕ → A → Heard R) (says : Control R → List ℕ) (at : List ℕ → L → WireState) where
  -- A session in the whole history: it saw a beginning of it, from the old entries up to the new ones, without running out of memory,
  -- and the script of its connection in the whole history is that in what it saw.
  pub record IsServed (author : ℕ) (old new all : List (Entry A)) (session : Session L) : Type 0 where
    pub kept : Noted after reads joins sits hears says at ⊥ author old new session
    pub begins : IsPrefix new all
    pub script_is : script (after all) session.place ≡ script (after new) session.place

  -- The sessions, one after the other, are all that the author entered in the whole history, from the old entries on.
  abbrev pub Serves : ℕ → List (Entry A) → List (Entry A) → List (Session L) → Type 0
  Serves author old all [] = Enters author old all []
  Serves author old all (session ∷ sessions) = (new : List (Entry A)) × IsServed author old new all session × Serves author new all sessions

  -- The sessions of so many authors, numbered from 0, those of one author after those of the one before it, in a history that
  -- began with the first entries.
  abbrev pub AllServe : List (Entry A) → ℕ → List (Entry A) → List (Session L) → Type 0
  AllServe first zero all sessions = sessions ≡ []
  AllServe first (suc author) all sessions =
      (before : List (Session L)) × (own : List (Session L)) × (sessions ≡ before ++ own) × AllServe first author all before × Serves author first all own

  -- What so many handlers, and a ticker with the number after theirs, leave of a game with these entries, which began with the
  -- first ones, where the clock's readings grew so.
  pub record IsPlayedBy (handlers : ℕ) (first entries : List (Entry A)) (sessions : List (Session L)) (was_read read : Option (List ℕ)) : Type 0 where
    pub since : List (Entry A)
    pub grown : entries ≡ first ++ since
    pub authors : All (λ e. author_of e < handlers + 1) entries
    pub sessions_are : AllServe first handlers entries sessions
    pub places : IsPermutation (begun_from (length first) since) (map (λ s. s.place) sessions)
    pub ticks : Ticks handlers first entries was_read read
    pub expiries : All (ExpiresBy handlers) since
