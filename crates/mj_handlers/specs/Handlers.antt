-- What a worker comes to that takes links from a host and serves them.
use Rattle.std.specs.Prelude.{◌≡◌, ℕ, true, false, List, [], ◌∷◌, map, Option, Vec}
use Rattle.std.specs.declared.alloc.Global.{Global}
use Rattle.mj_links.specs.Hosts.{IsFresh}
use Rattle.mj_ports.specs.declared.seated.Seated.{Ghosts}
pub use Rattle.mj_handlers.specs.declared.visit.HandlerEnd.{HandlerEnd}
pub use Rattle.mj_handlers.specs.declared.visit.HandlerEnd.TheVariants.{Over, Host, NoMemory}
pub use Rattle.mj_handlers.specs.declared.visit.Session.{Session}
use Rattle.mj_session.specs.declared.served.Ended.{Ended}
use Rattle.mj_session.specs.Sessions.{Entry, JoinLine, SitAnswer, Heard, Control, Showing, Enters, SeatedSession, IsExcused}
pub use Rattle.mj_session.specs.Wires.{WireState, link_state}

-- A wire on whose link nothing was read or written yet.
pub record IsNew (x : WireState) : Type 0 where
  pub fresh : IsFresh x.read x.written x.read_faults x.write_faults
  pub holds_nothing : x.held ≡ []

-- Running out of memory excuses a session that it ended.
abbrev pub WantsMemory : {F : Type 0} → HandlerEnd F → Type 0
WantsMemory NoMemory = Unit {0}
WantsMemory _ = ⊥

module _ {A R L : Type 0} (after : List (Entry A) → Showing) (reads : List ℕ → A) (joins : List ℕ → Option JoinLine) (sits : List (Entry A) → List ℕ →
    SitAnswer) (hears : List (Entry A) → ℕ → ℕ → A → Heard R) (says : Control R → List ℕ) (at : List ℕ → L → WireState) where
  -- A link that is kept had a session with a seat, from when it came on, at the place that is kept with it.
  pub record Noted (excuse : Type 0) (author : ℕ) (old new : List (Entry A)) (session : Session L) : Type 0 where
    pub start : L
    pub is_new : IsNew (at [] start)
    pub held : List ℕ
    pub ended : Ended
    pub seated : SeatedSession after reads joins sits hears says author old new (at [] start) (at held session.link) ended session.place
    pub excused : IsExcused ended → excuse

  -- The sessions that are kept, one after the other, are all that the author entered. Showing one that saw the end of the game
  -- no other begins.
  abbrev pub Handled : Type 0 → ℕ → List (Entry A) → List (Entry A) → List (Session L) → Type 0
  Handled excuse author old new [] = Enters author old new []
  Handled excuse author old new (session ∷ sessions) =
      (mid : List (Entry A)) × Noted excuse author old mid session × ((after mid).over ≡ true → sessions ≡ []) × Handled excuse author mid new sessions

-- The game is over in the history seen; or it is not, and the host made a fault with the handler's number.
abbrev pub HandlerEnds : {A F : Type 0} → (List (Entry A) → Showing) → (F → Type 0) → (F → ℕ) → HandlerEnd F → ℕ → List (Entry A) → Type 0
HandlerEnds after made number Over by new = (after new).over ≡ true
HandlerEnds after made number (Host fault) by new = made fault × (number fault ≡ by) × ((after new).over ≡ false)
HandlerEnds after made number NoMemory by new = Unit {0}

-- The sessions that lists hold.
abbrev pub rows : {L : Type 0} → List (Vec (Session L) Global) → List (List (Session L))
rows kept = map (λ v. v.items) kept

-- What `Handled` says, of a game with this setting.
abbrev pub HandledIn : {G S A R L : Type 0} → Ghosts G S A R → S → (List ℕ → L → WireState) → Type 0 → ℕ → List (Entry A) → List (Entry A) → List (Session L) → Type 0
HandledIn g s at excuse author old new sessions = Handled (g.after s) g.reads g.joins (g.sits s) (g.hears s) g.says at excuse author old new sessions
