-- What the session of a link comes to.
use Rattle.std.specs.Prelude.{◌≡◌, ◌⊎◌, ℕ, ◌<◌, ◌≤◌, true, false, List, [], ◌∷◌, ◌++◌, length, Option, Some, None}
use Rattle.std.specs.Io.KnownBytes.{IsAtEnd}
use Rattle.mj_links.specs.Links.{has_newline}
pub use Rattle.mj_connection.specs.Seating.{Entry, JoinLine, SitAnswer, Heard, Control, Showing, said_by, GivesSeat, GetsSeat, EndsBy, Owes, EndsByRefusal, Enters}
use Rattle.mj_ports.specs.declared.entry.Entry.TheVariants.{Gone}
use Rattle.mj_ports.specs.declared.answers.SitAnswer.TheVariants as sit
use Rattle.mj_ports.specs.declared.answers.Control.TheVariants as control
use Rattle.mj_ports.specs.declared.seated.Seated.{Ghosts}
use Rattle.mj_ports.specs.Seats.{script}
pub use Rattle.mj_session.specs.declared.served.Ended.{Ended}
pub use Rattle.mj_session.specs.declared.served.Ended.TheVariants.{GameOver, PeerEnded, LinkFault, LineTooLong, TooManyRefusals, NotSeated, NoMemory}
use Rattle.mj_session.specs.declared.served.Served.{Served}
use Rattle.mj_session.specs.Wires.{WireState, Took, ToldInPart}

-- Running out of memory excuses what is missing.
abbrev pub IsExcused : Ended → Type 0
IsExcused NoMemory = Unit {0}
IsExcused _ = ⊥

-- What the wire shows of the end: its input ended within a line, or a write failed, or a read failed while fewer than 4,096
-- bytes without a newline were held, or it holds so many. Only at the end of the input is there a rest of a line.
abbrev pub WireEnds : Ended → WireState → WireState → List ℕ → Type 0
WireEnds PeerEnded x y rest = (has_newline rest ≡ false) × (y.held ≡ []) × IsAtEnd y.left
WireEnds LinkFault x y rest = (rest ≡ []) × ((x.write_faults < y.write_faults) ⊎ ((x.read_faults < y.read_faults) × (has_newline y.held ≡ false) × (length y.held < 4096)))
WireEnds LineTooLong x y rest = (rest ≡ []) × (length y.held ≡ 4096) × (has_newline y.held ≡ false)
WireEnds NoMemory x y rest = has_newline rest ≡ false
WireEnds _ x y rest = rest ≡ []

-- A seat enters that it is gone exactly where its link ended the session.
abbrev pub last_entry : {A : Type 0} → Ended → ℕ → ℕ → List (Entry A)
last_entry PeerEnded author seat = Gone author seat ∷ []
last_entry LinkFault author seat = Gone author seat ∷ []
last_entry LineTooLong author seat = Gone author seat ∷ []
last_entry _ author seat = []

-- Every line that came was entered, but perhaps for the last one, where memory was wanting.
abbrev pub LeavesOut : Ended → List (List ℕ) → Type 0
LeavesOut NoMemory lines = length lines ≤ 1
LeavesOut _ lines = lines ≡ []

-- What the history shows of the end of the session of a seat that said these lines, on a link of which this is left. The game
-- is over, the connection goes on, and the seat, which is present by the author, has no deed to answer. Else the last entry is
-- that the seat is gone or that it was refused for good, and before that entry it had a deed to answer. It may have had none only
-- where its link failed before anything was said on it, or ended or failed and doesn't tell what is left.
abbrev pub HistoryEnds : {A R : Type 0} → (List (Entry A) → Showing) → (List (Entry A) → ℕ → ℕ → A → Heard R) → Option (List ℕ) → Ended → ℕ → ℕ → ℕ → List (List ℕ) → List (Entry A) → Type 0
HistoryEnds after hears left GameOver author seat place said new =
    ((after new).over ≡ true) × ((after new).present seat ≡ Some author) × ((after new).seat_of place ≡ Some seat) × ((after new).deeds ≤ (after new).due seat)
HistoryEnds after hears left PeerEnded author seat place said new = EndsBy after seat place new (Gone author seat) (λ before. (left ≡ None) ⊎ Owes (after before) seat)
HistoryEnds after hears left LinkFault author seat place said new = EndsBy after seat place new (Gone author seat) (λ before. (said ≡ []) ⊎ ((left ≡ None) ⊎ Owes (after before) seat))
HistoryEnds after hears left TooManyRefusals author seat place said new = EndsByRefusal after hears author seat place new
HistoryEnds after hears left (NotSeated why) author seat place said new = ⊥
HistoryEnds after hears left NoMemory author seat place said new = Unit {0}
HistoryEnds after hears left _ author seat place said new = EndsBy after seat place new (Gone author seat) (λ before. Owes (after before) seat)

-- What is written on the link of a session without a seat: the hello line, and the line of its refusal.
abbrev pub turned_away : {R : Type 0} → (Control R → List ℕ) → Ended → List ℕ
turned_away says (NotSeated why) = says control.Hello ++ says (control.SitRefused why)
turned_away says _ = says control.Hello

-- A session without a seat ended before its first line came, or by the refusal that this line has in the history seen.
abbrev pub NoSeatFor : {A : Type 0} → (List (Entry A) → List ℕ → SitAnswer) → Ended → List (List ℕ) → List (Entry A) → Type 0
NoSeatFor sits GameOver lines new = ⊥
NoSeatFor sits TooManyRefusals lines new = ⊥
NoSeatFor sits (NotSeated why) lines new = (line : List ℕ) × (lines ≡ line ∷ []) × (sits new line ≡ sit.Refused why)
NoSeatFor sits NoMemory lines new = length lines ≤ 1
NoSeatFor sits _ lines new = lines ≡ []

-- A session without a seat entered nothing.
pub record SeatlessSession {A R : Type 0} (sits : List (Entry A) → List ℕ → SitAnswer) (says : Control R → List ℕ) (author : ℕ)
    (old new : List (Entry A)) (x y : WireState) (ended : Ended) : Type 0 where
  pub lines : List (List ℕ)
  pub rest : List ℕ
  pub nothing : Enters author old new []
  pub took : Took x y lines rest
  pub no_seat : NoSeatFor sits ended lines new
  pub wrote : ToldInPart (IsExcused ended) x y [] (turned_away says ended)
  pub wire_ends : WireEnds ended x y rest

module _ {A R : Type 0} (after : List (Entry A) → Showing) (reads : List ℕ → A) (joins : List ℕ → Option JoinLine) (sits : List (Entry A) → List ℕ →
    SitAnswer) (hears : List (Entry A) → ℕ → ℕ → A → Heard R) (says : Control R → List ℕ) where
  -- A session with a seat. Its first line was given the seat at the place, and each line after it was entered, in order,
  -- once each, with what it reads as; nothing else was entered but, as the last entry, that the seat is gone. What was
  -- written is the script of the connection.
  pub record SeatedSession (author : ℕ) (old new : List (Entry A)) (x y : WireState) (ended : Ended) (place : ℕ) : Type 0 where
    pub seat : ℕ
    pub before : List (Entry A)
    pub first : Entry A
    pub line : List ℕ
    pub lines : List (List ℕ)
    pub left_out : List (List ℕ)
    pub rest : List ℕ
    pub place_is : place ≡ length before
    pub nothing_before : Enters author old before []
    pub gets_seat : GetsSeat sits joins before line author seat first
    pub entered : Enters author (before ++ first ∷ []) new (said_by reads author seat lines ++ last_entry ended author seat)
    pub took : Took x y (line ∷ (lines ++ left_out)) rest
    pub all_but : LeavesOut ended left_out
    pub wrote : ToldInPart (IsExcused ended) x y [] (script (after new) place)
    pub wire_ends : WireEnds ended x y rest
    pub history_ends : HistoryEnds after hears y.left ended author seat place lines new

  -- A session has a place exactly where it has a seat.
  abbrev pub SessionAt : ℕ → List (Entry A) → List (Entry A) → WireState → WireState → Ended → Option ℕ → Type 0
  SessionAt author old new x y ended None = SeatlessSession sits says author old new x y ended
  SessionAt author old new x y ended (Some place) = SeatedSession author old new x y ended place

-- The session of a link, of a game with this setting.
abbrev pub Session : {G S A R : Type 0} → Ghosts G S A R → S → ℕ → List (Entry A) → List (Entry A) → WireState → WireState → Served → Type 0
Session g s author old new x y served = SessionAt (g.after s) g.reads g.joins (g.sits s) (g.hears s) g.says author old new x y served.ended served.place
