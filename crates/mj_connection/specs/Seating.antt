-- What an author enters in a history that others enter in too, how a connection gets its seat, and how the history shows its
-- end.
use Rattle.std.specs.Prelude.{◌≡◌, ◌⊎◌, ℕ, ◌<◌, List, [], ◌∷◌, ◌++◌, ◌==◌, map, filter, Option, Some}
pub use Rattle.mj_ports.specs.declared.entry.Entry.{Entry}
use Rattle.mj_ports.specs.declared.entry.Entry.TheVariants.{Said}
pub use Rattle.mj_ports.specs.declared.sitting.JoinLine.{JoinLine}
pub use Rattle.mj_ports.specs.declared.answers.SitAnswer.{SitAnswer}
use Rattle.mj_ports.specs.declared.answers.SitAnswer.TheVariants as sit
pub use Rattle.mj_ports.specs.declared.answers.Control.{Control}
pub use Rattle.mj_ports.specs.declared.answers.Heard.{Heard}
use Rattle.mj_ports.specs.declared.answers.Heard.TheVariants as heard
use Rattle.mj_ports.specs.SeatCalls.{AnswersSit}
pub use Rattle.mj_ports.specs.Seats.{Showing, Stays, Unmoved}
use Rattle.mj_ports.specs.Entries.{author_of}

module _ {A : Type 0} where
  -- The entries of one author, in order.
  abbrev pub own_of : ℕ → List (Entry A) → List (Entry A)
  own_of number entries = filter (λ e. author_of e == number) entries

  -- The history has grown, and of the entries since then just these are of the author with this number.
  pub record Enters (number : ℕ) (old new mine : List (Entry A)) : Type 0 where
    pub since : List (Entry A)
    pub grown : new ≡ old ++ since
    pub mine_are : own_of number since ≡ mine

  -- At most one entry was added, of this author.
  abbrev pub AddsOne : ℕ → List (Entry A) → List (Entry A) → Type 0
  AddsOne number old new = (new ≡ old) ⊎ ((e : Entry A) × (author_of e ≡ number) × (new ≡ old ++ e ∷ []))

  -- What a seat said by these lines.
  abbrev pub said_by : (List ℕ → A) → ℕ → ℕ → List (List ℕ) → List (Entry A)
  said_by reads author seat lines = map (λ line. Said author seat (reads line)) lines

  -- Others alone entered something, and what they entered left the seats alone that were present by the author.
  pub record LeftAlone (after : List (Entry A) → Showing) (author : ℕ) (old new : List (Entry A)) : Type 0 where
    pub nothing : Enters author old new []
    pub alone : (seat : ℕ) → (after old).present seat ≡ Some author → Unmoved seat (after old) (after new) × Stays (after old) (after new)

-- A line that wants a seat got this one.
abbrev pub GivesSeat : SitAnswer → ℕ → Type 0
GivesSeat (sit.Sat given) seat = given ≡ seat
GivesSeat (sit.Back given) seat = given ≡ seat
GivesSeat _ seat = ⊥

module _ {A : Type 0} (sits : List (Entry A) → List ℕ → SitAnswer) (joins : List ℕ → Option JoinLine) where
  -- Showing these entries the line was given the seat, which is entered as the first entry of the connection.
  pub record GetsSeat (before : List (Entry A)) (line : List ℕ) (author seat : ℕ) (first : Entry A) : Type 0 where
    pub answer : SitAnswer
    pub given : GivesSeat answer seat
    pub is_right : AnswersSit before (before ++ first ∷ []) answer (sits before line) author (joins line)

-- Before its last entry, which is this one, the connection of the place was that of the seat.
pub record EndsBy {A : Type 0} (after : List (Entry A) → Showing) (seat place : ℕ) (new : List (Entry A)) (last : Entry A) (verdict : List (Entry A) → Type 0) : Type 0 where
  pub before : List (Entry A)
  pub last_is : new ≡ before ++ last ∷ []
  pub was_of : (after before).seat_of place ≡ Some seat
  pub right : verdict before

-- A seat has a deed to answer.
abbrev pub Owes : Showing → ℕ → Type 0
Owes w seat = w.due seat < w.deeds

-- A closing refusal ends the connection of a seat that has a deed to answer.
pub record EndsByRefusal {A R : Type 0} (after : List (Entry A) → Showing) (hears : List (Entry A) → ℕ → ℕ → A → Heard R) (author seat place : ℕ) (new : List (Entry A)) : Type 0 where
  pub answer : A
  pub rule : R
  pub ends : EndsBy after seat place new (Said author seat answer) (λ before. Owes (after before) seat × (hears before author seat answer ≡ heard.Closing rule))
