-- Whose the entries of a journal are.
use Rattle.std.specs.Prelude.{◌≡◌, ◌⊎◌, ℕ, ◌&&◌, Bool, false, nat_lt, List, Result, Ok, Err}
use Rattle.std.specs.List.{list_all}
use Rattle.mj_ports.specs.declared.entry.Entry.{Entry}
use Rattle.mj_ports.specs.Entries.{author_of}
use Rattle.mj_journal.specs.Openings.{Opening, Other, Bad, Open}
use Rattle.mj_journal.specs.Founding.{GivesEntries}
use Rattle.mj_journal.specs.declared.outcome.Outcome.{Outcome}
use Rattle.mj_journal.specs.declared.outcome.Outcome.TheVariants.{Entered, Nothing, NoMemory}
use Rattle.mj_journal.specs.declared.not_opened.NotOpened.{NotOpened}
use Rattle.mj_journal.specs.declared.not_opened.NotOpened.TheVariants as not_opened
use Rattle.mj_written.specs.Writing.{Journaled}

-- The author of each entry is below a number.
abbrev pub are_below : {A : Type 0} → ℕ → List (Entry A) → Bool
are_below authors entries = list_all (λ e. nat_lt (author_of e) authors) entries

-- A game, a number of authors, and whether the author of each entry is below it.
pub record Signed (G : Type 0) : Type 0 where
  pub game : G
  pub authors : ℕ
  pub below : Bool

-- One that was just made.
pub record IsNew {G : Type 0} (given : G) (number : ℕ) (signed : Signed G) : Type 0 where
  pub game : signed.game ≡ given
  pub authors : signed.authors ≡ number

-- Whether each author is below the number after a call of this author, by what the call did and whether they were before.
abbrev pub stays_below : Outcome → Bool → ℕ → ℕ → Bool
stays_below Entered below author authors = below && nat_lt author authors
stays_below Nothing below author authors = below
stays_below NoMemory below author authors = below

-- The journal is that of another game: it has another tag, or an entry whose author isn't below the number.
abbrev pub IsOther : {A : Type 0} → ℕ → Opening (List (Entry A)) → Type 0
IsOther authors opening = (opening ≡ Other) ⊎ ((es : List (Entry _)) × (end : ℕ) × (opening ≡ Open es end) × (are_below authors es ≡ false))

-- Each reason is given only where it is right, but for a fault of the disk and for want of memory.
abbrev pub IsReason : {A : Type 0} → ℕ → Opening (List (Entry A)) → NotOpened → Type 0
IsReason authors opening not_opened.DiskFault = Unit {0}
IsReason authors opening not_opened.OtherGame = IsOther authors opening
IsReason authors opening (not_opened.BadJournal place) = opening ≡ Bad place
IsReason authors opening not_opened.NoMemory = Unit {0}

-- A written game has the entries of its journal, none where that is new; where there is no game, the reason is right.
abbrev pub OpensAs : {A G D : Type 0} → (G → List (Entry A)) → ℕ → Opening (List (Entry A)) → Result (Journaled G D) (NotOpened × D) → Type 0
OpensAs history authors opening (Ok w) = GivesEntries opening (history w.game) w.end
OpensAs history authors opening (Err e) = IsReason authors opening e.0
