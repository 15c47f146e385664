-- What the journals of hosted games keep, and what may have stood on their disks.
use Rattle.std.specs.Prelude.{◌≡◌, ◌⊎◌, ℕ, ◌<◌, if◌then◌else◌, List, [], ◌∷◌, ◌++◌, Option, Some, All}
use mathlib.Core.List.{IsPrefix}
use Rattle.mj_ports.specs.declared.entry.Entry.{Entry}
use Rattle.mj_ports.specs.Entries.{author_of}
use Rattle.mj_ports.specs.Seats.{Showing}
use Rattle.mj_deeds.specs.declared.answer.Answer.{Answer}
use Rattle.mj_wall.specs.declared.setting.Setting.{Setting}
use Rattle.mj_forms.specs.RecordTexts.{record_text}
use Rattle.mj_history.specs.Shown.{shown_of}
use Rattle.mj_journal.specs.Disks.{LeavesOnly, SyncsOnly, Only}
use Rattle.mj_journal.specs.Openings.{Opening, Fresh, Other, Bad, Open}
use Rattle.mj_journal.specs.Playing.{opens}
use Rattle.mj_refereeing.specs.Keep.{play_of, Gives}
use Rattle.mj_written.specs.Vacating.{vacated}

-- The tag of the journal of a game: its header and its walls, as its record begins with them.
abbrev pub tag_of : Setting → List ℕ
tag_of s = record_text s.rules s.walls []

-- How a disk opens for the game of a setting.
abbrev pub opens_game : Setting → List ℕ → Opening (List (Entry Answer))
opens_game s image = opens (play_of s) (tag_of s) image

-- The entries with which a game goes on that had these: unless it is over, each seat that was present has left.
abbrev pub gone_on : {A : Type 0} → (List (Entry A) → Showing) → List (Entry A) → List (Entry A)
gone_on after kept = if (after kept).over then kept else vacated after kept 4

-- The entries with which the game of a setting goes on whose journal kept these.
abbrev pub resumed : Setting → List (Entry Answer) → List (Entry Answer)
resumed s kept = gone_on (shown_of s) kept

-- A journal opens to a part of a game's entries, which has at least those that were kept.
pub record OpensBetween (kept entries : List (Entry Answer)) (now : Opening (List (Entry Answer))) : Type 0 where
  pub part : List (Entry Answer)
  pub end : ℕ
  pub opened : now ≡ Open part end
  pub begins : IsPrefix kept part
  pub goes : IsPrefix part entries

-- How a journal may open at a moment of a run, by how it opened before: a new one is still new, or opens to a part of the
-- game's entries; and one that kept entries opens to these, and maybe more of the game's.
abbrev pub IsBetween : Opening (List (Entry Answer)) → List (Entry Answer) → Opening (List (Entry Answer)) → Type 0
IsBetween Fresh entries now = (now ≡ Fresh) ⊎ OpensBetween [] entries now
IsBetween (Open kept end) entries now = OpensBetween kept entries now
IsBetween Other entries now = ⊥
IsBetween (Bad place) entries now = ⊥

-- A journal opens to at least those entries that were kept.
pub record OpensFrom (kept : List (Entry Answer)) (now : Opening (List (Entry Answer))) : Type 0 where
  pub entries : List (Entry Answer)
  pub end : ℕ
  pub opened : now ≡ Open entries end
  pub begins : IsPrefix kept entries

-- A journal lost nothing: it opens as it did, or with more entries.
abbrev pub LostNothing : Opening (List (Entry Answer)) → Opening (List (Entry Answer)) → Type 0
LostNothing Fresh now = (now ≡ Fresh) ⊎ OpensFrom [] now
LostNothing (Open kept end) now = OpensFrom kept now
LostNothing Other now = now ≡ Other
LostNothing (Bad place) now = now ≡ Bad place

-- A journal opens to these entries, or to one more.
abbrev pub OpensNear : List (Entry Answer) → Opening (List (Entry Answer)) → Type 0
OpensNear entries now = ((end : ℕ) × (now ≡ Open entries end)) ⊎ ((e : Entry Answer) × (end : ℕ) × (now ≡ Open (entries ++ e ∷ []) end))

-- At most one entry is in doubt: there are entries, with those that were kept first, and whichever image a crash leaves, it
-- opens to these or to one more.
pub record DoubtsOne (kept : List (Entry Answer)) (opening : List ℕ → Opening (List (Entry Answer))) (images : List ℕ → Type 0) : Type 0 where
  pub entries : List (Entry Answer)
  pub begins : IsPrefix kept entries
  pub near : (image : List ℕ) → images image → OpensNear entries (opening image)

-- What a crash may leave of a journal, by how it opened before: at most one entry is in doubt, or the journal is still what it
-- was; a new one may then have its tag.
abbrev pub IsCertain : Opening (List (Entry Answer)) → (List ℕ → Opening (List (Entry Answer))) → (List ℕ → Type 0) → Type 0
IsCertain Fresh opening images = DoubtsOne [] opening images ⊎ ((image : List ℕ) → images image → (opening image ≡ Fresh) ⊎ ((end : ℕ) × (opening image ≡ Open [] end)))
IsCertain (Open kept end) opening images = DoubtsOne kept opening images
IsCertain Other opening images = (image : List ℕ) → images image → opening image ≡ Other
IsCertain (Bad place) opening images = (image : List ℕ) → images image → opening image ≡ Bad place

module _ {D : Type 0} (told : D → Option (List ℕ)) where
  -- The entries that a journal kept when the run began, each of an author below a number; none where it was new.
  pub record HasKept (s : Setting) (authors : ℕ) (kept : List (Entry Answer)) (was : D) : Type 0 where
    pub had : (bytes : List ℕ) → told was ≡ Some bytes → Gives (opens_game s bytes) kept
    pub few : All (λ e. author_of e < authors) kept

  module _ (may_leave : D → List ℕ → Type 0) where
    -- All entries stand on a disk, which reads so, with no write pending.
    pub record StandsWhole (s : Setting) (entries : List (Entry Answer)) (disk : D) : Type 0 where
      pub bytes : List ℕ
      pub reads : told disk ≡ Some bytes
      pub end : ℕ
      pub opened : opens_game s bytes ≡ Open entries end
      pub only : Only bytes (may_leave disk)

    module _ (moment : D → ℕ) (left_since secured_since : D → ℕ → List ℕ → Type 0) where
      -- A game outlives any stop, where no write was pending when the run began. In the end its disk has all its entries; a
      -- crash at any moment of the run leaves a part of them, with all that were kept; and no sync put anything else there.
      pub record IsDurable (s : Setting) (entries : List (Entry Answer)) (was now : D) : Type 0 where
        pub stands : (bytes : List ℕ) → told was ≡ Some bytes → StandsWhole s entries now
        pub any_moment : (bytes : List ℕ) → told was ≡ Some bytes → Only bytes (may_leave was)
            → LeavesOnly moment left_since was now (λ image. IsBetween (opens_game s bytes) entries (opens_game s image))
        pub acknowledged : (bytes : List ℕ) → told was ≡ Some bytes → Only bytes (may_leave was)
            → SyncsOnly moment secured_since was now (λ image. IsBetween (opens_game s bytes) entries (opens_game s image))

    -- Whatever ends a run, where no write was pending when it began: a crash at any of its moments leaves a journal that lost
    -- nothing, and when it has ended at most one entry is in doubt.
    pub record LosesNothing (moment : D → ℕ) (left_since : D → ℕ → List ℕ → Type 0) (s : Setting) (was now : D) : Type 0 where
      pub any_moment : (bytes : List ℕ) → told was ≡ Some bytes → Only bytes (may_leave was)
          → LeavesOnly moment left_since was now (λ image. LostNothing (opens_game s bytes) (opens_game s image))
      pub at_end : (bytes : List ℕ) → told was ≡ Some bytes → Only bytes (may_leave was) → IsCertain (opens_game s bytes) (opens_game s) (may_leave now)
