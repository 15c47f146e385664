-- The lines of a seat as they are kept: on pages, of which the newest takes more lines, with the place of each line.
use Rattle.std.specs.Prelude.{◌≡◌, ℕ, Bool, true, ◌+◌, ◌<◌, ◌≤◌, List, [], length, map, take, drop, slice_get, unwrap_or}
use Rattle.std.proofs.Common.{◌⊎◌}
use Rattle.std.specs.List.{All, AllPass}
use Rattle.mj_streams.specs.declared.pages.Place.{Place}

-- The text of a page by its number: one of the full pages, and after them the newest one.
abbrev pub page_at : List (List ℕ) → List ℕ → ℕ → List ℕ
page_at full newest number = unwrap_or (slice_get full number) newest

-- What stands at a place.
abbrev pub text_at : List (List ℕ) → List ℕ → Place → List ℕ
text_at full newest place = drop place.start (take place.end (page_at full newest place.page))

-- The lines.
abbrev pub lines_at : List (List ℕ) → List ℕ → List Place → List (List ℕ)
lines_at full newest places = map (text_at full newest) places

-- A place is on a page, and within its text.
pub record IsWithin (full : List (List ℕ)) (newest : List ℕ) (place : Place) : Type 0 where
  pub on : place.page ≤ length full
  pub order : place.start ≤ place.end
  pub within : place.end ≤ length (page_at full newest place.page)

-- The text is one of the lines: it passes each test that all lines pass.
abbrev pub IsLine : List (List ℕ) → List ℕ → Type 0
IsLine lines text = (test : List ℕ → Bool) → AllPass test lines → test text ≡ true

-- A page has at most 65,536 bytes, or it is one line.
abbrev pub IsPage : List (List ℕ) → List ℕ → Type 0
IsPage lines page = 65536 < length page → IsLine lines page

-- Each place is within its page, and each page is of the right size.
pub record IsKept (full : List (List ℕ)) (newest : List ℕ) (places : List Place) : Type 0 where
  pub within : All (IsWithin full newest) places
  pub sizes : All (IsPage (lines_at full newest places)) full
  pub size : IsPage (lines_at full newest places) newest

-- A line of so many bytes goes after the text of a page: the page is empty, or the two are no longer than a page.
abbrev pub Fits : List ℕ → ℕ → Type 0
Fits page len = (page ≡ []) ⊎ (length page + len ≤ 65536)
