-- What a stream holds, and when a line can be added to it without memory.
use Rattle.std.specs.Prelude.{ℕ, ◌+◌, ◌<◌, ◌≤◌, List, vec_len, vec_capacity}
use Rattle.mj_streams.specs.declared.pages.Stream.{Stream}
use Rattle.mj_streams.specs.Inner.Pages.{lines_at, Fits}

-- The lines that a stream holds.
abbrev pub told : Stream → List (List ℕ)
told stream = lines_at stream.full.items stream.page.items stream.places.items

-- A line of so many bytes can be added without memory.
pub record HasRoom (stream : Stream) (len : ℕ) : Type 0 where
  pub place : vec_len stream.places < vec_capacity stream.places
  pub bytes : vec_len stream.page + len ≤ vec_capacity stream.page
  pub fits : Fits stream.page.items len
