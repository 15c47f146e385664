-- One read from a link after what is held.
use Rattle.std.specs.Prelude.{◌≡◌, ℕ, List, ◌++◌, Option}
use Rattle.mj_links.specs.declared.source.Got.{Got}
use Rattle.mj_links.specs.Sources.{Reads, got_bytes}

-- the bytes of the read stand after what was held
pub record Fills (got : Got) (old_left new_left : Option (List ℕ)) (also : List ℕ → Type 0) (old_held new_held : List ℕ) : Type 0 where
  pub into : List ℕ
  pub reads : Reads got old_left new_left into
  pub others : also into
  pub added : new_held ≡ old_held ++ got_bytes got into
