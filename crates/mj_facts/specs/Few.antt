-- Up to five tiles that are kept in order.
use Rattle.std.specs.Prelude.{◌≡◌, ◌==◌, ℕ, if◌then◌else◌, List, length, Option, None, slice_get}
use Rattle.mj_facts.specs.declared.few_tiles.FewTiles.{FewTiles}

-- The tile that is kept at a place, the first one at 0.
abbrev pub tile_at : FewTiles → ℕ → Option ℕ
tile_at few place =
    if place == 0 then few.first else (if place == 1 then few.second else (if place == 2 then few.third else (if place == 3 then few.fourth else (if place == 4 then few.fifth else None))))

-- What is kept lists these tiles.
pub record Lists (few : FewTiles) (tiles : List ℕ) : Type 0 where
  pub number : few.number ≡ length tiles
  pub at : (place : ℕ) → tile_at few place ≡ slice_get tiles place
