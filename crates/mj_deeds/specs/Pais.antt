-- Tiles as lines name them.
use Rattle.std.specs.Prelude.{ℕ, List, [], ◌∷◌}
use Rattle.mj_deeds.specs.declared.answer.Pai.{Pai}
use Rattle.mj_deeds.specs.declared.answer.Pai.TheVariants.{Known, Hidden}

-- The face of a tile that is known.
abbrev pub face_in : Pai → List ℕ
face_in Hidden = []
face_in (Known tile) = tile ∷ []
