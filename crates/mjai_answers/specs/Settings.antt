-- Words of the readers of a header.
use Rattle.std.specs.Prelude.{◌≡◌, ℕ, ◌≤◌, List, [], ◌∷◌, Option, Some, None}
use Rattle.mj_bytes.specs.Parts.{BeginsWithField}
use Rattle.mj_tiles.specs.Faces.{face_of}
use Rattle.mj_wall.specs.declared.setting.Rules.{Rules}

-- Three fields, where there are three.
abbrev pub three_of : List (List ℕ) → Option (List ℕ × List ℕ × List ℕ)
three_of (first ∷ second ∷ third ∷ []) = Some (first, second, third)
three_of fields = None

-- The text begins with a field that names this tile or none, and the rest follows its space.
pub record BeginsWithTile (text : List ℕ) (tile : Option ℕ) (rest : List ℕ) : Type 0 where
  pub field : List ℕ
  pub begins : BeginsWithField text field rest
  pub named : tile ≡ face_of field

-- The limit of a window is 1 to 3600000 milliseconds.
pub record IsLimited (rules : Rules) : Type 0 where
  pub least : 1 ≤ rules.limit
  pub longest : rules.limit ≤ 3600000
