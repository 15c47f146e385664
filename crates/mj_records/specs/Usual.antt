-- What the lines of draws and discards have between their type and their end.
use Rattle.std.specs.Prelude.{◌≡◌, ℕ, ◌+◌, ◌<◌, false, List, [], ◌∷◌, ◌++◌, codes, Some}
use Rattle.mj_bytes.specs.Parts.{BeginsWithLine}
use Rattle.mj_tiles.specs.Faces.{text_of}
use Rattle.mj_deeds.specs.declared.deed.Deed.{Deed}
use Rattle.mj_deeds.specs.declared.deed.Deed.TheVariants.{Draw, Discard}
use Rattle.mj_history.specs.Records.{IsLineOf}
use Rattle.mj_records.specs.Deeds.{deed_in}
use Rattle.mj_records.specs.declared.usual.Act.{Act}
use Rattle.mj_records.specs.declared.usual.Act.TheVariants as acts

-- The deed of an act that is read: of a draw its line doesn't say whether it is a replacement.
abbrev pub deed_of : Act → Deed
deed_of (acts.Draw seat tile) = Draw seat tile false
deed_of (acts.Discard seat tile drawn) = Discard seat tile drawn

-- The text begins with the line of an act, of which its deed is read, and the rest follows its newline.
pub record BeginsWithAct (text : List ℕ) (act : Act) (rest : List ℕ) : Type 0 where
  pub front : List ℕ
  pub begins : BeginsWithLine text front rest
  pub line_of : IsLineOf (front ++ 10 ∷ []) (deed_of act)
  pub read : deed_in (front ++ 10 ∷ []) ≡ Some (deed_of act)

-- The text begins with the digit of a seat and a tile, after which the end stands.
pub record IsActOf (text : List ℕ) (seat tile : ℕ) (end : List ℕ) : Type 0 where
  pub seat_few : seat < 4
  pub tile_few : tile < 37
  pub parts : text ≡ (48 + seat) ∷ (codes ",\"pai\":\"" ++ (text_of tile ++ 34 ∷ end))
