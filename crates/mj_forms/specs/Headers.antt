-- The header and the walls of a game as lines, of an input and of a record alike.
use Rattle.std.specs.Prelude.{ℕ, ◌+◌, ◌&&◌, Bool, true, false, nat_le, if◌then◌else◌, List, [], ◌∷◌, ◌++◌, codes}
use Rattle.std.specs.Prelude.{bytes_eq, Option, Some, None, option_and_then, option_map, decimal, flat_map}
use Rattle.mj_bytes.specs.Numbers.{decimal_of}
use Rattle.mj_bytes.specs.Parts.{fields, behind}
use Rattle.mj_tiles.specs.Faces.{face_of, text_of}
use Rattle.mj_wall.specs.declared.setting.Rules.{Rules}

-- The limit of a window in milliseconds.
abbrev pub limit_of : ℕ → Option ℕ
limit_of limit = if nat_le 1 limit && nat_le limit 3600000 then Some limit else None

-- A switch is 0 or 1.
abbrev pub switch_of : List ℕ → Option Bool
switch_of text = if bytes_eq text (codes "0") then Some false else (if bytes_eq text (codes "1") then Some true else None)

-- The rules that the fields of a header say: `limit=` and a number, `draws=` and a switch, `red=` and a switch.
unfoldable pub rules_of : List (List ℕ) → Option Rules
rules_of (limit ∷ draws ∷ red ∷ []) =
    option_and_then (λ ms.
    option_and_then (λ d.
    option_map (λ r. record { limit = ms; draws = d; red = r })
    (option_and_then switch_of (behind (codes "red=") red)))
    (option_and_then switch_of (behind (codes "draws=") draws)))
    (option_and_then limit_of (option_and_then decimal_of (behind (codes "limit=") limit)))
rules_of fields = None

-- The tiles of texts, where each names one.
abbrev pub tiles_in : List (List ℕ) → Option (List ℕ)
tiles_in [] = Some []
tiles_in (text ∷ texts) = option_and_then (λ tile. option_map (λ tiles. tile ∷ tiles) (tiles_in texts)) (face_of text)

-- A switch is written 1 where it is on, else 0.
abbrev pub switch_text : Bool → List ℕ
switch_text true = codes "1"
switch_text false = codes "0"

-- The header says the rules.
unfoldable pub header_line : Rules → List ℕ
header_line rules =
    codes "game limit=" ++ decimal rules.limit ++ codes " draws=" ++ switch_text rules.draws ++ codes " red=" ++ switch_text rules.red ++ codes "\n"

-- A wall line names the tiles of a wall.
unfoldable pub wall_line : List ℕ → List ℕ
wall_line tiles = codes "wall" ++ flat_map (λ tile. 32 ∷ text_of tile) tiles ++ codes "\n"
