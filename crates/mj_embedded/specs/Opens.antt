-- What puts a game on a table, and takes it off.
use Rattle.std.specs.Prelude.{ℕ, ◌≡◌, ◌+◌, ◌^◌, ◌==◌, ◌&&◌, ◌⊎◌, not, Bool, nat_lt, nat_le, if◌then◌else◌, List, [], ◌∷◌, length, codes, Option, Some, None, option_and_then, option_map}
use Rattle.mj_bytes.specs.Parts.{whole_lines, unfinished, fields, behind}
use Rattle.mj_wall.specs.declared.setting.Rules.{Rules}
use Rattle.mj_wall.specs.declared.setting.Setting.{Setting}
use Rattle.mj_wall.specs.Places.{is_wall}
use Rattle.mj_wall.specs.Shuffle.{shuffled_from}
use Rattle.mj_forms.specs.Headers.{rules_of, tiles_in}
use Rattle.mj_history.specs.Legal.{Game}
use Rattle.mj_embedded.specs.Answers.{done, in_play, no_game, no_memory, bad_setting}

-- The tiles of a wall line, which are a wall with red fives or without.
abbrev pub wall_if : Bool → List ℕ → Option (List ℕ)
wall_if red tiles = if is_wall red tiles then Some tiles else None

abbrev pub wall_in : Bool → List ℕ → Option (List ℕ)
wall_in red line = option_and_then (wall_if red) (option_and_then (λ text. tiles_in (fields text)) (behind (codes "wall ") line))

-- The walls of lines, where each line is one.
abbrev pub walls_in : Bool → List (List ℕ) → Option (List (List ℕ))
walls_in red [] = Some []
walls_in red (line ∷ lines) = option_and_then (λ wall. option_map (λ walls. wall ∷ walls) (walls_in red lines)) (wall_in red line)

-- 1 to 200 walls.
abbrev pub few_walls : Rules → List (List ℕ) → Option Setting
few_walls rules walls = if not (length walls == 0) && nat_le (length walls) 200 then Some (record { walls = walls; rules = rules }) else None

-- 1 to 200 walls of a text, whose lines all end.
abbrev pub counted : List (List ℕ) → Option (List (List ℕ))
counted walls = if not (length walls == 0) && nat_le (length walls) 200 then Some walls else None

abbrev pub some_walls : Bool → List ℕ → Option (List (List ℕ))
some_walls red text = if length (unfinished text) == 0 then option_and_then counted (walls_in red (whole_lines text)) else None

-- The setting that lines say: a header, and walls.
abbrev pub setting_in : List (List ℕ) → Option Setting
setting_in [] = None
setting_in (line ∷ lines) = option_and_then (λ rules. option_and_then (few_walls rules) (walls_in rules.red lines))
    (option_and_then (λ text. rules_of (fields text)) (behind (codes "game ") line))

-- The lines of a text, where all of them end.
abbrev pub lines_of : List ℕ → Option (List (List ℕ))
lines_of text = if length (unfinished text) == 0 then Some (whole_lines text) else None

-- The setting of a text.
abbrev pub setting_of : List ℕ → Option Setting
setting_of text = option_and_then setting_in (lines_of text)

-- A game before its first entry.
abbrev pub new_game : Setting → Game
new_game setting = record { setting = setting; entries = [] }

-- The setting of a seed of 32 bytes: 1 to 200 walls from the first on, under a limit of 1 to 3,600,000 milliseconds.
abbrev pub seeded : List ℕ → ℕ → ℕ → Rules → Option Setting
seeded seed first walls rules =
    if length seed == 32 && not (walls == 0) && nat_le walls 200 && nat_lt (first + 200) (2 ^ 64) && not (rules.limit == 0) && nat_le rules.limit 3600000
    then Some (record { walls = shuffled_from seed rules.red first walls; rules = rules }) else None

-- A game before its first entry is put on a table that has none.
abbrev pub PutsBy : Option Setting → Option Game → ℕ → Type 0
PutsBy None new answer = (answer ≡ bad_setting) × (new ≡ None)
PutsBy (Some setting) new answer = (answer ≡ done) × (new ≡ Some (new_game setting))

-- Want of memory, where it comes, leaves the table as it was.
abbrev pub Puts : Option Setting → Option Game → Option Game → ℕ → Type 0
Puts setting (Some game) new answer = (answer ≡ in_play) × (new ≡ Some game)
Puts setting None new answer = PutsBy setting new answer ⊎ ((answer ≡ no_memory) × (new ≡ None))

abbrev pub Opens : List ℕ → Option Game → Option Game → ℕ → Type 0
Opens text old new answer = Puts (setting_of text) old new answer

abbrev pub OpensSeed : List ℕ → ℕ → ℕ → Rules → Option Game → Option Game → ℕ → Type 0
OpensSeed seed first walls rules old new answer = Puts (seeded seed first walls rules) old new answer

-- The game is taken off.
abbrev pub Closes : Option Game → Option Game → ℕ → Type 0
Closes None new answer = (answer ≡ no_game) × (new ≡ None)
Closes (Some game) new answer = (answer ≡ done) × (new ≡ None)
