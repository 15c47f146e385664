-- Which lines are the header and a wall of a record; they stand here without their newline.
use Rattle.std.specs.Prelude.{◌≡◌, ℕ, Bool, true, List, [], ◌∷◌, ◌++◌}
use Rattle.mj_wall.specs.declared.setting.Rules.{Rules}
use Rattle.mj_wall.specs.Places.{is_wall}
use Rattle.mj_history.specs.Records.{are_rules}
use Rattle.mj_forms.specs.Headers.{header_line, wall_line}

-- The line is the header that says these rules.
pub record IsHeader (line : List ℕ) (rules : Rules) : Type 0 where
  pub fits : are_rules rules ≡ true
  pub is : header_line rules ≡ line ++ 10 ∷ []

abbrev pub IsNoHeader : List ℕ → Type 0
IsNoHeader line = (rules : Rules) → are_rules rules ≡ true → header_line rules ≡ line ++ 10 ∷ [] → ⊥

-- The line names the tiles of this wall.
pub record IsWallLine (red : Bool) (line wall : List ℕ) : Type 0 where
  pub whole : is_wall red wall ≡ true
  pub is : wall_line wall ≡ line ++ 10 ∷ []

abbrev pub IsNoWallLine : Bool → List ℕ → Type 0
IsNoWallLine red line = (tiles : List ℕ) → is_wall red tiles ≡ true → wall_line tiles ≡ line ++ 10 ∷ [] → ⊥
