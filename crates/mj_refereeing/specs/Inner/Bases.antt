-- How what founds a kept game is read.
use Rattle.std.specs.Prelude.{◌≡◌, ◌⊎◌, ℕ, ◌+◌, false, List, [], ◌∷◌, ◌++◌, length}
use Rattle.mj_bytes.specs.Parts.{whole_lines, unfinished}
use Rattle.mj_wall.specs.declared.setting.Rules.{Rules}
use Rattle.mj_history.specs.Arrivals.{Bad, form_of, arrives, intake_from, Ending, Whole, BadAt}
use Rattle.mj_refereeing.specs.declared.base.Base.{Base as Read}
use Rattle.mj_refereeing.specs.Keep.{base_from, intake_with_walls, is_wall_form}
use Rattle.mj_refereeing.specs.Bases.{IsFit, base_meant}

-- Lines begin with none that is a wall in its place.
abbrev pub StopsAt : Rules → List (List ℕ) → List (List ℕ) → Type 0
StopsAt rules walls [] = Unit {0}
StopsAt rules walls (text ∷ texts) = (is_wall_form (form_of text) ≡ false) ⊎ (arrives (intake_with_walls rules walls) text ≡ Bad)

-- The walls after a header line, up to the first other line.
pub record IsWalled (g : Read) (rules : Rules) (first others : List ℕ) : Type 0 where
  pub fit : IsFit g
  pub same_rules : g.rules ≡ rules
  pub is : base_from rules [] (first ++ 10 ∷ []) 2 (whole_lines others) ≡ base_meant g
  pub unread : unfinished others ≡ unfinished g.rest.now
  pub heard : intake_from (intake_with_walls rules []) 2 (whole_lines others) (unfinished others) ≡ intake_from
      (intake_with_walls rules g.walls.items) g.number (whole_lines g.rest.now) (unfinished g.rest.now)
  pub number : g.number ≡ 2 + length g.walls.items
  pub stops : StopsAt rules g.walls.items (whole_lines g.rest.now)

-- How an input ends whose lines after the header begin with no wall.
abbrev pub end_without : List (List ℕ) → List ℕ → Ending
end_without [] [] = Whole
end_without [] (byte ∷ bytes) = BadAt 2
end_without (text ∷ texts) rest = BadAt 2
