use Rattle.std.proofs.Common.{ℕ, List, IsTrue, sym, ap, subst, ◌∙◌}
use Rattle.std.specs.Prelude.{option_map}
use Rattle.std.specs.List.{list_all}
use Rattle.mj_wall.specs.Places.{is_wall}
use Rattle.mj_embedded.proofs.WallLines.{whole_walls}
use Rattle.mj_embedded.proofs.opening.game_of.Goals as goal

pub new-requires-clause-whole : goal.new-requires-clause-whole
new-requires-clause-whole c =
    subst (λ (ws : List (List ℕ)). IsTrue (list_all (is_wall c.in-Some-header_of.rules.red) ws)) (sym c.from_vec.ensures)
    (whole_walls c.in-Some-header_of.rules.red c.in-Some.rest.now c.in-Some-2.walls.items (sym (ap (option_map (λ w. w.items)) c.in-Some-2.is) ∙ c.in_ok-walls.ensures))
