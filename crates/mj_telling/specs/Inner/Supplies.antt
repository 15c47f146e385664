-- The walls of a game, wherever they come from.
use Rattle.std.specs.Prelude.{ℕ, List}
use Rattle.mj_telling.specs.declared.supply.Source.{Source}
use Rattle.mj_telling.specs.declared.supply.Source.TheVariants.{Given, Seeded}

abbrev pub all_walls : Source → List (List ℕ)
all_walls (Given walls) = walls
all_walls (Seeded walls) = walls
