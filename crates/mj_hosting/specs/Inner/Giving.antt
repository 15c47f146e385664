-- The giving back of links, one after the other.
use Rattle.std.specs.Prelude.{◌≡◌, List, ◌++◌, reverse, Option}
use Rattle.mj_hosting.specs.Plays.{AppendsLinks}

-- So many links were given back, from the last one on, and the rest of them is left.
pub record Giving {X : Type 0} (old now : Option (List X)) (all rest : List X) : Type 0 where
  pub taken : List X
  pub back : AppendsLinks old now taken
  pub left : reverse all ≡ taken ++ reverse rest
