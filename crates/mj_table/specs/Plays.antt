-- What a table stands for.
use Rattle.std.specs.Prelude.{List}
use Rattle.mj_deeds.specs.declared.deed.Deed.{Deed}
use Rattle.mj_wall.specs.declared.setting.Rules.{Rules}

-- The rules of a game and its deeds so far, the oldest first.
pub record Play : Type 0 where
  pub rules : Rules
  pub deeds : List Deed
