-- What holds of an umpire at any time.
use Rattle.std.specs.Prelude.{◌≡◌, ◌≤◌, List, length}
use Rattle.mj_ports.specs.declared.entry.Entry.{Entry}
use Rattle.mj_deeds.specs.declared.answer.Answer.{Answer}
use Rattle.mj_wall.specs.declared.setting.Setting.{Setting}
use Rattle.mj_history.specs.After.{after}
use Rattle.mj_history.specs.Legal.{IsLegal}
use Rattle.mj_umpire.specs.Inner.Untold.{untold}
use Rattle.mj_umpire.specs.Inner.States.{Position, now_of}

-- The game is legal and has a wall, and the state is what its entries come to under its rules.
pub record IsKept (setting : Setting) (entries : List (Entry Answer)) (state : Position) : Type 0 where
  pub legal : IsLegal setting entries
  pub some : 1 ≤ length setting.walls
  pub rules : state.rules ≡ setting.rules
  pub same : untold (now_of state) ≡ untold (after setting entries)
