-- By which plan games are played at tables, and what it is that one was played at its table.
use Rattle.std.specs.Prelude.{ℕ, List, Option, All}
use Rattle.mj_ports.specs.declared.entry.Entry.{Entry}
use Rattle.mj_ports.specs.declared.picking.Picked.{Picked}
use Rattle.mj_deeds.specs.declared.answer.Answer.{Answer}
use Rattle.mj_wall.specs.declared.setting.Setting.{Setting}
use Rattle.mj_history.specs.Legal.{Game}
use Rattle.mj_served.specs.Served.{IsServed, IsForTable}

-- How many tables and handlers there are, for which table a line is, the setting of the game of each table and the entries that it
-- begins with, at which port they are played, and what is written of the games.
pub record Plan : Type 0 where
  pub tables : ℕ
  pub handlers : ℕ
  pub picked : List ℕ → Picked
  pub setting : ℕ → Setting
  pub first : ℕ → List (Entry Answer)
  pub port : ℕ
  pub text : List Game → List ℕ

-- The game of a table, and the links of its connections with their places.
pub record TableGame (L : Type 0) : Type 0 where
  pub game : Game
  pub links : List (L × ℕ)

module _ {L : Type 0} (read left written : L → Option (List ℕ)) (read_faults write_faults : L → ℕ) where
  -- The game of a table was served, over links whose first lines are for the table.
  pub record PlaysAt (plan : Plan) (t : ℕ) (table : TableGame L) (old_readings new_readings : Option (List ℕ)) : Type 0 where
    pub served : IsServed read left written read_faults write_faults (plan.setting t) plan.handlers (plan.first t) table.game table.links old_readings new_readings
    pub rooms : All (λ l. IsForTable read left written read_faults write_faults plan.picked t l.0) table.links
