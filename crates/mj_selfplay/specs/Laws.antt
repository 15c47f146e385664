-- The laws over self-played games.
use Rattle.std.specs.Prelude.{ℕ, ◌≡◌, ◌≤◌, true, List, length}
use Rattle.std.specs.List.{list_all}
use Rattle.mj_deeds.specs.declared.deed.Deed.{Deed}
use Rattle.mj_wall.specs.declared.setting.Rules.{Rules}
use Rattle.mj_wall.specs.Places.{is_wall}
use Rattle.mj_rules.specs.Played.{IsPlayed}
use Rattle.mj_selfplay.specs.SelfGame.{IsWholeGame}

-- There is one whole game for some walls.
abbrev pub WholeGameIsOne : Type 0
WholeGameIsOne = (rules : Rules) (walls : List (List ℕ)) (deeds others : List Deed) → IsWholeGame rules walls deeds → IsWholeGame rules walls others → deeds ≡ others

-- The deeds of a whole game are played, where there are walls and all are whole.
abbrev pub WholeGamesArePlayed : Type 0
WholeGamesArePlayed =
    (rules : Rules) (walls : List (List ℕ)) (deeds : List Deed) → 1 ≤ length walls → list_all (is_wall rules.red) walls ≡ true → IsWholeGame rules walls deeds → IsPlayed rules walls deeds
