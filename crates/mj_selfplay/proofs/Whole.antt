-- The deeds of a whole game are played.
use Rattle.std.proofs.Common.{◌≡◌, ℕ, ◌≤◌, true, List, [], ◌∷◌, ◌++◌, length, ap, sym, ◌∙◌, subst, append-nil, append_assoc}
use Rattle.std.specs.List.{list_all}
use Rattle.mj_deeds.specs.declared.deed.Deed.{Deed}
use Rattle.mj_wall.specs.declared.setting.Rules.{Rules}
use Rattle.mj_wall.specs.Places.{is_wall}
use Rattle.mj_rules.specs.Played.{is_game_start, IsPlayedBehind, IsPlayed}
use Rattle.mj_rules.proofs.Playing.{played_more}
use Rattle.mj_selfplay.specs.SelfGame.{IsChosenBehind, AllChosen}
use Rattle.mj_selfplay.specs.Laws.{WholeGamesArePlayed}
use Rattle.mj_selfplay.proofs.Lawful.{choices_lawful}
use Rattle.mj_selfplay.proofs.Played.{start_is_one}

behind_played : (rules : Rules) (walls : List (List ℕ)) (before : List Deed) (deed : Deed) → 1 ≤ length walls → list_all (is_wall rules.red) walls ≡
    true → IsPlayed rules walls before → IsChosenBehind rules walls before deed →
    IsPlayedBehind rules walls before deed
behind_played rules walls [] deed some whole played chosen = ap is_game_start chosen ∙ start_is_one
behind_played rules walls (first ∷ others) deed some whole played chosen =
    record { given = chosen.given; lawful = choices_lawful rules walls (first ∷ others) chosen.given some whole played chosen.choices; gives = chosen.gives }

all_played : (rules : Rules) (walls : List (List ℕ)) (before deeds : List Deed) → 1 ≤ length walls → list_all (is_wall rules.red) walls ≡ true →
    IsPlayed rules walls before → AllChosen rules walls before deeds → IsPlayed rules walls (before ++ deeds)
all_played rules walls before [] some whole played chosen = subst (IsPlayed rules walls) (sym (append-nil before)) played
all_played rules walls before (deed ∷ deeds) some whole played chosen =
    subst (IsPlayed rules walls) (append_assoc before (deed ∷ []) deeds)
    (all_played rules walls (before ++ deed ∷ []) deeds some whole (played_more rules walls before deed played (behind_played rules walls before deed some whole played chosen.0)) chosen.1)

pub whole_games_are_played : WholeGamesArePlayed
whole_games_are_played rules walls deeds some whole game = all_played rules walls [] deeds some whole tt game.chosen
