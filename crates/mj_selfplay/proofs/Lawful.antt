-- The choices of the four seats are lawful in played deeds.
use Rattle.std.proofs.Common.{◌≡◌, ℕ, ◌<◌, ◌≤◌, true, List, length, arith}
use Rattle.std.specs.List.{list_all}
use Rattle.mj_deeds.specs.declared.four.Four.{Four}
use Rattle.mj_deeds.specs.declared.answer.Answer.{Answer}
use Rattle.mj_deeds.specs.declared.deed.Deed.{Deed}
use Rattle.mj_wall.specs.declared.setting.Rules.{Rules}
use Rattle.mj_wall.specs.Places.{is_wall}
use Rattle.mj_rules.specs.Outcome.{wall_of}
use Rattle.mj_rules.specs.Played.{IsLawful, AllLawful, IsPlayed}
use Rattle.mj_rules.proofs.Playing.{each_is_wall, played_deeds_fit}
use Rattle.mj_rules.proofs.Defaults.{some_discard_is_lawful}
use Rattle.mj_bot.specs.Choice.{IsChoice}
use Rattle.mj_bot.proofs.Promises.{choice_is_lawful}
use Rattle.mj_selfplay.specs.SelfGame.{AreChoices}

lawful : (rules : Rules) (walls : List (List ℕ)) (deeds : List Deed) (seat : ℕ) (answer : Answer) → 1 ≤ length walls →
    list_all (is_wall rules.red) walls ≡ true → IsPlayed rules walls deeds → seat < 4 →
    IsChoice rules deeds seat answer → IsLawful rules deeds seat answer
lawful rules walls deeds seat answer some whole played small choice =
    let sound : (number : ℕ) → is_wall rules.red (wall_of walls number) ≡ true = each_is_wall rules.red walls some whole in
    let fit = played_deeds_fit rules walls deeds sound played in
    choice_is_lawful rules deeds seat answer small fit (some_discard_is_lawful rules walls deeds seat small sound played) choice

-- All four are.
pub choices_lawful : (rules : Rules) (walls : List (List ℕ)) (deeds : List Deed) (given : Four Answer) → 1 ≤ length walls → list_all (is_wall rules.red) walls ≡ true → IsPlayed rules walls deeds →
    AreChoices rules deeds given → AllLawful rules deeds given
choices_lawful rules walls deeds given some whole played choices = record {
  first = lawful rules walls deeds 0 given.first some whole played (omega arith) choices.first;
  second = lawful rules walls deeds 1 given.second some whole played (omega arith) choices.second;
  third = lawful rules walls deeds 2 given.third some whole played (omega arith) choices.third;
  fourth = lawful rules walls deeds 3 given.fourth some whole played (omega arith) choices.fourth;
}
