-- The laws over choices.
use Rattle.std.specs.Prelude.{ℕ, ◌≡◌, ◌<◌, true, List, []}
use Rattle.mj_deeds.specs.declared.answer.Answer.{Answer}
use Rattle.mj_deeds.specs.declared.deed.Deed.{Deed}
use Rattle.mj_wall.specs.declared.setting.Rules.{Rules}
use Rattle.mj_rules.specs.Default.{can_discard}
use Rattle.mj_deeds.specs.Fits.{all_fit}
use Rattle.mj_rules.specs.Played.{IsLawful}
use Rattle.mj_bot.specs.Choice.{IsChoice}

-- A choice is lawful in deeds each of which fits after those before it, as long as some discard right after the seat's own
-- reach or call breaks no rule.
abbrev pub ChoiceIsLawful : Type 0
ChoiceIsLawful =
    (rules : Rules) (deeds : List Deed) (seat : ℕ) (answer : Answer) → seat < 4 → all_fit rules.red [] deeds ≡ true →
    can_discard rules deeds seat ≡ true → IsChoice rules deeds seat answer → IsLawful rules deeds seat answer

-- There is one choice: two choices of a seat in the window on the same deeds are the same answer.
abbrev pub ChoiceIsOne : Type 0
ChoiceIsOne = (rules : Rules) (deeds : List Deed) (seat : ℕ) (answer other : Answer) → IsChoice rules deeds seat answer → IsChoice rules deeds seat other → answer ≡ other
