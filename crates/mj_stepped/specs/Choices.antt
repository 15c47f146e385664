-- What a seat may do next.
use Rattle.std.specs.Prelude.{ℕ, Bool, true, false, List, [], ◌∷◌}
use Rattle.mj_deeds.specs.declared.answer.Answer.{Answer}
use Rattle.mj_deeds.specs.declared.answer.Answer.TheVariants.{Pass}
use Rattle.mj_rules.specs.Possible.{possible}
use Rattle.mj_history.specs.Legal.{Game}
use Rattle.mj_core.specs.Calls.{after_of}

-- The answers that a seat may give to the newest deed.
abbrev pub choices_of : Game → ℕ → List Answer
choices_of game seat = possible game.setting.rules (after_of game).deeds seat

-- A pass is all that is listed.
abbrev pub is_pass : Answer → Bool
is_pass (Pass actor) = true
is_pass other = false

abbrev pub is_pass_alone : List Answer → Bool
is_pass_alone (answer ∷ []) = is_pass answer
is_pass_alone other = false
