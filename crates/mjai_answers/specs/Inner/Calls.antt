-- The three calls of a discard, and the answer that each makes.
use Rattle.std.specs.Prelude.{ℕ, List, Option}
use Rattle.mj_deeds.specs.declared.answer.Pai.{Pai}
use Rattle.mj_deeds.specs.declared.answer.Answer.{Answer}
use Rattle.mj_forms.specs.AnswerForms.{chi_by, pon_by, open_kan_by}
use Rattle.mjai_answers.specs.declared.answer.CallKind.{CallKind}
use Rattle.mjai_answers.specs.declared.answer.CallKind.TheVariants.{Chi, Pon, OpenKan}

-- The answer of a call, by its actor, its target, the tile, and its own tiles.
abbrev pub answer_of_call : CallKind → ℕ → ℕ → Pai → List Pai → Option Answer
answer_of_call Chi = chi_by
answer_of_call Pon = pon_by
answer_of_call OpenKan = open_kan_by
