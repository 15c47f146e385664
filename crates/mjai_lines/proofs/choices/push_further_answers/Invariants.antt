use Rattle.std.proofs.Common.{map, flat_map, take, ◌∷◌}
use Rattle.mj_bytes.specs.Adds.{Adds}
use Rattle.mj_forms.specs.Choices.{answer_text}
use Rattle.mjai_lines.proofs.choices.push_further_answers.Given as goal

abbrev pub invariant-loop-answer : goal.invariant-loop-answer
invariant-loop-answer l = Adds l.fn.line.items l.line.items (flat_map (λ other. 44 ∷ other) (map answer_text (take l.answer-index l.answers)))
