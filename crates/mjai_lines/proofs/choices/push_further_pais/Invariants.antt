use Rattle.std.proofs.Common.{map, flat_map, take, ◌∷◌}
use Rattle.mj_bytes.specs.Adds.{Adds}
use Rattle.mj_forms.specs.Choices.{pai_text}
use Rattle.mjai_lines.proofs.choices.push_further_pais.Given as goal

abbrev pub invariant-loop-pai : goal.invariant-loop-pai
invariant-loop-pai l = Adds l.fn.line.items l.line.items (flat_map (λ other. 44 ∷ other) (map pai_text (take l.pai-index l.own)))
