use Rattle.std.proofs.Common.{map, flat_map, take, ◌∷◌}
use Rattle.mj_bytes.specs.Adds.{Adds}
use Rattle.mj_forms.specs.Lines.{row_text}
use Rattle.mjai_lines.proofs.winning.push_later_rows.Given as goal

abbrev pub invariant-loop-row : goal.invariant-loop-row
invariant-loop-row l =
    Adds l.fn.line.items l.line.items (flat_map (λ other. 44 ∷ other) (map row_text (take l.row-index l.rows)))
