use Rattle.std.proofs.Common.{flat_map, replicate, ◌∷◌}
use Rattle.mj_bytes.specs.Adds.{Adds}
use Rattle.mj_forms.specs.Lines.{hidden_tile}
use Rattle.mj_observe.proofs.public.push_more_hidden.Given as goal

abbrev pub invariant-loop-copy : goal.invariant-loop-copy
invariant-loop-copy l =
    Adds l.fn.line.items l.line.items (flat_map (λ other. 44 ∷ other) (replicate l.copy hidden_tile))
