use Rattle.std.proofs.Common.{◌≡◌, ◌+◌, flat_map, take}
use Rattle.mj_bytes.specs.Adds.{Adds}
use Rattle.mj_deeds.specs.declared.deed.Viewer.TheVariants.{Record}
use Rattle.mj_forms.specs.Lines.{line}
use Rattle.mjai_lines.proofs.record.push_deeds.Given as goal

abbrev pub invariant-loop-deed : goal.invariant-loop-deed
invariant-loop-deed g l = Adds l.initial.text.items l.text.items (flat_map (line Record) (take l.deed-index l.deeds)) × (l.steps ≡ l.initial.steps + l.deed-index)
