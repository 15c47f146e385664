-- The kinds so far are written.
use Rattle.std.proofs.Common.{take}
use Rattle.mj_bytes.specs.Adds.{Adds}
use Rattle.mj_hand.specs.Text.{kinds_text}
use Rattle.mj_hand.proofs.lines.push_kinds.Given as goal

abbrev pub invariant-loop-kind : goal.invariant-loop-kind
invariant-loop-kind l = Adds l.initial.text.items l.text.items (kinds_text (take l.kind-index l.kinds))
