-- The points so far are written.
use Rattle.std.proofs.Common.{take}
use Rattle.mj_bytes.specs.Adds.{Adds}
use Rattle.mj_runs.specs.Results.{amounts_text}
use Rattle.mj_runs.proofs.result.push_amounts.Given as goal

abbrev pub invariant-loop-amount : goal.invariant-loop-amount
invariant-loop-amount l = Adds l.initial.text.items l.text.items (amounts_text (take l.amount-index l.amounts))
