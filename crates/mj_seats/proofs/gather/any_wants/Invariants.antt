use Rattle.std.proofs.Common.{take}
use Rattle.std.specs.Prelude.{All}
use Rattle.mj_handlers.specs.Handlers.{WantsMemory}
use Rattle.mj_seats.proofs.gather.any_wants.Given as goal

abbrev pub invariant-loop-end : goal.invariant-loop-end
invariant-loop-end g l = All (λ e. WantsMemory e → ⊥) (take l.end-index l.ends.items)
