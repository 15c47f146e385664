use Rattle.std.proofs.Common.{arith}
use Rattle.mj_lists.proofs.Fronts.{zero_at}
use Rattle.mj_memory.proofs.Completing.{none_is_far}
use Rattle.mj_memory.proofs.far.Far.none.Goals as goal

pub from_numbers-none-requires : goal.from_numbers-none-requires
from_numbers-none-requires c = λ kind. (let e = zero_at 34 kind in omega arith)

pub invariant_of-result : goal.invariant_of-result
invariant_of-result c = none_is_far c.from_numbers-none.result c.from_numbers-none.ensures
