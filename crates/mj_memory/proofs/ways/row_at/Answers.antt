use Rattle.std.proofs.Common.{ℕ, ◌≤◌, List, get_or, sym, subst}
use Rattle.std.specs.Prelude.{EachIndex}
use Rattle.mj_memory.proofs.Hands.{nine_four}
use Rattle.mj_memory.proofs.Discarding.{place_best}
use Rattle.mj_memory.proofs.ways.row_at.Goals as goal

pub row-requires : goal.row-requires
row-requires c =
    subst (λ (xs : List ℕ). EachIndex xs (λ n. get_or xs n 0 ≤ 4)) (sym c.nine_of-room.ensures.nine)
    (nine_four c.args.room.now c.args.suit c.nine_of-room.ensures.size c.requires.suit c.nine_of-room.ensures.few)

pub returns-clause-best : goal.returns-clause-best
returns-clause-best c =
    place_best c.args.counts.now c.args.room.now c.nine_of-nine.result c.nine_of-room.result c.args.suit c.row.result.lanes c.nine_of-nine.ensures.nine c.nine_of-room.ensures.nine c.row.ensures
