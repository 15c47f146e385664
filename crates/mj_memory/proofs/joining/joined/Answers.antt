use Rattle.mj_memory.proofs.Joins.{joined_holds}
use Rattle.mj_memory.proofs.joining.joined.Goals as goal

pub returns : goal.returns
returns c =
    joined_holds c.args.row.lanes c.args.other.lanes _ _ _ _ _ _ _ _ _ _ _ _ _ c.more_set-one.ensures c.more_set-two.ensures c.more_set-three.ensures c.more_set-four.ensures
    c.beside-first.ensures c.beside-second.ensures c.beside-third.ensures c.beside-fourth.ensures c.beside-fifth.ensures
    c.greater-few.ensures c.greater-many.ensures c.greater-most.ensures c.greater.ensures
