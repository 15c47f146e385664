use Rattle.mj_memory.proofs.Discarding.{ways_are}
use Rattle.mj_memory.proofs.ways.Ways.new.Goals as goal

pub invariant_of-result : goal.invariant_of-result
invariant_of-result c =
    ways_are c.args.counts.now c.args.room.now _ _ _ _ c.joined-others.result.lanes _ c.row_at-characters.ensures.size c.row_at-characters.ensures.room_size c.row_at-characters.ensures.of_four
    c.requires c.row_at-characters.ensures.best c.row_at-circles.ensures.best c.row_at-bamboo.ensures.best c.row_at-honours.ensures.best c.joined-others.ensures c.joined-suited.ensures
