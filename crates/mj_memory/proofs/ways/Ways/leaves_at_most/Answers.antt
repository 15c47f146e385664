use Rattle.std.proofs.Common.{◌-◌, ◌/◌, ap, arith}
use Rattle.mj_memory.proofs.Discarding.{less_misses, own_others, own_room, room_four, small}
use Rattle.mj_memory.proofs.ways.Ways.leaves_at_most.Goals as goal

pub misses_at_most-requires-clause-sets : goal.misses_at_most-requires-clause-sets
misses_at_most-requires-clause-sets c =
    less_misses c.self.inside.counts c.self.inside.room c.without-counts.result c.row_at-own.result.lanes c.args.others.lanes c.args.kind (c.number.result / 9) (4 - c.args.melds)
    c.missing_of_sets-sets.result c.self.invariant.size c.self.invariant.room_size
    (room_four c.self.inside.room c.args.melds (own_room c.args.self.now c.self.inside.counts c.self.inside.room c.args.melds c.self.view_is c.requires.room) c.self.invariant.room_size)
    c.self.invariant.within (small c.args.kind c.number.result c.number.ensures.value c.number.ensures.within) (ap (λ n. n / 9) c.number.ensures.value) c.without-counts.ensures (omega arith)
    c.row_at-own.ensures.best
    (own_others c.args.self.now c.self.inside.counts c.self.inside.room c.args.others.lanes (c.args.kind / 9) c.self.view_is c.requires.others) c.missing_of_sets-sets.ensures
