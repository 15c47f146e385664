use Rattle.std.proofs.Common.{arith}
use Rattle.mj_memory.proofs.Completing.{excluded}
use Rattle.mj_memory.proofs.far.Far.excludes.Goals as goal

pub returns : goal.returns
returns c = λ among.
    excluded c.self.inside.counts c.self.inside.room c.args.held.now c.numbers.result.now c.numbers-numbers.result.now c.numbers-room.result.now
    c.args.melds c.self.inside.melds c.args.kind c.number-place.result c.self.invariant
    (omega arith) c.numbers-numbers.ensures.value c.numbers-numbers.ensures.size c.numbers.ensures.value c.numbers.ensures.size c.numbers-room.ensures.value
    c.numbers-room.ensures.within c.number-place.ensures.value c.number-place.ensures.within (omega arith) (c.are_among.ensures among)
