use Rattle.std.proofs.Common.{arith}
use Rattle.mj_shanten.proofs.Special.{least_goal, special_melds}
use Rattle.mj_memory.proofs.Discarding.{special_least}
use Rattle.mj_memory.proofs.ways.least_missing.Goals as goal

pub returns-then-melds-gt0 : goal.returns-then-melds-gt0
returns-then-melds-gt0 c =
    least_goal c.args.counts.now c.args.room.now c.args.melds c.args.sets c.args.sets c.requires.few c.requires.room c.requires.size c.requires.room_size c.requires.sets
    (special_melds _ c.args.melds c.args.sets c.if-melds-gt0.true)

pub returns-in-Some : goal.returns-in-Some
returns-in-Some c =
    special_least c.args.counts.now c.args.room.now c.args.melds c.args.sets c.in-Some.number (omega arith) c.requires.room c.requires.size c.requires.room_size c.requires.sets
    (c.with_pairs.ensures c.in-Some.number c.in-Some.is)
