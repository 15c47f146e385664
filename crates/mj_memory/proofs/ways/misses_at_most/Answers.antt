use Rattle.std.proofs.Common.{arith}
use Rattle.mj_shanten.proofs.Fewest.{sets_enough}
use Rattle.mj_memory.proofs.ways.misses_at_most.Goals as goal

pub returns-then-from-most : goal.returns-then-from-most
returns-then-from-most c =
    sets_enough c.args.counts.now c.args.room.now c.args.melds c.args.sets c.args.most c.requires.few c.requires.room c.requires.size c.requires.room_size c.requires.sets (omega arith)
