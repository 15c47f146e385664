use Rattle.std.proofs.Common.{◌-◌, length}
use Rattle.mj_telling.specs.Inner.Firsts.{AreFirst}
use Rattle.mj_telling.proofs.shuffled.shuffle_more.Given as goal

abbrev pub invariant-loop-seed : goal.invariant-loop-seed
invariant-loop-seed l = AreFirst l.seed l.red l.fn.first l.fn.number l.there.items

abbrev pub decreases-loop-seed : goal.decreases-loop-seed
decreases-loop-seed l = l.needed - length l.there.items
