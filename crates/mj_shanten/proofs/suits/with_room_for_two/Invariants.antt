-- The numbers written so far, and none of the others.
use Rattle.std.proofs.Common.{get_or}
use Rattle.mj_shanten.proofs.Written.{Written}
use Rattle.mj_shanten.proofs.suits.with_room_for_two.Given as goal

abbrev pub invariant-loop-kind : goal.invariant-loop-kind
invariant-loop-kind l = Written (λ k. get_or l.numbers k 0) l.kind l.wide
