-- The kinds written so far.
use Rattle.mj_readings.specs.Complete.{orphan_number}
use Rattle.mj_shanten.proofs.Written.{Written}
use Rattle.mj_shanten.proofs.orphans.with_double.Given as goal

abbrev pub invariant-loop-kind : goal.invariant-loop-kind
invariant-loop-kind l = Written (orphan_number l.double) l.kind l.target
