use Rattle.std.proofs.Common.{◌<◌, ◌^◌}
use Rattle.mj_tiles.specs.Kinds.{has_kind}
use Rattle.mj_page.proofs.Bits.{Gathered}
use Rattle.mj_page.proofs.sets.bits_of.Given as goal

abbrev pub invariant-loop-number : goal.invariant-loop-number
invariant-loop-number l = record {
  gathered : Gathered l.bits (has_kind l.kinds) l.number;
  small : l.bits < 2 ^ 34;
}
