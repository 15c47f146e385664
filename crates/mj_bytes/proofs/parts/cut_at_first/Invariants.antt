use Rattle.std.proofs.Common.{◌≡◌, take, false}
use Rattle.mj_bytes.specs.Parts.{has_byte}
use Rattle.mj_bytes.proofs.parts.cut_at_first.Given as goal

abbrev pub invariant-loop-at : goal.invariant-loop-at
invariant-loop-at l = has_byte l.byte (take l.at l.text) ≡ false
