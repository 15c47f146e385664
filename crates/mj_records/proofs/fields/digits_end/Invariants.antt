use Rattle.std.proofs.Common.{◌≡◌, take, true}
use Rattle.mj_bytes.specs.Numbers.{all_digits}
use Rattle.mj_records.proofs.fields.digits_end.Given as goal

abbrev pub invariant-loop-at : goal.invariant-loop-at
invariant-loop-at l = all_digits (take l.at l.text) ≡ true
