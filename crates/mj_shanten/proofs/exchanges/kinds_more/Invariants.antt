-- What was listed, and what is still to be, is the whole.
use Rattle.std.proofs.Common.{◌≡◌, ◌++◌, ◌-◌, get_or}
use Rattle.mj_shanten.specs.Exchanges.{kinds_over}
use Rattle.mj_shanten.proofs.Path.{row}
use Rattle.mj_shanten.proofs.exchanges.kinds_more.Given as goal

abbrev pub invariant-loop-number : goal.invariant-loop-number
invariant-loop-number l = l.kinds.items ++ row (λ k. get_or l.counts k 0 - get_or l.others k 0) l.number (34 - l.number) ≡ kinds_over l.counts l.others
