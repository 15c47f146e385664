use Rattle.std.proofs.Common.{◌∙◌, ap, nat_eq}
use Rattle.mj_readings.specs.Inner.Sums.{singles}
use Rattle.mj_readings.specs.Tests.{one_more}
use Rattle.mj_readings.proofs.OneMore.{sums_refuse}
use Rattle.mj_readings.proofs.completing_kinds.are_sets_with.Goals as goal

pub returns-then-not-takes : goal.returns-then-not-takes
returns-then-not-takes c =
    sums_refuse c.args.counts.now c.args.known.now.melds c.args.kind c.takes.result c.numbers.ensures.size
    (c.takes.ensures ∙ ap (λ ns. nat_eq (singles (one_more ns c.args.kind)) 0) c.numbers.ensures.value) c.if-not-takes.true
