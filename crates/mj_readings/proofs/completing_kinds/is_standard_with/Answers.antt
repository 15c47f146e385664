use Rattle.std.proofs.Common.{◌∙◌, ap, arith}
use Rattle.mj_readings.specs.Inner.OneMore.{has_company}
use Rattle.mj_readings.proofs.Company.{lonely_refuse}
use Rattle.mj_readings.proofs.completing_kinds.is_standard_with.Goals as goal

pub returns-then-not-has_company : goal.returns-then-not-has_company
returns-then-not-has_company c =
    lonely_refuse c.args.counts.now c.args.known.now.melds c.args.kind c.has_company.result c.numbers.ensures.size (omega arith)
    (c.has_company.ensures ∙ ap (λ ns. has_company ns c.args.kind) c.numbers.ensures.value) c.if-not-has_company.true
