use Rattle.std.proofs.Common.{false, rules, ◌≡◌, sym, ap, subst, ◌∙◌}
use Rattle.mj_readings.specs.Inner.OneMore.{has_company}
use Rattle.mj_judge.specs.Inner.Alone.{LacksOrphan}
use Rattle.mj_judge.proofs.NoUse.{apart}
use Rattle.mj_judge.proofs.apart.is_apart.Goals as goal

pub returns-clause-apart : goal.returns-clause-apart
returns-clause-apart c = λ so melds.
    let alone : c.has_company.result ≡ false = search rules in
    apart c.args.counts.now melds c.args.kind c.numbers-numbers.ensures.size (search rules)
    (ap (λ ns. has_company ns c.args.kind) (sym c.numbers-numbers.ensures.value) ∙ sym c.has_company.ensures ∙ alone)
    (subst (λ ns. LacksOrphan ns c.args.kind) c.numbers-numbers.ensures.value (c.lacks_orphan.ensures so))
