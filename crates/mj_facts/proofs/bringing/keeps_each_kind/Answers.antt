use Rattle.std.proofs.Common.{arith, ap, ◌∙◌, get_or}
use Rattle.mj_facts.proofs.Brought.{a_fifth_kind, no_fifth_kind}
use Rattle.mj_facts.proofs.bringing.keeps_each_kind.Goals as goal

pub returns-then-saturating_add-gt4 : goal.returns-then-saturating_add-gt4
returns-then-saturating_add-gt4 c =
    a_fifth_kind c.args.before.now c.args.deed.now c.loop-kind.kind c.from-number.result c.brought.result c.saturating_add.result c.loop-kind-test.true
    (c.from-number.ensures ∙ ap (λ place. get_or c.args.before.now place 0) c.from.ensures) c.brought.ensures c.saturating_add.ensures c.if-saturating_add-gt4.true

pub returns : goal.returns
returns c = no_fifth_kind c.args.before.now c.args.deed.now (λ k small. c.loop-kind.invariant k (omega (arith, small, c.loop-kind-test.false)))
