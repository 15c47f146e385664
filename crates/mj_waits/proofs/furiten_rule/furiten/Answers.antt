use Rattle.std.proofs.Common.{sym, ◌∙◌, ap, arith, below_more}
use Rattle.mj_waits.specs.Furiten.{is_missed, is_furiten}
use Rattle.mj_tiles.proofs.EachKind.{any_kind, no_kind}
use Rattle.mj_waits.proofs.furiten_rule.furiten.Goals as goal

pub loop-number-preserved : goal.loop-number-preserved
loop-number-preserved c =
    below_more _ _ c.loop-number.invariant (ap (is_missed c.args.facts.now) (sym c.at-kind.ensures) ∙ sym c.is_missed_kind.ensures ∙ c.if-is_missed_kind.false)

pub returns-then-is_missed_kind : goal.returns-then-is_missed_kind
unfolding is_furiten
returns-then-is_missed_kind c =
    sym (any_kind (is_missed c.args.facts.now) c.at-kind.result (omega (arith, c.loop-number-test.true, c.at-kind.ensures)) (sym c.is_missed_kind.ensures ∙ c.if-is_missed_kind.true))

pub returns : goal.returns
unfolding is_furiten
returns c =
    sym (no_kind (is_missed c.args.facts.now) (λ k within. c.loop-number.invariant k (omega (arith, within, c.loop-number-test.false))))
