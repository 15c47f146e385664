use Rattle.std.proofs.Common.{length-set, ◌∙◌, subst, ◌<◌, sym}
use Rattle.mj_table.proofs.Sights.{none_taken, one_taken, all_hidden}
use Rattle.mj_table.proofs.seeing.hide.Goals as goal

pub loop-kind-init : goal.loop-kind-init
loop-kind-init c = (c.told-numbers, none_taken c.args.held.now c.args.numbers.now)

pub loop-kind-preserved : goal.loop-kind-preserved
loop-kind-preserved c = (
  length-set c.loop-kind.numbers c.loop-kind.kind c.saturating_sub.result ∙ c.loop-kind.invariant.0,
  one_taken c.args.held.now c.args.numbers.now c.loop-kind.numbers c.loop-kind.kind c.saturating_sub.result
      (subst (λ n. c.loop-kind.kind < n) (sym c.loop-kind.invariant.0) c.loop-kind-test.true) c.saturating_sub.ensures
      c.loop-kind.invariant.1,
)

pub returns : goal.returns
returns c = λ kind.
    all_hidden c.args.held.now c.args.numbers.now c.loop-kind.numbers c.take_off.new.numbers c.take_off-2.new.numbers c.take_off-3.new.numbers
    c.loop-kind.kind kind c.args.own c.if-own.false c.loop-kind-test.false
    c.loop-kind.auto.kind-end c.told-numbers c.take_off-3.array_long (c.loop-kind.invariant.1 kind) (c.take_off.ensures kind) (c.take_off-2.ensures kind) (c.take_off-3.ensures kind)
