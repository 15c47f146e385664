use Rattle.std.proofs.Common.{arith, ◌∙◌, sym}
use Rattle.mj_readings.proofs.SumLaws.{takes_none, takes_one, takes_two}
use Rattle.mj_readings.proofs.sums.Over.takes.Goals as goal

pub returns-then-over-eq0 : goal.returns-then-over-eq0
returns-then-over-eq0 c = takes_none c.args.numbers.now c.args.kind c.requires.size (omega arith) (sym c.beside-over.ensures ∙ c.if-over-eq0.true)

pub returns-then-over-eq1 : goal.returns-then-over-eq1
returns-then-over-eq1 c =
    takes_one c.args.numbers.now c.args.kind c.args.self.now.singles c.requires.size (omega arith) c.requires.hand.all (sym c.beside-over.ensures ∙ c.if-over-eq1.true)

pub returns : goal.returns
returns c =
    takes_two c.args.numbers.now c.args.kind c.args.self.now.singles c.requires.size (omega arith) c.requires.hand.all
    (λ e. c.if-over-eq0.false (c.beside-over.ensures ∙ e)) (λ e. c.if-over-eq1.false (c.beside-over.ensures ∙ e))
