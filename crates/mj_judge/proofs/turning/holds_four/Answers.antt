use Rattle.std.proofs.Common.{◌∙◌, arith}
use Rattle.std.proofs.lemmas.Bool.{ltb-false}
use Rattle.mj_rules.specs.View.{view_of}
use Rattle.mj_judge.proofs.Counted.{few_of_each}
use Rattle.mj_judge.proofs.turning.holds_four.Goals as goal

pub returns : goal.returns
unfolding view_of
returns c = λ none. few_of_each c.args.table.now.deeds c.args.seat c.numbers.result.now c.most.result (c.numbers.ensures.value ∙ c.holds.ensures.value) (ltb-false 3 c.most.result none)
    (λ place low. c.most.ensures place (omega (arith, low, c.numbers.ensures.size)))
