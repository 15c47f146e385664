use Rattle.std.proofs.Common.{arith, inl, inr, ◌+◌, ◌*◌}
use Rattle.std.proofs.lemmas.Bool.{cases_lt}
use Rattle.mj_suits.proofs.choosing.most_tiles.Goals as goal

pub returns : goal.returns
returns c = record {
  too_many = λ many above few. elim (cases_lt (3 * c.args.plan.now.sets + 2 * c.args.plan.now.pairs) many) [
    | inl wanted ↦ inr wanted
    | inr rest ↦ inl (omega arith)
  ];
}
