use Rattle.std.proofs.Common.{◌∙◌, ap₂, max, refl}
use Rattle.mj_suits.specs.Rows.{Holds, lane, taken}
use Rattle.mj_suits.proofs.Taken.{taken_again}
use Rattle.mj_suits.proofs.walk.begin.Goals as goal

pub returns : goal.returns
returns c =
    let runs : Holds c.more_set-runs.result.lanes (taken 2 0 (lane c.args.two.lanes)) =
    record { at = λ s p few one. c.more_set-runs.ensures.at s p few one ∙ taken_again _ _ 1 0 1 0 c.more_set.ensures s p few one } in
    record {
      none_is = record { at = λ s p few one. refl };
      one_is = c.more_set-run.ensures;
      two_is = record {
        at = λ s p few one. c.greater.ensures.at s p few one ∙ ap₂ max
            (c.more_set-runs.ensures.at s p few one ∙ taken_again _ _ 1 0 1 0 c.more_set.ensures s p few one)
            (c.more_pair.ensures.at s p few one);
      };
      three_is = record {
        at = λ s p few one. c.greater-2.ensures.at s p few one ∙ ap₂ max
            (c.more_set-2.ensures.at s p few one)
            (c.more_pair-2.ensures.at s p few one ∙ taken_again _ _ 0 1 1 0 c.more_set-run.ensures s p few one);
      };
      four_is = record {
        at = λ s p few one. c.greater-3.ensures.at s p few one ∙ ap₂ max
            (c.more_set-3.ensures.at s p few one ∙ taken_again _ _ 1 0 1 0 c.more_set-run.ensures s p few one)
            (c.more_pair-3.ensures.at s p few one ∙ taken_again _ _ 0 1 2 0 runs s p few one);
      };
    }
