use Rattle.std.proofs.Common.{[], ◌∷◌, sym, ap, ◌∙◌}
use Rattle.std.specs.Prelude.{option_to_list}
use Rattle.mj_judge.proofs.Wins.{drawn_alone, offered_alone}
use Rattle.mj_judge.proofs.winning.winning_kind.Goals as goal

pub returns-in-Some : goal.returns-in-Some
returns-in-Some c = drawn_alone c.args.table.now.deeds c.args.seat c.in-Some.tile c.kind.result (sym c.drawn.ensures ∙ c.in-Some.is) c.kind.ensures

pub returns-in-Some-offered : goal.returns-in-Some-offered
returns-in-Some-offered c =
    ap (λ k. k ∷ []) c.kind-in-Some-offered.ensures
    ∙ offered_alone c.args.table.now.deeds c.args.seat (c.in-Some-offered.tile ∷ []) (sym c.drawn.ensures ∙ c.in-None.is) (ap option_to_list (sym c.in-Some-offered.is) ∙ c.offered.ensures.in_turn)

pub returns-in-None-offered : goal.returns-in-None-offered
returns-in-None-offered c =
    offered_alone c.args.table.now.deeds c.args.seat [] (sym c.drawn.ensures ∙ c.in-None.is) (ap option_to_list (sym c.in-None-offered.is) ∙ c.offered.ensures.in_turn)
