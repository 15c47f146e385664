use Rattle.std.proofs.Common.{List, ap, sym, ◌∙◌, subst}
use Rattle.mj_tiles.specs.declared.meld.Meld.{Meld}
use Rattle.mj_score.specs.declared.score.Extra.{Extra}
use Rattle.mj_deeds.specs.Hand.{hand}
use Rattle.mj_deeds.specs.Standings.{standing}
use Rattle.mj_facts.proofs.WinSteps.{melds_without}
use Rattle.mj_rules.specs.Wins.{rows_of_win}
use Rattle.mj_machine.specs.Inner.Steps.{AreFew}
use Rattle.mj_machine.proofs.Circumstances.{closed_is, score_is, extra_is}
use Rattle.mj_machine.proofs.winning.found.Goals as goal

pub worth_of_win-requires-clause-closed : goal.worth_of_win-requires-clause-closed
worth_of_win-requires-clause-closed c = closed_is (standing c.args.table.now.deeds) (hand c.args.table.now.deeds) c.args.seat c.args.case.now _
    c.requires.case (c.as_slice.ensures.value ∙ c.melds-melds.ensures)

pub worth_of_win-requires-clause-few : goal.worth_of_win-requires-clause-few
worth_of_win-requires-clause-few c =
    subst (λ (ms : List Meld). AreFew c.args.own.now c.args.tile ms) (melds_without (hand c.args.table.now.deeds) c.args.seat ∙ sym (c.as_slice.ensures.value ∙ c.melds-melds.ensures)) c.requires.few

pub returns-clause-score : goal.returns-clause-score
returns-clause-score c =
    score_is (standing c.args.table.now.deeds) (hand c.args.table.now.deeds) c.args.seat c.args.tile c.args.own.now c.args.unders.now c.args.case.now _ c.in_ok-score.score c.requires.case
    (c.as_slice.ensures.value ∙ c.melds-melds.ensures) c.in_ok-score.ensures.score

pub returns-clause-yaku : goal.returns-clause-yaku
returns-clause-yaku c =
    c.in_ok-score.ensures.yaku
    ∙ ap (λ (extra : Extra). rows_of_win c.in_ok-score.score c.args.case.now.closed extra)
    (extra_is (hand c.args.table.now.deeds) c.args.seat c.args.tile c.args.own.now c.args.unders.now _ (c.as_slice.ensures.value ∙ c.melds-melds.ensures))
