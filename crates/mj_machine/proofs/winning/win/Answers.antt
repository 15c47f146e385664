use Rattle.std.proofs.Common.{◌≡◌, List, ℕ, sym, ◌∙◌, subst}
use Rattle.std.specs.Prelude.{IfOk}
use Rattle.mj_deeds.specs.declared.deed.Deed.{Deed}
use Rattle.mj_deeds.specs.Course.{before_wins}
use Rattle.mj_deeds.specs.Facts.{seat_melds}
use Rattle.mj_deeds.specs.Hand.{hand}
use Rattle.mj_deeds.specs.Standings.{standing}
use Rattle.mj_machine.specs.Inner.Steps.{AreFew}
use Rattle.mj_machine.proofs.Circumstances.{drawn_is, own_is, win_is}
use Rattle.mj_machine.proofs.winning.win.Goals as goal

pub win_shown-requires-clause-others : goal.win_shown-requires-clause-others
win_shown-requires-clause-others c = λ h. c.requires.can.others
    (sym (drawn_is (standing c.args.table.now.deeds) (hand c.args.table.now.deeds) c.args.seat c.case_of-case.result c.case_of-case.ensures) ∙ h)

pub win_shown-requires-clause-few : goal.win_shown-requires-clause-few
win_shown-requires-clause-few c =
    subst (λ (xs : List ℕ). AreFew xs c.args.tile (seat_melds (before_wins (hand c.args.table.now.deeds)) c.args.seat))
    (sym (own_is (hand c.args.table.now.deeds) c.args.seat c.args.tile c.case_of-case.result.by_draw c.in_ok-own.own
    (drawn_is (standing c.args.table.now.deeds) (hand c.args.table.now.deeds) c.args.seat c.case_of-case.result c.case_of-case.ensures) c.in_ok-own.ensures)) c.requires.can.few

pub returns : goal.returns
returns c =
    subst (λ (d : Deed). IfOk c.win_shown.result (λ e. e ≡ d))
    (win_is c.args.wall.now c.args.table.now.deeds (hand c.args.table.now.deeds) c.args.seat c.args.target c.args.tile c.in_ok-own.own c.in_ok-unders.unders c.args.rest
    (own_is (hand c.args.table.now.deeds) c.args.seat c.args.tile c.case_of-case.result.by_draw c.in_ok-own.own
    (drawn_is (standing c.args.table.now.deeds) (hand c.args.table.now.deeds) c.args.seat c.case_of-case.result c.case_of-case.ensures) c.in_ok-own.ensures) c.in_ok-unders.ensures.value)
    c.win_shown.ensures
