use Rattle.std.proofs.Common.{sym, ◌∙◌}
use Rattle.mj_bot.proofs.Offered.{drawn_win, discard_win, added_win}
use Rattle.mj_bot.proofs.choosing.win.Goals as goal

pub returns-in-Some : goal.returns-in-Some
returns-in-Some c =
    drawn_win c.args.table.now.deeds c.args.seat c.in-Some-Draw.field-0-0 c.in-Some-Draw.field-0-1 c.in-Some.tile c.in-Some-Draw.field-0-2 c.in-Some-Draw.field-0.now c.win_on.result
    c.in-Some-Draw.ensures c.in-Some-Draw.field-0-is (sym c.drawn.ensures ∙ c.in-Some.is) c.win_on.ensures

pub returns-in-Some-Discard : goal.returns-in-Some-Discard
returns-in-Some-Discard c = discard_win c.args.table.now.deeds c.args.seat _ _ _ c.in-Some-Discard.field-0.now c.win_on-in-Some-Discard.result
    c.in-Some-Discard.ensures c.in-Some-Discard.field-0-is c.win_on-in-Some-Discard.ensures

pub returns-in-Some-AddedKan : goal.returns-in-Some-AddedKan
returns-in-Some-AddedKan c = added_win c.args.table.now.deeds c.args.seat _ _ _ _ _ c.in-Some-AddedKan.field-0.now c.win_on-in-Some-AddedKan.result
    c.in-Some-AddedKan.ensures c.in-Some-AddedKan.field-0-is c.win_on-in-Some-AddedKan.ensures
