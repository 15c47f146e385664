use Rattle.std.proofs.Common.{ap, ◌∙◌}
use Rattle.mj_rules.specs.Draws.{is_draw_of}
use Rattle.mj_machine.proofs.Drawn.{drawn_in_hand}
use Rattle.mj_machine.proofs.draws.is_drawing.Goals as goal

pub returns-in-Some : goal.returns-in-Some
returns-in-Some c = c.is_draw_of.ensures ∙ ap (is_draw_of c.args.seat) c.in-Some.ensures ∙ drawn_in_hand c.requires.red c.args.table.now.deeds c.args.seat c.requires.fit

pub returns-in-None : goal.returns-in-None
returns-in-None c = ap (is_draw_of c.args.seat) c.in-None.ensures ∙ drawn_in_hand c.requires.red c.args.table.now.deeds c.args.seat c.requires.fit
