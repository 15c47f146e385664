use Rattle.std.proofs.Common.{refl, sym, ◌∙◌}
use Rattle.mj_refereeing.proofs.AskLaws.{told_nothing}
use Rattle.mj_refereeing.proofs.WallLaws.{no-walls, nothing-no_wall}
use Rattle.mj_refereeing.proofs.intake.take_walled.Goals as goal

pub returns-then-is_empty : goal.returns-then-is_empty
returns-then-is_empty c =
    told_nothing c.args.question _ _ c.args.seat _ c.nothing_told.ensures
    (nothing-no_wall c.args.number _ c.args.rules _ _ _ (no-walls c.args.walls.items _ (sym c.is_empty.ensures ∙ c.if-is_empty.true) c.args.walls.ok.0) c.requires.line c.requires.other refl)
