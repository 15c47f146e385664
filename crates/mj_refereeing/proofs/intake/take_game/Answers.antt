use Rattle.std.proofs.Common.{rules, sym, subst}
use Rattle.mj_history.specs.Legal.{Game}
use Rattle.mj_refereeing.specs.Inner.Intake.{InPlay}
use Rattle.mj_refereeing.proofs.WallLaws.{unbegun, tells-walls}
use Rattle.mj_refereeing.proofs.intake.take_game.Goals as goal

pub take_lines-requires-clause-play : goal.take_lines-requires-clause-play
take_lines-requires-clause-play c = subst (λ (g : Game). InPlay c.args.core.now.seat g c.new-told.result.items) (sym (unbegun c.args.core.now.game c.requires.new)) (search rules)

pub returns : goal.returns
returns c = tells-walls c.args.question _ _ _ _ _ _ _ _ _ _ _ _ (unbegun c.args.core.now.game c.requires.new) c.requires.line c.requires.other c.in_ok-end.ensures.hears c.in_ok-bytes.ensures
