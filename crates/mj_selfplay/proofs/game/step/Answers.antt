use Rattle.mj_selfplay.proofs.Lawful.{choices_lawful}
use Rattle.mj_selfplay.proofs.game.step.Goals as goal

pub next-requires-clause-lawful : goal.next-requires-clause-lawful
next-requires-clause-lawful c =
    choices_lawful c.args.table.now.rules c.args.walls.now c.args.table.now.deeds c.choices-answers.result c.requires.some c.requires.whole c.requires.played c.choices-answers.ensures
