use Rattle.mj_rules.specs.View.{view_of}
use Rattle.mj_bot.proofs.Lawful.{held_best}
use Rattle.mj_bot.proofs.discards.best_held.Goals as goal

pub best_discard_of-requires-clause-few : goal.best_discard_of-requires-clause-few
best_discard_of-requires-clause-few c = c.requires.hand.few

pub best_discard_of-requires-clause-room : goal.best_discard_of-requires-clause-room
best_discard_of-requires-clause-room c = c.requires.hand.is_room

pub best_discard_of-requires-clause-missing : goal.best_discard_of-requires-clause-missing
best_discard_of-requires-clause-missing c = c.requires.hand.least

pub best_discard_of-requires-clause-size : goal.best_discard_of-requires-clause-size
best_discard_of-requires-clause-size c = c.requires.hand.size

pub returns-in-Some : goal.returns-in-Some
returns-in-Some c = λ tile some.
    held_best c.args.table.now.rules c.args.seat c.every_kind.result c.in-Some.kind c.args.number c.args.missing
    (view_of c.args.table.now.deeds c.args.seat) c.args.suits.now.counts c.args.suits.now.room c.last_of.result tile
    c.requires.hand c.every_kind.ensures c.in-Some.ensures c.last_of.ensures some
