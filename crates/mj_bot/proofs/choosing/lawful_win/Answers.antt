use Rattle.mj_rules.specs.View.{view_of}
use Rattle.mj_bot.proofs.Incomplete.{no_win}
use Rattle.mj_bot.proofs.choosing.lawful_win.Goals as goal

pub returns-then-incomplete : goal.returns-then-incomplete
returns-then-incomplete c =
    no_win c.args.table.now.rules c.args.seat (view_of c.args.table.now.deeds c.args.seat) (view_of c.args.table.now.deeds c.args.seat).turn (c.requires.incomplete c.if-incomplete.true)

pub returns-then-is_far : goal.returns-then-is_far
returns-then-is_far c =
    no_win c.args.table.now.rules c.args.seat (view_of c.args.table.now.deeds c.args.seat) (view_of c.args.table.now.deeds c.args.seat).turn (c.is_far.ensures c.if-is_far.true)
