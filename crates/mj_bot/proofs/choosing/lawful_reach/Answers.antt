use Rattle.std.proofs.Common.{sym, ◌∙◌}
use Rattle.mj_rules.specs.View.{view_of}
use Rattle.mj_bot.proofs.Unready.{no_reach, no_draw}
use Rattle.mj_bot.proofs.choosing.lawful_reach.Goals as goal

pub returns-then-unready : goal.returns-then-unready
returns-then-unready c = no_reach c.args.table.now.rules c.args.seat (view_of c.args.table.now.deeds c.args.seat) (c.requires.unready c.if-unready.true)

pub returns-then-not-has_drawn : goal.returns-then-not-has_drawn
returns-then-not-has_drawn c = no_draw c.args.table.now.rules c.args.seat (view_of c.args.table.now.deeds c.args.seat) (sym c.has_drawn.ensures ∙ c.if-not-has_drawn.true)
