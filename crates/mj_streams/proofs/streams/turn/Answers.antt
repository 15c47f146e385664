use Rattle.std.proofs.Common.{sym, ◌∙◌}
use Rattle.mj_streams.proofs.AlikeLaws.{alike_lines}
use Rattle.mj_streams.proofs.streams.turn.Goals as goal

pub returns-then-are_told_alike-clause-line : goal.returns-then-are_told_alike-clause-line
returns-then-are_told_alike-clause-line g c =
    c.requires ∙ alike_lines c.args.seat c.args.next c.args.deed.now (sym c.are_told_alike.ensures ∙ c.if-are_told_alike.true)
