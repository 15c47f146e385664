use Rattle.std.proofs.Common.{sym, ◌∙◌}
use Rattle.mj_refereeing.proofs.WallLaws.{no-walls}
use Rattle.mj_refereeing.proofs.BaseLaws.{founds-nothing}
use Rattle.mj_refereeing.proofs.base.founded_by.Goals as goal

pub returns-then-is_empty : goal.returns-then-is_empty
returns-then-is_empty c = λ input first others rules lines unread form w.
    founds-nothing c.args.base rules first others input lines form w c.end_after_header.result
    (no-walls c.args.base.walls.items _ (sym c.is_empty.ensures ∙ c.if-is_empty.true) c.args.base.walls.ok.0) unread c.end_after_header.ensures
