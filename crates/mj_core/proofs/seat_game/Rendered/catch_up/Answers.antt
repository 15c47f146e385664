use Rattle.std.proofs.lemmas.Result.{on_ok_weaker}
use Rattle.mj_core.proofs.NearLaws.{whole-many, whole-none, whole-caught}
use Rattle.mj_core.proofs.seat_game.Rendered.catch_up.Goals as goal

pub returns-then-count-deeds-clause-ok : goal.returns-then-count-deeds-clause-ok
returns-then-count-deeds-clause-ok c = λ h. whole-many _ c.args.seat _ _ _ _ c.count.ensures c.deeds.ensures c.if-count-deeds.true (c.requires h)

pub returns-in_default-clause-ok : goal.returns-in_default-clause-ok
returns-in_default-clause-ok c = λ h. whole-none _ c.args.seat _ _ (rw c.table-table.ensures at c.in_default.ensures) (c.requires h)

pub returns-clause-ok : goal.returns-clause-ok
returns-clause-ok c =
    on_ok_weaker c.push.result
    (λ pushed h. whole-caught _ c.args.seat _ _ _ _ _ _ _ c.count.ensures c.deeds.ensures c.if-count-deeds.false (rw c.table-table.ensures at c.in-Some.ensures)
    (rw c.table-table.ensures at c.in_ok-possible_over.ensures.ok)
    pushed (c.requires h))
    c.push.ensures.ok
