use Rattle.mj_yaku.proofs.SomeHan.{some_han, yakuman_of_orphans}
use Rattle.std.proofs.Common.{subst, sym, ◌≡◌, ◌≤◌, eqb, false, true}
use Rattle.mj_fu.specs.Fu.{is_orphans}
use Rattle.mj_yaku.specs.Rows.{no_rows}
use Rattle.mj_yaku.specs.Han.{han_of_rows, has_yakuman}
use Rattle.mj_yaku.proofs.table.yaku.Goals as goal

pub returns-clause-some_han : goal.returns-clause-some_han
returns-clause-some_han c =
    subst (λ set. eqb set no_rows ≡ false → 1 ≤ han_of_rows set c.args.case.now.closed) (sym c.rows_of.ensures)
    (some_han c.args.reading.now c.args.melds.now c.args.case.now)

pub returns-clause-orphans : goal.returns-clause-orphans
returns-clause-orphans c =
    subst (λ set. is_orphans c.args.reading.now ≡ true → c.args.case.now.closed ≡ true → has_yakuman set ≡ true) (sym c.rows_of.ensures)
    (yakuman_of_orphans c.args.reading.now c.args.melds.now c.args.case.now)
