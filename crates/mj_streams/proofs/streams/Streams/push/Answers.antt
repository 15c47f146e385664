use Rattle.std.proofs.Common.{refl}
use Rattle.std.proofs.lemmas.Result.{err_from_is_err_and}
use Rattle.mj_streams.proofs.Fours.{four_is, one_more}
use Rattle.mj_streams.proofs.streams.Streams.push.Goals as goal

pub returns-in_err-prepare_line-clause-err : goal.returns-in_err-prepare_line-clause-err
returns-in_err-prepare_line-clause-err g c =
    let p = err_from_is_err_and c.from_residual.result c.from_residual.ensures.1 in
    rw (p.1, ← c.self.view_is) (four_is _ _ _ _ _ _ _ _ c.prepare_line.ensures.lines refl refl refl)

pub returns-in_err-prepare_next-clause-err : goal.returns-in_err-prepare_next-clause-err
returns-in_err-prepare_next-clause-err g c =
    let p = err_from_is_err_and c.from_residual-in_err-prepare_next.result c.from_residual-in_err-prepare_next.ensures.1 in
    rw (p.1, ← c.self.view_is) (four_is _ _ _ _ _ _ _ _ c.prepare_line.ensures.lines c.prepare_next.ensures.lines refl refl)

pub returns-in_err-prepare_next-2-clause-err : goal.returns-in_err-prepare_next-2-clause-err
returns-in_err-prepare_next-2-clause-err g c =
    let p = err_from_is_err_and c.from_residual-in_err-prepare_next-2.result c.from_residual-in_err-prepare_next-2.ensures.1 in
    rw (p.1, ← c.self.view_is) (four_is _ _ _ _ _ _ _ _ c.prepare_line.ensures.lines c.prepare_next.ensures.lines c.prepare_next-2.ensures.lines refl)

pub returns-in_err-prepare_next-3-clause-err : goal.returns-in_err-prepare_next-3-clause-err
returns-in_err-prepare_next-3-clause-err g c =
    let p = err_from_is_err_and c.from_residual-in_err-prepare_next-3.result c.from_residual-in_err-prepare_next-3.ensures.1 in
    rw (p.1, ← c.self.view_is)
    (four_is _ _ _ _ _ _ _ _ c.prepare_line.ensures.lines c.prepare_next.ensures.lines c.prepare_next-2.ensures.lines c.prepare_next-3.ensures.lines)

pub returns-clause-ok : goal.returns-clause-ok
returns-clause-ok g c =
    rw (← c.self.view_is)
    (four_is _ _ _ _ _ _ _ _
    (one_more _ _ _ _ _ c.prepare_line.ensures.lines c.add.ensures c.in_ok-prepare_line.ensures.text)
    (one_more _ _ _ _ _ c.prepare_next.ensures.lines c.add-2.ensures c.in_ok-prepare_next.ensures.text)
    (one_more _ _ _ _ _ c.prepare_next-2.ensures.lines c.add-3.ensures c.in_ok-prepare_next-2.ensures.text)
    (one_more _ _ _ _ _ c.prepare_next-3.ensures.lines c.add-4.ensures c.in_ok-prepare_next-3.ensures.text))
