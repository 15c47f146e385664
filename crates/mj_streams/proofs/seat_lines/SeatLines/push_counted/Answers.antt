use Rattle.std.proofs.lemmas.Result.{err_from_is_err_and}
use Rattle.mj_streams.proofs.Fours.{one_more}
use Rattle.mj_streams.proofs.seat_lines.SeatLines.push_counted.Goals as goal

pub returns-in_err-prepare_line-clause-err : goal.returns-in_err-prepare_line-clause-err
returns-in_err-prepare_line-clause-err g c =
    let p = err_from_is_err_and c.from_residual.result c.from_residual.ensures.1 in
    rw (p.1, ← c.self.view_is) c.prepare_line.ensures.lines

pub returns-clause-ok : goal.returns-clause-ok
returns-clause-ok g c = rw (← c.self.view_is) (one_more _ _ _ _ _ c.prepare_line.ensures.lines c.add.ensures c.in_ok-prepare_line.ensures.text)
