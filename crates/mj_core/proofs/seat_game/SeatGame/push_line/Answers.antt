use Rattle.std.proofs.Common.{◌≤◌, sym, arith}
use Rattle.std.proofs.lemmas.Result.{on_ok_weaker}
use Rattle.mj_umpire.specs.Calls.{after_of}
use Rattle.mj_core.proofs.KeptLines.{no_line}
use Rattle.mj_core.proofs.NearLaws.{near-line}
use Rattle.mj_umpire.proofs.Readers.{adds-same}
use Rattle.mj_core.proofs.seat_game.SeatGame.push_line.Goals as goal

pub returns-in-Some-clause-ok : goal.returns-in-Some-clause-ok
returns-in-Some-clause-ok c =
    let four = rw (← c.self.view_is) at c.requires in
    let small : c.self.inside.seat ≤ 3 = omega (arith, four) in
    rw (← c.self.view_is)
    (adds-same c.push_all.result _ _ _ _
    (sym (near-line c.self.inside.umpire.setting.rules c.self.inside.seat c.args.k (after_of c.self.inside.umpire).deeds c.self.inside.rendered.lines _ c.in-Some.ensures (c.self.invariant small)))
    c.push_all.ensures.ok)

pub returns-in-None-clause-ok : goal.returns-in-None-clause-ok
returns-in-None-clause-ok c = on_ok_weaker c.no_line.result (λ behind. no_line _ _ c.args.k _ _ behind) c.no_line.ensures
