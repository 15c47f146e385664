use Rattle.std.proofs.lemmas.Result.{on_ok_weaker}
use Rattle.mj_umpire.proofs.Pieces.{position, present-at-desk, present-within}
use Rattle.mj_umpire.proofs.Turns.{place-within, leave-settles, leave-steps}
use Rattle.mj_umpire.proofs.state.State.leave.Goals as goal

pub leave-requires : goal.leave-requires
leave-requires g c =
    let old = position (g.T.Telling.play c.self.inside.told).rules c.self.inside.deeds.items c.self.inside.desk c.self.inside.chairs.items c.self.inside.window in
    present-at-desk old c.args.seat c.self.invariant.seated (rw (← c.self.view_is) at c.requires.present)

pub index-requires : goal.index-requires
index-requires g c =
    let old = position (g.T.Telling.play c.self.inside.told).rules c.self.inside.deeds.items c.self.inside.desk c.self.inside.chairs.items c.self.inside.window in
    place-within c.from.result c.args.seat _ _ (present-within old c.args.seat c.self.invariant.seated
    (rw (← c.self.view_is) at c.requires.present)) c.from.ensures c.self.inside.chairs.ok.0

pub settle-requires-after_bounds : goal.settle-requires-after_bounds
settle-requires-after_bounds g c κs within =
    let old = position (g.T.Telling.play c.self.inside.told).rules c.self.inside.deeds.items c.self.inside.desk c.self.inside.chairs.items c.self.inside.window in
    rw (← c.self.view_is)
    (leave-settles c.args.setting.now old c.args.seat c.from.result c.index.result.now c.leave-2.new.self c.leave.new.self (rw (← c.self.view_is) at c.requires)
    (record {
      seated = c.self.invariant.seated;
      within = present-within old c.args.seat c.self.invariant.seated (rw (← c.self.view_is) at c.requires.present);
      place_is = c.from.ensures;
      read = c.index.ensures;
    })
    c.leave.ensures c.leave-2.ensures)

pub returns-clause-ok : goal.returns-clause-ok
returns-clause-ok g c =
    let old = position (g.T.Telling.play c.self.inside.told).rules c.self.inside.deeds.items c.self.inside.desk c.self.inside.chairs.items c.self.inside.window in
    rw (← c.self.view_is)
    (on_ok_weaker c.settle.result
    (leave-steps c.args.setting.now old c.settle.new.self c.args.seat c.from.result c.index.result.now c.leave-2.new.self c.leave.new.self
    (record {
      seated = c.self.invariant.seated;
      within = present-within old c.args.seat c.self.invariant.seated (rw (← c.self.view_is) at c.requires.present);
      place_is = c.from.ensures;
      read = c.index.ensures;
    })
    c.leave.ensures c.leave-2.ensures)
    (rw (← c.self.view_is) at c.settle.ensures.ok))
