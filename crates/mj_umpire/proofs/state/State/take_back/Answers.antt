use Rattle.std.proofs.lemmas.Result.{on_ok_weaker}
use Rattle.mj_umpire.proofs.Pieces.{position, held-within}
use Rattle.mj_umpire.proofs.Turns.{place-within, back-settles, back-steps}
use Rattle.mj_umpire.proofs.state.State.take_back.Goals as goal

pub index-requires : goal.index-requires
index-requires g c =
    let old = position (g.T.Telling.play c.self.inside.told).rules c.self.inside.deeds.items c.self.inside.desk c.self.inside.chairs.items c.self.inside.window in
    place-within c.from.result c.args.seat _ _ (held-within old c.args.seat c.self.invariant.seated
    (rw (← c.self.view_is) at c.requires.held)) c.from.ensures c.self.inside.chairs.ok.0

pub settle-requires-after_bounds : goal.settle-requires-after_bounds
settle-requires-after_bounds g c κs within =
    let old = position (g.T.Telling.play c.self.inside.told).rules c.self.inside.deeds.items c.self.inside.desk c.self.inside.chairs.items c.self.inside.window in
    rw (← c.self.view_is)
    (back-settles c.args.setting.now old c.args.author c.args.seat c.from.result c.due_on_return.result c.index.result.now
    c.come_back.new.self c.args.join.now c.sit.result c.sit.new.self (rw (← c.self.view_is) at c.requires)
    (record {
      seated = c.self.invariant.seated;
      within = held-within old c.args.seat c.self.invariant.seated (rw (← c.self.view_is) at c.requires.held);
      place_is = c.from.ensures;
      read = c.index.ensures;
    })
    c.sit.ensures.answer c.sit.ensures.desk c.come_back.ensures)

pub returns-clause-ok : goal.returns-clause-ok
returns-clause-ok g c =
    let old = position (g.T.Telling.play c.self.inside.told).rules c.self.inside.deeds.items c.self.inside.desk c.self.inside.chairs.items c.self.inside.window in
    rw (← c.self.view_is)
    (on_ok_weaker c.settle.result
    (back-steps c.args.setting.now old c.settle.new.self c.args.author c.args.seat c.from.result c.due_on_return.result
    c.index.result.now c.come_back.new.self c.args.join.now c.sit.result c.sit.new.self
    (rw (← c.self.view_is) at c.requires)
    (record {
      seated = c.self.invariant.seated;
      within = held-within old c.args.seat c.self.invariant.seated (rw (← c.self.view_is) at c.requires.held);
      place_is = c.from.ensures;
      read = c.index.ensures;
    })
    c.sit.ensures.answer c.sit.ensures.desk (rw (← c.self.view_is) at c.due_on_return.ensures) c.come_back.ensures)
    (rw (← c.self.view_is) at c.settle.ensures.ok))
