use Rattle.std.proofs.Common.{arith, refl, ◌∙◌}
use Rattle.mj_history.specs.After.{slots_after}
use Rattle.mj_umpire.specs.Inner.States.{desk_after}
use Rattle.mj_umpire.specs.Inner.Verdicts.{verdict_given}
use Rattle.mj_umpire.proofs.Pieces.{position, present-at-desk}
use Rattle.mj_umpire.proofs.Turns.{reads-due, finds, hear-due, hear-refused, hear-settles, hear-hears}
use Rattle.mj_umpire.proofs.state.State.hear.Goals as goal

pub verdict-verdict-requires-clause-due : goal.verdict-verdict-requires-clause-due
verdict-verdict-requires-clause-due g c =
    let old = position (g.T.Telling.play c.self.inside.told).rules c.self.inside.deeds.items c.self.inside.desk c.self.inside.chairs.items c.self.inside.window in
    hear-due c.args.setting.now old c.args.seat c.from.result c.len.result c.args.answer.now c.index.result.now (rw (← c.self.view_is) at c.requires)
    (reads-due old c.args.seat _ _ c.self.invariant.seated (rw (← c.self.view_is) at c.requires.due) c.from.ensures c.index.ensures)
    (c.len.ensures ∙ c.self.inside.deeds.ok.0)

pub go_on-requires-clause-due : goal.go_on-requires-clause-due
go_on-requires-clause-due g c =
    let old = position (g.T.Telling.play c.self.inside.told).rules c.self.inside.deeds.items c.self.inside.desk c.self.inside.chairs.items c.self.inside.window in
    let less = hear-due c.args.setting.now old c.args.seat c.from.result c.len.result c.args.answer.now c.index.result.now (rw (← c.self.view_is) at c.requires)
    (reads-due old c.args.seat _ _ c.self.invariant.seated (rw (← c.self.view_is) at c.requires.due) c.from.ensures c.index.ensures)
    (c.len.ensures ∙ c.self.inside.deeds.ok.0) in
    omega (arith, less, c.len.type_inv)

pub go_on-requires-clause-refused : goal.go_on-requires-clause-refused
go_on-requires-clause-refused g c =
    let old = position (g.T.Telling.play c.self.inside.told).rules c.self.inside.deeds.items c.self.inside.desk c.self.inside.chairs.items c.self.inside.window in
    hear-refused c.args.setting.now old c.args.seat c.from.result c.args.answer.now c.index.result.now (rw (← c.self.view_is) at c.requires)
    (reads-due old c.args.seat _ _ c.self.invariant.seated (rw (← c.self.view_is) at c.requires.due) c.from.ensures c.index.ensures)

pub settle_heard-requires-clause-empty : goal.settle_heard-requires-clause-empty
settle_heard-requires-clause-empty g c κs within = c.requires.order.empty c.args.seat c.requires.due

pub settle_heard-requires-clause-present : goal.settle_heard-requires-clause-present
settle_heard-requires-clause-present g c κs within =
    let old = position (g.T.Telling.play c.self.inside.told).rules c.self.inside.deeds.items c.self.inside.desk c.self.inside.chairs.items c.self.inside.window in
    rw (← c.self.view_is) (present-at-desk old c.args.seat c.self.invariant.seated (rw (← c.self.view_is) at c.requires.present))

pub settle_heard-requires-clause-can : goal.settle_heard-requires-clause-can
settle_heard-requires-clause-can g c κs within =
    let old = position (g.T.Telling.play c.self.inside.told).rules c.self.inside.deeds.items c.self.inside.desk c.self.inside.chairs.items c.self.inside.window in
    rw (← c.self.view_is)
    (hear-settles c.args.setting.now old (g.T.Telling.play c.self.inside.told).deeds c.args.seat c.from.result c.len.result
    c.args.answer.now c.index.result.now c.go_on.new.self (verdict_given c.verdict-verdict.result)
    (desk_after (verdict_given c.verdict-verdict.result) c.self.inside.desk c.args.seat)
    (slots_after (verdict_given c.verdict-verdict.result) c.self.inside.window c.args.seat c.args.answer.now)
    (finds _ old _ _ _ _ _ _ _ _ _ _ (rw (← c.self.view_is) at c.requires) c.self.invariant.same
    (reads-due old c.args.seat _ _ c.self.invariant.seated (rw (← c.self.view_is) at c.requires.due) c.from.ensures c.index.ensures)
    (c.len.ensures ∙ c.self.inside.deeds.ok.0) (rw c.table.ensures at c.verdict-verdict.ensures) c.go_on.ensures refl refl))

pub returns-clause-ok : goal.returns-clause-ok
returns-clause-ok g c =
    let old = position (g.T.Telling.play c.self.inside.told).rules c.self.inside.deeds.items c.self.inside.desk c.self.inside.chairs.items c.self.inside.window in
    rw (← c.self.view_is)
    (hear-hears c.args.setting.now old c.settle_heard.new.self (g.T.Telling.play c.self.inside.told).deeds c.args.seat c.from.result c.len.result
    c.args.answer.now c.index.result.now c.go_on.new.self (verdict_given c.verdict-verdict.result)
    (desk_after (verdict_given c.verdict-verdict.result) c.self.inside.desk c.args.seat)
    (slots_after (verdict_given c.verdict-verdict.result) c.self.inside.window c.args.seat c.args.answer.now)
    (finds _ old _ _ _ _ _ _ _ _ _ _ (rw (← c.self.view_is) at c.requires) c.self.invariant.same
    (reads-due old c.args.seat _ _ c.self.invariant.seated (rw (← c.self.view_is) at c.requires.due) c.from.ensures c.index.ensures)
    (c.len.ensures ∙ c.self.inside.deeds.ok.0) (rw c.table.ensures at c.verdict-verdict.ensures) c.go_on.ensures refl refl)
    (rw (← c.self.view_is) at c.in_ok-settle_heard.ensures.ok))
