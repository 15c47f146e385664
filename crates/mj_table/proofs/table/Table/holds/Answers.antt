use Rattle.std.proofs.Common.{refl}
use Rattle.mj_deeds.specs.Hand.{hand}
use Rattle.mj_table.proofs.FacesHeld.{told, few_kinds, kinds_are}
use Rattle.mj_table.proofs.Spare.{few_held}
use Rattle.mj_table.proofs.table.Table.holds.Goals as goal

pub kinds_held-requires : goal.kinds_held-requires
kinds_held-requires c = few_kinds c.args.self.now.rules.red c.args.self.now.deeds c.args.seat c.at.result.now
    (told c.self.inside.rules c.self.inside.past.items c.args.self.now c.self.inside.held c.args.seat c.at.result.now c.requires c.self.invariant.fit
    c.self.invariant.concealed c.self.view_is c.at.ensures)

pub returns-clause-value : goal.returns-clause-value
returns-clause-value c = kinds_are c.args.self.now.rules.red c.args.self.now.deeds c.args.seat c.at.result.now c.kinds_held.result
    (told c.self.inside.rules c.self.inside.past.items c.args.self.now c.self.inside.held c.args.seat c.at.result.now c.requires c.self.invariant.fit
    c.self.invariant.concealed c.self.view_is c.at.ensures) c.kinds_held.ensures

pub returns-clause-spare : goal.returns-clause-spare
returns-clause-spare c =
    let kept = told c.self.inside.rules c.self.inside.past.items c.args.self.now c.self.inside.held c.args.seat c.at.result.now c.requires
    c.self.invariant.fit c.self.invariant.concealed c.self.view_is c.at.ensures in
    few_held c.args.self.now.rules.red c.args.self.now.deeds (hand c.args.self.now.deeds) c.args.seat c.kinds_held.result refl kept.0
    (kinds_are c.args.self.now.rules.red c.args.self.now.deeds c.args.seat c.at.result.now c.kinds_held.result kept c.kinds_held.ensures) c.requires
