use Rattle.std.proofs.Common.{◌∙◌, ap, get_or, arith}
use Rattle.mj_table.proofs.FacesHeld.{told, held_is}
use Rattle.mj_table.proofs.table.Table.held_count.Goals as goal

pub returns : goal.returns
returns c =
    let kept = told c.self.inside.rules c.self.inside.past.items c.args.self.now c.self.inside.held c.args.seat c.at.result.now c.requires
    c.self.invariant.fit c.self.invariant.concealed c.self.view_is c.at.ensures in
    held_is c.args.self.now.rules.red c.args.self.now.deeds c.args.seat c.args.tile c.from.result c.at.result.now kept.0 kept.1 (omega (arith, c.face.ensures.value, c.face.ensures.within))
    (c.from.ensures ∙ ap (λ face. get_or c.at.result.now face 0) c.face.ensures.value)
