use Rattle.std.proofs.Common.{List, ℕ, subst}
use Rattle.std.specs.Prelude.{◌≡◌, IfOk}
use Rattle.mj_deeds.specs.Hand.{hand}
use Rattle.mj_table.proofs.FacesHeld.{told, tiles_are}
use Rattle.mj_table.proofs.table.Table.concealed.Goals as goal

pub returns : goal.returns
returns c =
    subst (λ (tiles : List ℕ). IfOk c.tiles_held.result (λ t. t ≡ tiles))
    (tiles_are (hand c.args.self.now.deeds) c.args.seat c.at.result.now
    (told c.self.inside.rules c.self.inside.past.items c.args.self.now c.self.inside.held c.args.seat c.at.result.now c.requires c.self.invariant.fit
    c.self.invariant.concealed c.self.view_is c.at.ensures).1)
    c.tiles_held.ensures
