use Rattle.std.proofs.Common.{◌≡◌, sym, ◌∙◌}
use Rattle.mj_ports.specs.declared.picking.Picked.TheVariants as picked
use Rattle.mj_handlers.proofs.Receiving.{named_badly, without_room}
use Rattle.mj_handlers.proofs.lobby.pick.Goals as goal

pub returns-in-Ok-BadName : goal.returns-in-Ok-BadName
returns-in-Ok-BadName g c = λ x took told.
    let is : g.P.Picker.picks c.args.picker.now c.args.line.items ≡ picked.BadName = sym (rw c.as_slice.ensures.value at c.in-Ok-BadName.ensures) ∙ c.in-Ok-BadName.field-0-is in
    let refuses = rw c.as_slice-in-Ok-BadName.ensures.value at c.refuse.ensures in
    named_badly _ _ x _ _ _ is refuses took told

pub returns-in-Ok-NoRoom : goal.returns-in-Ok-NoRoom
returns-in-Ok-NoRoom g c = λ x took told.
    let is : g.P.Picker.picks c.args.picker.now c.args.line.items ≡ picked.NoRoom = sym (rw c.as_slice.ensures.value at c.in-Ok-NoRoom.ensures) ∙ c.in-Ok-NoRoom.field-0-is in
    let refuses = rw c.as_slice-in-Ok-NoRoom.ensures.value at c.refuse-in-Ok-NoRoom.ensures in
    without_room _ _ x _ _ _ is refuses took told
