use Rattle.std.proofs.Common.{◌∙◌, ap, sym}
use Rattle.mj_deeds.specs.Fits.{is_face}
use Rattle.mj_wall.specs.declared.setting.Rules.{Rules}
use Rattle.mj_rules.specs.View.{view_of}
use Rattle.mj_bot.proofs.Lawful.{none_held, free_passes}
use Rattle.mj_bot.proofs.discards.is_lawful.Goals as goal

pub returns-then-held_count-eq0 : goal.returns-then-held_count-eq0
unfolding view_of
returns-then-held_count-eq0 c =
    none_held c.args.table.now.rules c.args.seat (view_of c.args.table.now.deeds c.args.seat) c.args.tile c.held_count.result
    c.held_count.ensures c.if-held_count-eq0.true

pub returns-then-is_face : goal.returns-then-is_face
unfolding view_of
returns-then-is_face c =
    free_passes c.args.table.now.rules c.args.seat (view_of c.args.table.now.deeds c.args.seat) c.args.tile c.held_count.result
    (c.requires.free c.if-free.true) (ap (λ (rules : Rules). is_face rules.red c.args.tile) (sym c.rules.ensures) ∙ sym c.if-is_face.ensures) c.held_count.ensures c.if-held_count-eq0.false
