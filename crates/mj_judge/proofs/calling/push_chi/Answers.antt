use Rattle.std.proofs.Common.{◌≡◌, false, [], ◌∷◌, rules, sym, ◌∙◌}
use Rattle.mj_tiles.specs.Faces.{number_in}
use Rattle.mj_deeds.specs.declared.answer.Answer.TheVariants.{Chi}
use Rattle.mj_deeds.specs.declared.answer.Pai.TheVariants.{Known}
use Rattle.mj_deeds.specs.Facts.{tiles_gained, tiles_lost}
use Rattle.mj_deeds.specs.Hand.{hand}
use Rattle.mj_rules.specs.View.{view_of}
use Rattle.mj_judge.proofs.Tried.{none_held, none_added, no_chi, no_run}
use Rattle.mj_judge.proofs.calling.push_chi.Goals as goal

pub returns-then-held_count-eq0 : goal.returns-then-held_count-eq0
unfolding view_of
returns-then-held_count-eq0 c =
    let none = none_held (number_in (tiles_gained (hand c.args.table.now.deeds) c.args.seat) c.args.b)
    (number_in (tiles_lost (hand c.args.table.now.deeds) c.args.seat) c.args.b) c.held_count.result c.held_count.ensures c.if-held_count-eq0.true
    in
    none_added c.args.table.now.rules c.args.table.now.deeds c.args.seat (Chi c.args.seat c.args.who (Known c.args.tile) (Known c.args.a)
    (Known c.args.b) ∷ []) _ (no_chi c.args.table.now.rules c.args.table.now.deeds c.args.seat c.args.who c.args.tile c.args.a c.args.b none)

pub returns-then-not-chi_shape : goal.returns-then-not-chi_shape
returns-then-not-chi_shape c =
    let none : c.chi_shape.result ≡ false = search rules in
    none_added c.args.table.now.rules c.args.table.now.deeds c.args.seat (Chi c.args.seat c.args.who (Known c.args.tile) (Known c.args.a)
    (Known c.args.b) ∷ []) _ (no_run c.args.table.now.rules c.args.table.now.deeds c.args.seat c.args.who c.args.tile c.args.a c.args.b
    (sym c.chi_shape.ensures ∙ none))
