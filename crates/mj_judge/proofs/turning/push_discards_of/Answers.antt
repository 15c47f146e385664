use Rattle.std.proofs.Common.{[], ◌∷◌, sym, ◌∙◌}
use Rattle.mj_deeds.specs.Facts.{tiles_gained, tiles_lost}
use Rattle.mj_deeds.specs.Hand.{hand}
use Rattle.mj_rules.specs.View.{view_of}
use Rattle.mj_tiles.specs.Faces.{number_in}
use Rattle.mj_rules.specs.Possible.{discards_of}
use Rattle.mj_judge.proofs.Tried.{none_held, none_added, no_discards_of, unmarked_alone}
use Rattle.mj_judge.proofs.turning.push_discards_of.Goals as goal

pub returns-then-held_count-eq0 : goal.returns-then-held_count-eq0
unfolding view_of
returns-then-held_count-eq0 c =
    let none = none_held (number_in (tiles_gained (hand c.args.table.now.deeds) c.args.seat) c.args.tile)
    (number_in (tiles_lost (hand c.args.table.now.deeds) c.args.seat) c.args.tile) c.held_count.result c.held_count.ensures
    c.if-held_count-eq0.true in
    none_added c.args.table.now.rules c.args.table.now.deeds c.args.seat (discards_of c.args.seat c.args.tile) _
    (no_discards_of c.args.table.now.rules c.args.table.now.deeds c.args.seat c.args.tile none)

pub returns-then-is_wrongly_marked : goal.returns-then-is_wrongly_marked
returns-then-is_wrongly_marked c =
    unmarked_alone c.args.table.now.rules c.args.table.now.deeds c.args.seat c.args.tile _ _ _ (sym c.is_wrongly_marked.ensures ∙ c.if-is_wrongly_marked.true)
    (λ i. c.discard.ensures i ∷ []) c.in_ok-push_lawful.ensures
