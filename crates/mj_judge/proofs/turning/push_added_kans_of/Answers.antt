use Rattle.std.proofs.Common.{List, ◌++◌, ap, ◌∙◌}
use Rattle.std.specs.Prelude.{filter}
use Rattle.mj_tiles.specs.declared.meld.Meld.{Meld}
use Rattle.mj_deeds.specs.Facts.{is_pon, tiles_gained, tiles_lost}
use Rattle.mj_deeds.specs.Hand.{hand}
use Rattle.mj_rules.specs.View.{view_of}
use Rattle.mj_tiles.specs.Faces.{number_in}
use Rattle.mj_rules.specs.Possible.{added_kans_of, triplets}
use Rattle.mj_judge.specs.Inner.Tried.{lawful_among}
use Rattle.mj_judge.proofs.Tried.{none_held, none_added, no_added_kans_of}
use Rattle.mj_judge.proofs.turning.push_added_kans_of.Goals as goal

pub returns-then-held_count-eq0 : goal.returns-then-held_count-eq0
unfolding view_of
returns-then-held_count-eq0 c =
    let none = none_held (number_in (tiles_gained (hand c.args.table.now.deeds) c.args.seat) c.args.tile)
    (number_in (tiles_lost (hand c.args.table.now.deeds) c.args.seat) c.args.tile) c.held_count.result c.held_count.ensures
    c.if-held_count-eq0.true in
    none_added c.args.table.now.rules c.args.table.now.deeds c.args.seat
    (added_kans_of c.args.seat c.args.tile (triplets (view_of c.args.table.now.deeds c.args.seat))) _ (no_added_kans_of c.args.table.now.rules
    c.args.table.now.deeds c.args.seat c.args.tile (triplets (view_of c.args.table.now.deeds c.args.seat)) none)

pub returns : goal.returns
unfolding view_of
returns c =
    c.in_ok-push_added_to.ensures
    ∙ ap (λ (ms : List Meld). c.args.items.now.items ++ lawful_among c.args.table.now.rules c.args.table.now.deeds c.args.seat
    (added_kans_of c.args.seat c.args.tile (filter (λ (m : Meld). is_pon m.form) ms))) (c.as_slice.ensures.value ∙ c.melds-melds.ensures)
