use Rattle.std.proofs.Common.{[], ◌∷◌}
use Rattle.mj_tiles.specs.Faces.{number_in}
use Rattle.mj_deeds.specs.declared.answer.Answer.TheVariants.{ClosedKan}
use Rattle.mj_deeds.specs.declared.answer.Pai.TheVariants.{Known}
use Rattle.mj_deeds.specs.Facts.{tiles_gained, tiles_lost}
use Rattle.mj_deeds.specs.Hand.{hand}
use Rattle.mj_rules.specs.View.{view_of}
use Rattle.mj_judge.proofs.Tried.{few_held, none_added, no_plain_kan}
use Rattle.mj_judge.proofs.turning.push_plain_kan.Goals as goal

pub returns-then-held_count-lt3 : goal.returns-then-held_count-lt3
unfolding view_of
returns-then-held_count-lt3 c =
    let few = few_held (number_in (tiles_gained (hand c.args.table.now.deeds) c.args.seat) c.args.plain)
    (number_in (tiles_lost (hand c.args.table.now.deeds) c.args.seat) c.args.plain) c.held_count.result c.held_count.ensures
    c.if-held_count-lt3.true in
    none_added c.args.table.now.rules c.args.table.now.deeds c.args.seat (ClosedKan c.args.seat (Known c.args.a) (Known c.args.plain)
    (Known c.args.plain) (Known c.args.plain) ∷ []) _ (no_plain_kan c.args.table.now.rules c.args.table.now.deeds c.args.seat c.args.a
    c.args.plain few)
