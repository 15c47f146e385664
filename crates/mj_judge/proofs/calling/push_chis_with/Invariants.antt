use Rattle.std.proofs.Common.{◌≡◌, ◌++◌, map, take}
use Rattle.mj_tiles.specs.Faces.{tile_order}
use Rattle.mj_deeds.specs.declared.answer.Answer.TheVariants.{Chi}
use Rattle.mj_deeds.specs.declared.answer.Pai.TheVariants.{Known}
use Rattle.mj_judge.specs.Inner.Tried.{lawful_among}
use Rattle.mj_judge.proofs.calling.push_chis_with.Given as goal

abbrev pub invariant-loop-place : goal.invariant-loop-place
invariant-loop-place l = l.items.items ≡ l.initial.items.items ++ lawful_among l.table.rules l.table.deeds l.seat
    (map (λ b. Chi l.seat l.who (Known l.tile) (Known l.a) (Known b)) (take l.place tile_order))
