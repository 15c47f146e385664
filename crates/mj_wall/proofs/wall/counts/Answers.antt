use Rattle.std.proofs.Common.{rules, ℕ, ◌≡◌, ◌<◌, ◌∙◌}
use Rattle.mj_wall.proofs.FaceCounts.{face_counts-none, face_counts-fits, face_counts-next}
use Rattle.mj_wall.proofs.wall.counts.Goals as goal

small : (face t : ℕ) → face ≡ t → face < 37 → t < 37
small face t is within = rw is at within

pub loop-tile-init : goal.loop-tile-init
loop-tile-init c = face_counts-none

pub overflow_add-counts : goal.overflow_add-counts
overflow_add-counts c =
    let below = small _ _ c.face.ensures.value c.face.ensures.within in
    let fits = face_counts-fits _ _ _ c.tile-item.result _ c.loop-tile-test.true c.requires (c.from.ensures ∙ c.face.ensures.value) below c.loop-tile.invariant in
    search rules

pub loop-tile-preserved : goal.loop-tile-preserved
loop-tile-preserved c =
    let below = small _ _ c.face.ensures.value c.face.ensures.within in
    face_counts-next _ _ _ c.tile-item.result _ c.loop-tile-test.true c.tile-item.is (c.from.ensures ∙ c.face.ensures.value) below c.loop-tile.invariant
