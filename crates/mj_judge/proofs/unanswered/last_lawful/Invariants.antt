use Rattle.std.proofs.Common.{◌≡◌, take}
use Rattle.std.specs.Prelude.{is_none, filter}
use Rattle.mj_tiles.specs.Faces.{tile_order}
use Rattle.mj_rules.specs.Broken.{broken_by}
use Rattle.mj_rules.specs.View.{view_of}
use Rattle.mj_rules.specs.Default.{discard_of, last_face}
use Rattle.mj_judge.proofs.unanswered.last_lawful.Given as goal

abbrev pub invariant-loop-place : goal.invariant-loop-place
invariant-loop-place l = l.last ≡ last_face
    (filter (λ face. is_none (broken_by l.table.rules l.seat (view_of l.table.deeds l.seat) (discard_of l.seat (view_of l.table.deeds l.seat) face)))
    (take l.place tile_order))
