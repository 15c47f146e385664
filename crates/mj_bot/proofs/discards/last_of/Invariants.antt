-- From the place on no face is of the kind and lawful.
use Rattle.std.proofs.Common.{◌≡◌, ◌≤◌, [], drop}
use Rattle.std.specs.Prelude.{filter}
use Rattle.mj_tiles.specs.Faces.{tile_order}
use Rattle.mj_rules.specs.View.{view_of}
use Rattle.mj_bot.proofs.Lawful.{is_of}
use Rattle.mj_bot.proofs.discards.last_of.Given as goal

abbrev pub invariant-loop-place : goal.invariant-loop-place
invariant-loop-place l = (l.place ≤ 37) × (filter (is_of l.table.rules l.seat (view_of l.table.deeds l.seat) l.kind) (drop l.place tile_order) ≡ [])

abbrev pub decreases-loop-place : goal.decreases-loop-place
decreases-loop-place l = l.place
