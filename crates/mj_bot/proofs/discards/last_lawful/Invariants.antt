use Rattle.std.proofs.Common.{◌≡◌, ◌&&◌, take}
use Rattle.std.specs.Prelude.{filter}
use Rattle.mj_tiles.specs.Faces.{tile_order}
use Rattle.mj_rules.specs.View.{view_of}
use Rattle.mj_rules.specs.Default.{last_face}
use Rattle.mj_bot.specs.Inner.Turns.{is_among}
use Rattle.mj_bot.proofs.Lawful.{passes}
use Rattle.mj_bot.proofs.discards.last_lawful.Given as goal

abbrev pub invariant-loop-place : goal.invariant-loop-place
invariant-loop-place l = l.last ≡ last_face (filter (λ face. is_among l.kinds face && passes l.table.rules l.seat (view_of l.table.deeds l.seat) face) (take l.place tile_order))
