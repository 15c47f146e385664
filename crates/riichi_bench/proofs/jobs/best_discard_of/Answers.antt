use Rattle.std.proofs.Common.{sym, subst}
use Rattle.mj_shanten.specs.Room.{IsRoom}
use Rattle.mj_shanten.specs.Walked.{Tiles}
use Rattle.mj_shanten.proofs.Closed.{closed_within, closed_room}
use Rattle.riichi_bench.proofs.jobs.best_discard_of.Goals as goal

pub new-requires : goal.new-requires
new-requires c = closed_within _ _ c.tiles_among.ensures.few (c.in-Some-Some.ensures'.1)

pub best_discard-requires-clause-room : goal.best_discard-requires-clause-room
best_discard-requires-clause-room c = subst (λ (t : Tiles). IsRoom t.room 0) (sym c.new.ensures) (closed_room _ (c.in-Some-Some.ensures'.1))
