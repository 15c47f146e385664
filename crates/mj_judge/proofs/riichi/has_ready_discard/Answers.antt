use Rattle.std.proofs.Common.{ap, length, ◌∙◌}
use Rattle.mj_rules.specs.View.{view_of}
use Rattle.mj_judge.proofs.Discards.{ready_told}
use Rattle.mj_judge.proofs.riichi.has_ready_discard.Goals as goal

pub returns : goal.returns
unfolding view_of
returns c =
    ready_told (view_of c.args.table.now.deeds c.args.seat) c.holds-counts.result c.room-room.result (length c.as_slice.result.now) c.leaves_some_ready.result
    c.holds-counts.ensures.value c.room-room.ensures (ap length (c.as_slice.ensures.value ∙ c.melds-melds.ensures)) c.leaves_some_ready.ensures.no c.leaves_some_ready.ensures.yes
