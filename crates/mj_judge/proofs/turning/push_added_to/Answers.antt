use Rattle.mj_judge.proofs.Tried.{nothing_added, meld_more}
use Rattle.mj_judge.proofs.turning.push_added_to.Goals as goal

pub loop-meld-init : goal.loop-meld-init
loop-meld-init c = nothing_added c.args.table.now.rules c.args.table.now.deeds c.args.seat c.args.items.now.items

pub loop-meld-preserved : goal.loop-meld-preserved
loop-meld-preserved c =
    meld_more c.args.table.now.rules c.args.table.now.deeds c.args.seat c.args.tile c.args.melds.now c.meld-item.result c.loop-meld.meld-index _ _ _
    c.loop-meld-test.true c.meld-item.is c.loop-meld.invariant
    c.in_ok-push_added_kan.ensures
