use Rattle.mj_hand.proofs.MeldSteps.{no_run_high, no_run_late, run_is}
use Rattle.mj_hand.proofs.words.is_run.Goals as goal

pub returns-then-low-ge-EAST : goal.returns-then-low-ge-EAST
returns-then-low-ge-EAST c = no_run_high _ _ c.if-low-ge-EAST.true

pub returns-then-low-ge7 : goal.returns-then-low-ge7
returns-then-low-ge7 c = no_run_late _ _ c.if-low-ge7.true

pub returns : goal.returns
returns c =
    run_is c.args.low c.args.tiles.now c.at.result c.at-2.result c.at-3.result c.have_same_kinds.result
    c.if-low-ge-EAST.false c.if-low-ge7.false c.at.ensures c.at-2.ensures c.at-3.ensures c.have_same_kinds.ensures
