use Rattle.mj_facts.proofs.Brought.{all_brought}
use Rattle.mj_facts.proofs.bringing.bring_start.Goals as goal

pub returns : goal.returns
returns c =
    all_brought c.args.indicator c.args.hands.now c.args.brought.now c.bring_tiles.new.brought c.bring_tiles-2.new.brought c.bring_tiles-3.new.brought
    c.bring_tiles-4.new.brought c.bring_tiles-5.new.brought
    c.at.result.now c.at-2.result.now c.at-3.result.now c.at-4.result.now c.at.ensures c.at-2.ensures c.at-3.ensures c.at-4.ensures
    c.bring_tiles.ensures c.bring_tiles-2.ensures c.bring_tiles-3.ensures c.bring_tiles-4.ensures c.bring_tiles-5.ensures
