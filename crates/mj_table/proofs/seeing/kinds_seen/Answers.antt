use Rattle.mj_table.proofs.Sights.{each_hidden, no_fifth_seen}
use Rattle.mj_table.proofs.seeing.kinds_seen.Goals as goal

pub from_numbers-requires : goal.from_numbers-requires
from_numbers-requires c =
    no_fifth_seen c.args.brought.now c.hide-4.new.numbers c.args.held.now c.args.seat c.requires c.hide-4.array_long
    (each_hidden c.args.brought.now c.hide.new.numbers c.hide-2.new.numbers c.hide-3.new.numbers c.hide-4.new.numbers c.args.held.now c.args.seat
    c.hide.ensures c.hide-2.ensures c.hide-3.ensures c.hide-4.ensures)
