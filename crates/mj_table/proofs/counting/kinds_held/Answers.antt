use Rattle.std.proofs.Common.{◌∙◌, subst, sym, arith}
use Rattle.mj_tiles.specs.Counts.{NoFifth}
use Rattle.mj_table.proofs.RedFives.{reds_added, first_few, second_few, third_few}
use Rattle.mj_table.proofs.counting.kinds_held.Goals as goal

pub overflow_add-numbers : goal.overflow_add-numbers
overflow_add-numbers c =
    let copied = c.copy_from_slice.ensures in
    omega (arith, first_few c.args.held.now c.copy_from_slice.new.self copied.after copied.len c.requires)

pub overflow_add-numbers-2 : goal.overflow_add-numbers-2
overflow_add-numbers-2 c =
    let copied = c.copy_from_slice.ensures in
    omega (arith, second_few c.args.held.now c.copy_from_slice.new.self copied.after copied.len c.requires)

pub overflow_add-numbers-3 : goal.overflow_add-numbers-3
overflow_add-numbers-3 c =
    let copied = c.copy_from_slice.ensures in
    omega (arith, third_few c.args.held.now c.copy_from_slice.new.self copied.after copied.len c.requires)

pub from_numbers-requires : goal.from_numbers-requires
from_numbers-requires c =
    let copied = c.copy_from_slice.ensures in
    subst NoFifth (sym (reds_added c.args.held.now c.copy_from_slice.new.self copied.after copied.len)) c.requires

pub returns : goal.returns
returns c =
    let copied = c.copy_from_slice.ensures in
    c.from_numbers.ensures ∙ reds_added c.args.held.now c.copy_from_slice.new.self copied.after copied.len
