use Rattle.mj_readings.proofs.OneMore.{a_middle}
use Rattle.mj_readings.proofs.completing_kinds.may_be_special.Goals as goal

pub returns-else-single_kinds-le1 : goal.returns-else-single_kinds-le1
returns-else-single_kinds-le1 c =
    a_middle c.args.numbers.now c.args.melds c.single_kinds.result c.has_middle_character.result c.single_kinds.ensures c.if-single_kinds-le1.false c.has_middle_character.ensures
