use Rattle.std.proofs.Common.{◌<◌, rules}
use Rattle.mj_judge.proofs.NoUse.{discard_of_no_use}
use Rattle.mj_judge.proofs.apart.is_of_no_use.Goals as goal

pub returns-in-Some-Discard : goal.returns-in-Some-Discard
returns-in-Some-Discard c = λ so.
    let small : c.kind.result < 34 = search rules in
    discard_of_no_use c.args.table.now.rules c.args.table.now.deeds c.args.seat _ _ c.kind.result _ c.in-Some-Discard.field-0.now c.holds.result
    c.in-Some-Discard.ensures c.in-Some-Discard.field-0-is c.holds.ensures.value c.kind.ensures small (c.is_apart.ensures.alone so) (c.is_apart.ensures.apart so)
