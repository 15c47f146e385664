use Rattle.std.proofs.Common.{◌<◌, rules, length, ap, ◌∙◌}
use Rattle.mj_rules.specs.View.{view_of}
use Rattle.mj_bot.proofs.Incomplete.{discard_short}
use Rattle.mj_bot.proofs.choosing.is_far.Goals as goal

pub returns-in-Some-Discard : goal.returns-in-Some-Discard
unfolding view_of
returns-in-Some-Discard c = λ far.
    let small : c.kind.result < 34 = search rules in
    discard_short c.args.table.now.deeds c.args.seat _ _ c.kind.result (length c.as_slice.result.now) _ c.in-Some-Discard.field-0.now c.holds.result
    c.in-Some-Discard.ensures c.in-Some-Discard.field-0-is c.holds.ensures.value c.kind.ensures small (ap length (c.as_slice.ensures.value ∙ c.melds-melds.ensures)) (c.is_far.ensures far)
