use Rattle.std.proofs.Common.{arith, sym, ◌∙◌, ◌<◌, get_or, subst}
use Rattle.mj_tiles.specs.Counts.{IsCounts}
use Rattle.mj_yaku.specs.Inner.Plain.{AreSimple}
use Rattle.mj_yaku.proofs.Plain.{way_gives, tiles_give}
use Rattle.mj_yaku.proofs.some_yaku.complete_has_yaku.Goals as goal

pub returns-then-is_won_with_yaku : goal.returns-then-is_won_with_yaku
returns-then-is_won_with_yaku c =
    let counts : IsCounts c.args.counts.now = record { size = c.numbers-numbers.ensures.size; within = c.numbers-numbers.ensures.within } in
    let some : 0 < get_or c.args.counts.now c.args.win 0 = omega (arith, c.get.ensures.value, c.if-get-eq0.false) in
    let both = way_gives c.args.counts.now c.args.melds.now c.args.win c.args.case.now counts c.requires.complete (omega arith) some (sym c.is_won_with_yaku.ensures ∙ c.if-is_won_with_yaku.true) in
    record { value = both.value; law = both.law }

pub returns-then-are_simple : goal.returns-then-are_simple
returns-then-are_simple c =
    let counts : IsCounts c.args.counts.now = record { size = c.numbers-numbers.ensures.size; within = c.numbers-numbers.ensures.within } in
    let some : 0 < get_or c.args.counts.now c.args.win 0 = omega (arith, c.get.ensures.value, c.if-get-eq0.false) in
    let both = tiles_give c.args.counts.now c.args.melds.now c.args.win c.args.case.now counts c.requires.complete (omega arith) some
    (subst (λ ns. AreSimple ns c.args.melds.now) c.numbers-numbers.ensures.value (c.are_simple.ensures c.if-are_simple.true)) in
    record { value = both.value; law = both.law }
