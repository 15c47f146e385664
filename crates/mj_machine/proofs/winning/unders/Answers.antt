use Rattle.std.proofs.Common.{sym, ◌∙◌, ◌≤◌, subst}
use Rattle.mj_deeds.specs.Hand.{hand}
use Rattle.mj_machine.proofs.Indicators.{unders_of_others, unders_more, unders_few, unders_whole}
use Rattle.mj_machine.proofs.winning.unders.Goals as goal

pub returns-then-not-is_in_riichi-clause-value : goal.returns-then-not-is_in_riichi-clause-value
returns-then-not-is_in_riichi-clause-value c =
    c.new.ensures ∙ unders_of_others c.args.wall.now (hand c.args.table.now.deeds) c.args.seat (sym c.is_in_riichi.ensures ∙ c.if-not-is_in_riichi.true)

pub loop-place-preserved : goal.loop-place-preserved
loop-place-preserved c = unders_more c.args.wall.now c.loop-place.place c.under.result c.loop-place.unders c.push.new.self c.loop-place.invariant c.under.ensures c.in_ok-push.ensures

pub returns-clause-value : goal.returns-clause-value
returns-clause-value c =
    unders_whole c.args.wall.now (hand c.args.table.now.deeds) c.args.seat c.loop-place.place c.shown-place-end.result c.loop-place.unders
    c.loop-place.invariant c.loop-place.auto.place-end c.loop-place-test.false
    c.shown-place-end.ensures (sym c.is_in_riichi.ensures ∙ c.if-not-is_in_riichi.false)

pub returns-clause-few : goal.returns-clause-few
returns-clause-few c =
    unders_few c.args.wall.now c.loop-place.place c.shown-place-end.result c.loop-place.unders c.loop-place.invariant c.loop-place.auto.place-end
    (subst (λ n. n ≤ 5) (sym c.shown-place-end.ensures) c.requires.shown)
