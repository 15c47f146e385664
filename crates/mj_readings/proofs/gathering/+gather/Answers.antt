use Rattle.std.proofs.Common.{sym, ◌∙◌, ap, ◌++◌, refl}
use Rattle.std.proofs.lemmas.Result.{on_ok_weaker}
use Rattle.mj_lists.proofs.Fronts.{first_and_others}
use Rattle.mj_readings.specs.Inner.Ways.{sets_at}
use Rattle.mj_readings.proofs.Picking.{none-at}
use Rattle.mj_readings.proofs.Gathered.{none_more, few_ways, at_kind_none, at_kind_three, branch_off, branch_on, triplet_few, pair_few, pair_made}
use Rattle.mj_readings.proofs.gathering.+gather.Goals as goal

pub gather-returns-then-count-spot : goal.gather-returns-then-count-spot
gather-returns-then-count-spot t c =
    none_more _ c.args.melds.now c.args.winning c.args.sets.now _
    (few_ways c.args.numbers.now _ _ c.args.spot.now (first_and_others 0 c.args.numbers.now c.in-len1-up.len_at_least) c.if-count-spot.true)

pub gather-returns-then-free-eq0 : goal.gather-returns-then-free-eq0
gather-returns-then-free-eq0 t c =
    on_ok_weaker c.gather.result
    (at_kind_none c.args.numbers.now _ _ c.args.spot.now c.args.found.now.items c.gather.new.found.items c.args.melds.now c.args.sets.now c.args.winning _ c.spot_after.result
    (first_and_others 0 c.args.numbers.now c.in-len1-up.len_at_least) c.if-count-spot.false refl c.if-free-eq0.true c.spot_after.ensures) c.gather.ensures

pub gather-returns : goal.gather-returns
gather-returns t c =
    on_ok_weaker c.gather_pair.result
    (at_kind_three c.args.numbers.now _ _ c.args.spot.now c.args.found.now.items c.gather_branch.new.found.items c.gather_triplet.new.found.items c.gather_pair.new.found.items
    c.args.melds.now c.args.sets.now c.args.winning _
    (first_and_others 0 c.args.numbers.now c.in-len1-up.len_at_least) c.if-count-spot.false refl c.in_ok-gather_branch.ensures c.in_ok-gather_triplet.ensures) c.gather_pair.ensures

pub gather_branch-returns-then-not-can_begin : goal.gather_branch-returns-then-not-can_begin
gather_branch-returns-then-not-can_begin t c =
    none_more _ c.args.melds.now c.args.winning c.args.sets.now _
    (branch_off c.args.others.now c.args.spot.now c.args.runs c.args.triplets c.args.pair c.can_begin.result c.can_begin.ensures c.if-not-can_begin.true)

pub gather_branch-returns-then-runs-triplets-eq0 : goal.gather_branch-returns-then-runs-triplets-eq0
gather_branch-returns-then-runs-triplets-eq0 t c =
    on_ok_weaker c.gather.result
    (branch_on c.args.others.now c.args.spot.now c.args.found.now.items c.gather.new.found.items c.args.melds.now c.args.sets.now c.args.sets.now c.args.winning c.args.runs c.args.triplets c.args.pair
    c.can_begin.result c.can_begin.ensures c.if-not-can_begin.false
    (none-at c.args.sets.now c.args.spot.now.kind c.args.runs c.args.triplets c.if-runs-triplets-eq0.true)) c.gather.ensures

pub gather_branch-returns : goal.gather_branch-returns
gather_branch-returns t c =
    on_ok_weaker c.gather-2.result
    (branch_on c.args.others.now c.args.spot.now c.args.found.now.items c.gather-2.new.found.items c.args.melds.now c.args.sets.now c.sets_with-made.result c.args.winning c.args.runs
    c.args.triplets c.args.pair
    c.can_begin.result c.can_begin.ensures c.if-not-can_begin.false
    (c.sets_with-made.ensures ∙ ap (λ kind. c.args.sets.now ++ sets_at kind c.args.runs c.args.triplets) c.at.ensures)) c.gather-2.ensures

pub gather_pair-returns-then-free-lt2 : goal.gather_pair-returns-then-free-lt2
gather_pair-returns-then-free-lt2 t c = none_more _ c.args.melds.now c.args.winning c.args.sets.now _ (pair_few c.args.others.now c.args.spot.now c.args.free c.if-free-lt2.true)

pub gather_pair-returns-then-is_some : goal.gather_pair-returns-then-is_some
gather_pair-returns-then-is_some t c =
    none_more _ c.args.melds.now c.args.winning c.args.sets.now _ (pair_made c.args.others.now c.args.spot.now c.args.free (sym c.is_some.ensures ∙ c.if-is_some.true))

pub gather_triplet-returns-then-free-lt3 : goal.gather_triplet-returns-then-free-lt3
gather_triplet-returns-then-free-lt3 t c = none_more _ c.args.melds.now c.args.winning c.args.sets.now _ (triplet_few c.args.others.now c.args.spot.now c.args.free c.if-free-lt3.true)
