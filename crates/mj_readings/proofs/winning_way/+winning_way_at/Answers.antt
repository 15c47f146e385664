use Rattle.std.proofs.Common.{sym, ◌∙◌, ap, ◌++◌, Ok, Err}
use Rattle.mj_readings.specs.Inner.Ways.{sets_at}
use Rattle.mj_lists.proofs.Fronts.{first_and_others}
use Rattle.mj_readings.proofs.Picking.{branch-off, branch-on, none-at, kind-alone, triplet-off, triplet-on, pair-few, pair-made, kind-few, kind-first, kind-second, kind-third}
use Rattle.mj_readings.proofs.winning_way.+winning_way_at.Goals as goal

pub branch_at-returns-then-not-can_begin : goal.branch_at-returns-then-not-can_begin
branch_at-returns-then-not-can_begin t c =
    branch-off c.args.others.now c.args.spot.now c.args.sets.now c.args.winning c.args.runs c.args.triplets c.args.index c.args.pair
    c.can_begin.result c.can_begin.ensures c.if-not-can_begin.true

pub branch_at-returns : goal.branch_at-returns
branch_at-returns t c =
    branch-on c.args.others.now c.args.spot.now c.args.sets.now c.sets_with.result c.args.winning c.args.runs c.args.triplets c.args.index c.args.pair
    c.can_begin.result c.winning_way_at-2.result c.can_begin.ensures c.if-not-can_begin.false
    (c.sets_with.ensures ∙ ap (λ kind. c.args.sets.now ++ sets_at kind c.args.runs c.args.triplets) c.in-Some.ensures.1) c.winning_way_at-2.ensures

pub pair_at-returns-then-free-lt2 : goal.pair_at-returns-then-free-lt2
pair_at-returns-then-free-lt2 t c =
    pair-few c.args.others.now c.args.spot.now c.args.sets.now c.args.winning c.args.free c.args.index c.if-free-lt2.true

pub pair_at-returns-then-is_some : goal.pair_at-returns-then-is_some
pair_at-returns-then-is_some t c =
    pair-made c.args.others.now c.args.spot.now c.args.sets.now c.args.winning c.args.free c.args.index (sym c.is_some.ensures ∙ c.if-is_some.true)

pub winning_way_at-returns-then-count-spot : goal.winning_way_at-returns-then-count-spot
winning_way_at-returns-then-count-spot t c =
    kind-few c.args.numbers.now _ _ c.args.spot.now c.args.sets.now c.args.winning c.args.index
    (first_and_others 0 c.args.numbers.now c.in-len1-up.len_at_least) c.if-count-spot.true

pub winning_way_at-returns-in-Ok : goal.winning_way_at-returns-in-Ok
winning_way_at-returns-in-Ok t c =
    kind-first c.args.numbers.now _ _ c.args.spot.now c.args.sets.now c.args.winning c.args.index c.in-Ok.winning_way
    (first_and_others 0 c.args.numbers.now c.in-len1-up.len_at_least) c.if-count-spot.false c.in-Ok.ensures

pub winning_way_at-returns-in-Ok-branch_at : goal.winning_way_at-returns-in-Ok-branch_at
winning_way_at-returns-in-Ok-branch_at t c =
    kind-second c.args.numbers.now _ _ c.args.spot.now c.args.sets.now c.args.winning c.args.index c.in-Err.rest c.in-Ok-branch_at.winning_way
    (first_and_others 0 c.args.numbers.now c.in-len1-up.len_at_least) c.if-count-spot.false c.in-Err.ensures
    (triplet-on _ c.args.spot.now c.args.sets.now c.args.winning _ c.in-Err.rest (Ok c.in-Ok-branch_at.winning_way) c.if-free-lt3.false c.in-Ok-branch_at.ensures)

pub winning_way_at-returns-then-free-lt3 : goal.winning_way_at-returns-then-free-lt3
winning_way_at-returns-then-free-lt3 t c =
    kind-third c.args.numbers.now _ _ c.args.spot.now c.args.sets.now c.args.winning c.args.index c.in-Err.rest c.in-Err.rest c.pair_at.result
    (first_and_others 0 c.args.numbers.now c.in-len1-up.len_at_least) c.if-count-spot.false c.in-Err.ensures
    (triplet-off _ c.args.spot.now c.args.sets.now c.args.winning _ c.in-Err.rest c.if-free-lt3.true) c.pair_at.ensures

pub winning_way_at-returns : goal.winning_way_at-returns
winning_way_at-returns t c =
    kind-third c.args.numbers.now _ _ c.args.spot.now c.args.sets.now c.args.winning c.args.index c.in-Err.rest c.in-Err-branch_at.rest c.pair_at-2.result
    (first_and_others 0 c.args.numbers.now c.in-len1-up.len_at_least) c.if-count-spot.false c.in-Err.ensures
    (triplet-on _ c.args.spot.now c.args.sets.now c.args.winning _ c.in-Err.rest (Err c.in-Err-branch_at.rest) c.if-free-lt3.false c.in-Err-branch_at.ensures) c.pair_at-2.ensures

pub branch_at-returns-then-runs-triplets-eq0 : goal.branch_at-returns-then-runs-triplets-eq0
branch_at-returns-then-runs-triplets-eq0 t c =
    branch-on c.args.others.now c.args.spot.now c.args.sets.now c.args.sets.now c.args.winning c.args.runs c.args.triplets c.args.index c.args.pair
    c.can_begin.result c.winning_way_at.result c.can_begin.ensures c.if-not-can_begin.false
    (none-at c.args.sets.now c.args.spot.now.kind c.args.runs c.args.triplets c.if-runs-triplets-eq0.true) c.winning_way_at.ensures

pub winning_way_at-returns-then-free-lt2 : goal.winning_way_at-returns-then-free-lt2
winning_way_at-returns-then-free-lt2 t c =
    kind-alone c.args.numbers.now _ _ c.args.spot.now c.args.sets.now c.args.winning c.args.index c.branch_at.result
    (first_and_others 0 c.args.numbers.now c.in-len1-up.len_at_least) c.if-count-spot.false c.if-free-lt2.true c.branch_at.ensures
