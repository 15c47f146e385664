use Rattle.std.proofs.Common.{rules, ◌≡◌, Some}
use Rattle.mj_records.specs.Inner.Fields.{tile_at}
use Rattle.mj_records.proofs.GatherLaws.{list_lacks, list_goes_on, list_ends_here, list_stops}
use Rattle.mj_records.proofs.lists.tiles_from.Goals as goal

pub returns-in_default : goal.returns-in_default
returns-in_default c = list_lacks tile_at _ _ _ _ _ c.loop-at-test.true c.loop-at.invariant c.in_default.ensures

pub returns-in-Some-strip-2 : goal.returns-in-Some-strip-2
returns-in-Some-strip-2 c =
    let h : Some (c.in-Some.tile-1-own.given.0.0.0, c.in-Some.tile-1-own.given.0.0.1.now) ≡ tile_at c.loop-at.rest.now = search rules in
    list_ends_here tile_at _ _ _ _ _ _ _ _ _ c.loop-at-test.true c.loop-at.invariant h c.in_ok-push.ensures.items c.in_default-strip.ensures c.in-Some-strip-2.ensures

pub returns-in-None : goal.returns-in-None
returns-in-None c =
    let h : Some (c.in-Some.tile-1-own.given.0.0.0, c.in-Some.tile-1-own.given.0.0.1.now) ≡ tile_at c.loop-at.rest.now = search rules in
    list_stops tile_at _ _ _ _ _ _ _ c.loop-at-test.true c.loop-at.invariant h c.in_default-strip.ensures c.in-None.ensures

pub loop-at-preserved : goal.loop-at-preserved
loop-at-preserved c =
    let h : Some (c.in-Some.tile-1-own.given.0.0.0, c.in-Some.tile-1-own.given.0.0.1.now) ≡ tile_at c.loop-at.rest.now = search rules in
    list_goes_on tile_at _ _ _ _ _ _ _ _ _ c.loop-at-test.true c.loop-at.invariant h c.in_ok-push.ensures.items c.in-Some-strip.ensures
