use Rattle.std.proofs.Common.{◌≡◌, false, rules, refl, sym, ◌∙◌}
use Rattle.mj_rules.specs.View.{view_of}
use Rattle.mj_rules.specs.Possible.{added_kans_of, all_added_kans, triplets}
use Rattle.mj_judge.proofs.Tried.{none_added, no_added_kans, no_pon, faces_start, face_more, faces_end}
use Rattle.mj_judge.proofs.turning.push_added_kans.Goals as goal

pub returns-then-not-is_own_draw : goal.returns-then-not-is_own_draw
unfolding view_of
returns-then-not-is_own_draw c =
    let shut : c.is_own_draw.result ≡ false = search rules in
    none_added c.args.table.now.rules c.args.table.now.deeds c.args.seat
    (all_added_kans c.args.seat (triplets (view_of c.args.table.now.deeds c.args.seat))) _
    (no_added_kans c.args.table.now.rules c.args.table.now.deeds c.args.seat (triplets (view_of c.args.table.now.deeds c.args.seat))
    (sym c.is_own_draw.ensures ∙ shut))

pub returns-then-not-has_pon : goal.returns-then-not-has_pon
unfolding view_of
returns-then-not-has_pon c =
    let none : c.has_pon.result ≡ false = search rules in
    none_added c.args.table.now.rules c.args.table.now.deeds c.args.seat (all_added_kans c.args.seat (triplets (view_of c.args.table.now.deeds c.args.seat))) _
    (no_pon c.args.table.now.rules c.args.table.now.deeds c.args.seat c.as_slice.result.now c.has_pon.result (c.as_slice.ensures.value ∙ c.melds.ensures) c.has_pon.ensures none)

pub loop-place-init : goal.loop-place-init
loop-place-init c = faces_start c.args.table.now.rules c.args.table.now.deeds c.args.seat (λ face. added_kans_of c.args.seat face (triplets (view_of c.args.table.now.deeds c.args.seat))) _ _ refl

pub loop-place-preserved : goal.loop-place-preserved
loop-place-preserved c =
    face_more c.args.table.now.rules c.args.table.now.deeds c.args.seat
    (λ face. added_kans_of c.args.seat face (triplets (view_of c.args.table.now.deeds c.args.seat))) c.loop-place.place c.ordered.result _ _ _
    c.loop-place-test.true c.ordered.ensures c.loop-place.invariant
    c.in_ok-push_added_kans_of.ensures

pub returns : goal.returns
unfolding all_added_kans
returns c = faces_end c.args.table.now.rules c.args.table.now.deeds c.args.seat
    (λ face. added_kans_of c.args.seat face (triplets (view_of c.args.table.now.deeds c.args.seat))) c.loop-place.place _ _ c.loop-place-test.false
    c.loop-place.invariant
