use Rattle.std.proofs.Common.{◌≡◌, false, rules, refl, sym, ◌∙◌}
use Rattle.mj_rules.specs.View.{view_of}
use Rattle.mj_tiles.specs.Faces.{kind_of}
use Rattle.mj_rules.specs.Possible.{faces_of, closed_kans_of, all_closed_kans}
use Rattle.mj_judge.proofs.FewHeld.{no_fours}
use Rattle.mj_judge.proofs.Tried.{none_added, no_closed_kans, faces_start, face_more, faces_end}
use Rattle.mj_judge.proofs.turning.push_closed_kans.Goals as goal

pub returns-then-not-is_own_draw : goal.returns-then-not-is_own_draw
unfolding view_of
returns-then-not-is_own_draw c =
    let shut : c.is_own_draw.result ≡ false = search rules in
    none_added c.args.table.now.rules c.args.table.now.deeds c.args.seat (all_closed_kans c.args.seat) _
    (no_closed_kans c.args.table.now.rules c.args.table.now.deeds c.args.seat (sym c.is_own_draw.ensures ∙ shut))

pub returns-then-not-holds_four : goal.returns-then-not-holds_four
returns-then-not-holds_four c =
    let few : c.holds_four.result ≡ false = search rules in
    none_added c.args.table.now.rules c.args.table.now.deeds c.args.seat (all_closed_kans c.args.seat) _
    (no_fours c.args.table.now.rules c.args.table.now.deeds c.args.seat (c.holds_four.ensures few))

pub loop-place-init : goal.loop-place-init
loop-place-init c = faces_start c.args.table.now.rules c.args.table.now.deeds c.args.seat (λ a. closed_kans_of c.args.seat a (faces_of (kind_of a))) _ _ refl

pub loop-place-preserved : goal.loop-place-preserved
loop-place-preserved c =
    face_more c.args.table.now.rules c.args.table.now.deeds c.args.seat (λ a. closed_kans_of c.args.seat a (faces_of (kind_of a))) c.loop-place.place
    c.ordered.result _ _ _ c.loop-place-test.true c.ordered.ensures c.loop-place.invariant
    c.in_ok-push_closed_kans_of.ensures

pub returns : goal.returns
unfolding all_closed_kans
returns c = faces_end c.args.table.now.rules c.args.table.now.deeds c.args.seat (λ a. closed_kans_of c.args.seat a (faces_of (kind_of a)))
    c.loop-place.place _ _ c.loop-place-test.false c.loop-place.invariant
