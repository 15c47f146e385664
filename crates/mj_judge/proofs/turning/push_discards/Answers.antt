use Rattle.std.proofs.Common.{◌≡◌, false, rules, refl, sym, ◌∙◌}
use Rattle.mj_rules.specs.View.{view_of}
use Rattle.mj_rules.specs.Possible.{discards_of, all_discards}
use Rattle.mj_judge.proofs.Tried.{none_added, no_discards, faces_start, face_more, faces_end}
use Rattle.mj_judge.proofs.turning.push_discards.Goals as goal

pub returns-then-not-is_discarding : goal.returns-then-not-is_discarding
unfolding view_of
returns-then-not-is_discarding c =
    let shut : c.is_discarding.result ≡ false = search rules in
    none_added c.args.table.now.rules c.args.table.now.deeds c.args.seat (all_discards c.args.seat) _
    (no_discards c.args.table.now.rules c.args.table.now.deeds c.args.seat (sym c.is_discarding.ensures ∙ shut))

pub loop-place-init : goal.loop-place-init
loop-place-init c = faces_start c.args.table.now.rules c.args.table.now.deeds c.args.seat (discards_of c.args.seat) _ _ refl

pub loop-place-preserved : goal.loop-place-preserved
loop-place-preserved c =
    face_more c.args.table.now.rules c.args.table.now.deeds c.args.seat (discards_of c.args.seat) c.loop-place.place c.ordered.result _ _ _
    c.loop-place-test.true c.ordered.ensures c.loop-place.invariant
    c.in_ok-push_discards_of.ensures

pub returns : goal.returns
unfolding all_discards
returns c = faces_end c.args.table.now.rules c.args.table.now.deeds c.args.seat (discards_of c.args.seat) c.loop-place.place _ _ c.loop-place-test.false c.loop-place.invariant
