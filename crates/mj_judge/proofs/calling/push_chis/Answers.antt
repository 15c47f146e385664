use Rattle.std.proofs.Common.{◌≡◌, false, rules, sym, ◌∙◌, arith}
use Rattle.mj_rules.specs.View.{view_of}
use Rattle.mj_rules.specs.Possible.{chis_with, all_chis}
use Rattle.mj_judge.proofs.Tried.{none_added, no_chis, face_more}
use Rattle.mj_judge.proofs.Near.{chis_start, chis_end}
use Rattle.mj_judge.proofs.calling.push_chis.Goals as goal

pub returns-then-not-is_before : goal.returns-then-not-is_before
unfolding view_of
returns-then-not-is_before c =
    let shut : c.is_before.result ≡ false = search rules in
    none_added c.args.table.now.rules c.args.table.now.deeds c.args.seat (all_chis c.args.seat c.args.who c.args.tile) _
    (no_chis c.args.table.now.rules c.args.table.now.deeds c.args.seat c.args.who c.args.tile (sym c.is_before.ensures ∙ shut))

pub loop-place-init : goal.loop-place-init
loop-place-init c = chis_start c.args.table.now.rules c.args.table.now.deeds c.args.seat c.args.who c.args.tile c.first_near-place.result _
    (omega (arith, c.first_near-place.ensures.within)) c.first_near-place.ensures.far

pub loop-place-preserved : goal.loop-place-preserved
loop-place-preserved c =
    face_more c.args.table.now.rules c.args.table.now.deeds c.args.seat (chis_with c.args.seat c.args.who c.args.tile) c.loop-place.place
    c.ordered.result _ _ _ (omega (arith, c.loop-place-test.true, c.after_near-place-end.ensures.within)) c.ordered.ensures c.loop-place.invariant
    c.in_ok-push_chis_with.ensures

pub returns : goal.returns
unfolding all_chis
returns c =
    chis_end c.args.table.now.rules c.args.table.now.deeds c.args.seat c.args.who c.args.tile c.after_near-place-end.result c.loop-place.place _ _
    c.loop-place-test.false (omega (
      arith,
      c.first_near-place.ensures.within,
      c.after_near-place-end.ensures.beyond,
      c.after_near-place-end.ensures.within,
      c.loop-place.auto.place-end,
    )) c.after_near-place-end.ensures.far
    c.loop-place.invariant
