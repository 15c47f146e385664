use Rattle.std.proofs.Common.{◌≡◌, false, rules, sym, ◌∙◌, arith}
use Rattle.mj_deeds.specs.Facts.{tiles_gained, tiles_lost}
use Rattle.mj_deeds.specs.Hand.{hand}
use Rattle.mj_rules.specs.View.{view_of}
use Rattle.mj_tiles.specs.Faces.{number_in}
use Rattle.mj_deeds.specs.declared.answer.Answer.TheVariants.{Chi}
use Rattle.mj_deeds.specs.declared.answer.Pai.TheVariants.{Known}
use Rattle.mj_rules.specs.Possible.{chis_with}
use Rattle.mj_judge.proofs.Tried.{none_held, none_added, no_chis_with, no_far_chis, mapped_more}
use Rattle.mj_judge.proofs.Near.{chi_start, chi_end}
use Rattle.mj_judge.proofs.calling.push_chis_with.Goals as goal

pub returns-then-not-is_near : goal.returns-then-not-is_near
returns-then-not-is_near c =
    let far : c.is_near.result ≡ false = search rules in
    none_added c.args.table.now.rules c.args.table.now.deeds c.args.seat (chis_with c.args.seat c.args.who c.args.tile c.args.a) _
    (no_far_chis c.args.table.now.rules c.args.table.now.deeds c.args.seat c.args.who c.args.tile c.args.a (sym c.is_near.ensures ∙ far))

pub returns-then-held_count-eq0 : goal.returns-then-held_count-eq0
unfolding view_of
returns-then-held_count-eq0 c =
    let none = none_held (number_in (tiles_gained (hand c.args.table.now.deeds) c.args.seat) c.args.a)
    (number_in (tiles_lost (hand c.args.table.now.deeds) c.args.seat) c.args.a) c.held_count.result c.held_count.ensures c.if-held_count-eq0.true
    in
    none_added c.args.table.now.rules c.args.table.now.deeds c.args.seat (chis_with c.args.seat c.args.who c.args.tile c.args.a) _
    (no_chis_with c.args.table.now.rules c.args.table.now.deeds c.args.seat c.args.who c.args.tile c.args.a none)

pub loop-place-init : goal.loop-place-init
loop-place-init c = chi_start c.args.table.now.rules c.args.table.now.deeds c.args.seat c.args.who c.args.tile c.args.a c.first_near-place.result _
    (omega (arith, c.first_near-place.ensures.within)) c.first_near-place.ensures.far

pub loop-place-preserved : goal.loop-place-preserved
loop-place-preserved c =
    mapped_more c.args.table.now.rules c.args.table.now.deeds c.args.seat (λ b. Chi c.args.seat c.args.who (Known c.args.tile) (Known c.args.a)
    (Known b)) c.loop-place.place c.ordered.result _ _ _ (omega (arith, c.loop-place-test.true, c.after_near-place-end.ensures.within))
    c.ordered.ensures c.loop-place.invariant
    c.in_ok-push_chi.ensures

pub returns : goal.returns
returns c =
    chi_end c.args.table.now.rules c.args.table.now.deeds c.args.seat c.args.who c.args.tile c.args.a c.after_near-place-end.result c.loop-place.place
    _ _ c.loop-place-test.false (omega (
      arith,
      c.first_near-place.ensures.within,
      c.after_near-place-end.ensures.beyond,
      c.after_near-place-end.ensures.within,
      c.loop-place.auto.place-end,
    )) c.after_near-place-end.ensures.far
    c.loop-place.invariant
