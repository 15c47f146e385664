use Rattle.std.proofs.Common.{◌<◌, ◌^◌, refl, sym, ap, subst, ◌∙◌, arith}
use Rattle.mj_tiles.specs.Kinds.{has_kind, no_kinds}
use Rattle.mj_tiles.proofs.KindSets.{with_kind-within}
use Rattle.mj_page.proofs.Bits.{none_gathered, one_more, none_more}
use Rattle.mj_page.proofs.sets.bits_of.Goals as goal
use Rattle.mj_page.proofs.sets.bits_of.Goals.{then-has, else-has}

pub loop-number-init : goal.loop-number-init
unfolding no_kinds
loop-number-init c = record { gathered = none_gathered 0 (has_kind c.args.kinds) refl; small = omega arith }

pub loop-number-preserved : goal.loop-number-preserved
loop-number-preserved c =
    let told = ap (has_kind c.args.kinds) (sym c.at.ensures) ∙ sym c.has.ensures in
    elim c.if-has.branch [
      | then-has w ↦ record {
        gathered = one_more c.loop-number.bits c.if-has.bits c.loop-number.number c.loop-number.number (has_kind c.args.kinds) c.loop-number.invariant.gathered refl
            (w.bits-is ∙ w.with_bit-bits.ensures) (told ∙ w.if-has.true);
        small = subst (λ n. n < 2 ^ 34) (sym (w.bits-is ∙ w.with_bit-bits.ensures)) (with_kind-within c.loop-number.bits c.loop-number.number
            c.loop-number.invariant.small (omega (arith, c.loop-number-test.true)));
      }
      | else-has w ↦ record {
        gathered = none_more c.loop-number.bits c.if-has.bits c.loop-number.number (has_kind c.args.kinds) c.loop-number.invariant.gathered w.bits-is (told ∙ w.if-has.false);
        small = subst (λ n. n < 2 ^ 34) (sym w.bits-is) c.loop-number.invariant.small;
      }
    ]

pub returns : goal.returns
returns c = record {
  bits = λ kind low. c.loop-number.invariant.gathered.below kind (omega (arith, low, c.loop-number-test.false));
  within = c.loop-number.invariant.small;
}
