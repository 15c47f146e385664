use Rattle.std.proofs.Common.{refl, arith, leb, ◌-◌, ◌+◌, ◌≡◌, ◌∙◌, drop, take, get_or}
use mir.Val.{bool_byte}
use Rattle.std.proofs.lemmas.List.{length-set}
use Rattle.mj_shanten.specs.Inner.Special.{so_often}
use Rattle.mj_shanten.proofs.Pairs.{often_here, whole_kept, later_kept, pairs_end}
use Rattle.mj_lists.proofs.Fronts.{zero_at}
use Rattle.mj_shanten.proofs.seven_pairs.pairs_of.Goals as goal

pub loop-kind-init : goal.loop-kind-init
loop-kind-init c = record {
  size = refl;
  whole = refl;
  twice = c.kinds_held-twice.ensures;
  once = c.kinds_held-once.ensures;
  later = λ k past. zero_at 36 k;
}

pub overflow_sub-twice : goal.overflow_sub-twice
overflow_sub-twice c = (let h = often_here c.args.held.now 2 c.loop-kind.kind _ (omega arith) (omega arith) c.loop-kind.invariant.twice in omega arith)

pub overflow_sub-once : goal.overflow_sub-once
overflow_sub-once c = (let h = often_here c.args.held.now 1 c.loop-kind.kind _ (omega arith) (omega arith) c.loop-kind.invariant.once in omega arith)

pub loop-kind-preserved : goal.loop-kind-preserved
loop-kind-preserved c =
    let h = often_here c.args.held.now 2 c.loop-kind.kind _ (omega arith) (omega arith) c.loop-kind.invariant.twice in
    let g = often_here c.args.held.now 1 c.loop-kind.kind _ (omega arith) (omega arith) c.loop-kind.invariant.once in
    let twos : c.loop-kind.twice - bool_byte (leb 2 (get_or c.args.held.now c.loop-kind.kind 0)) ≡ so_often 2 (drop (c.loop-kind.kind + 1) (take 34 c.args.held.now)) = omega arith in
    let ones : c.loop-kind.once - bool_byte (leb 1 (get_or c.args.held.now c.loop-kind.kind 0)) ≡ so_often 1 (drop (c.loop-kind.kind + 1) (take 34 c.args.held.now)) = omega arith in
    record {
      size = length-set _ _ _ ∙ c.loop-kind.invariant.size;
      whole = whole_kept c.args.held.now c.loop-kind.target _ c.loop-kind.kind c.loop-kind.left _ _ _ (omega arith) c.loop-kind.invariant.size
          (omega arith) c.loop-kind.invariant.whole twos ones c.is_taken-taken.ensures;
      twice = twos;
      once = ones;
      later = later_kept _ _ _ c.loop-kind.invariant.later;
    }

pub returns : goal.returns
returns c = pairs_end _ _ _ _ c.loop-kind.invariant.size (omega arith) (omega arith) c.loop-kind.invariant.whole c.loop-kind.invariant.later
