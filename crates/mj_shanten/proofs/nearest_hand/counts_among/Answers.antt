use Rattle.std.proofs.Common.{◌≡◌, ◌∙◌, arith, sym, subst, take}
use Rattle.std.proofs.lemmas.List.{length-set}
use Rattle.mj_tiles.specs.Counts.{NoFifth}
use Rattle.mj_shanten.proofs.Written.{copied_more, copied_all}
use Rattle.mj_shanten.proofs.nearest_hand.counts_among.Goals as goal

pub loop-kind-preserved : goal.loop-kind-preserved
loop-kind-preserved c = record {
  size = length-set _ _ _ ∙ c.loop-kind.invariant.size;
  written = copied_more c.args.wide.now c.loop-kind.numbers c.loop-kind.kind (let s = c.loop-kind.invariant.size in omega arith) c.loop-kind.invariant.written;
}

pub from_numbers-requires : goal.from_numbers-requires
from_numbers-requires c =
    let same : c.loop-kind.numbers ≡ take 34 c.args.wide.now =
    copied_all c.args.wide.now c.loop-kind.numbers c.loop-kind.kind c.loop-kind.invariant.size (omega arith) (omega arith) c.loop-kind.invariant.written in
    subst NoFifth (sym same) c.requires.within

pub returns : goal.returns
returns c =
    let same : c.loop-kind.numbers ≡ take 34 c.args.wide.now =
    copied_all c.args.wide.now c.loop-kind.numbers c.loop-kind.kind c.loop-kind.invariant.size (omega arith) (omega arith) c.loop-kind.invariant.written in
    c.from_numbers.ensures ∙ same
