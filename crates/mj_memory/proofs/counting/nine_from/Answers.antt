use Rattle.std.proofs.Common.{◌∙◌, arith, refl}
use Rattle.std.proofs.lemmas.List.{length-set}
use Rattle.mj_memory.proofs.Nines.{read_more, nine_read}
use Rattle.mj_memory.proofs.counting.nine_from.Goals as goal

pub loop-n-preserved : goal.loop-n-preserved
loop-n-preserved c = record {
  size = length-set _ _ _ ∙ c.loop-n.invariant.size;
  read = read_more _ _ _ _ _ (let s = c.loop-n.invariant.size in omega arith) refl c.loop-n.invariant.read;
}

pub returns : goal.returns
returns c = nine_read c.loop-n.nine c.args.numbers.now c.args.from c.loop-n.n c.loop-n.invariant.size (omega arith) (omega arith) (omega arith) c.loop-n.invariant.read
