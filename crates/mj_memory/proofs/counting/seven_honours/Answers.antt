use Rattle.std.proofs.Common.{◌∙◌, arith, refl}
use Rattle.std.proofs.lemmas.List.{length-set}
use Rattle.mj_lists.proofs.Fronts.{zero_at}
use Rattle.mj_memory.proofs.Nines.{read_more, rest_more, seven_read}
use Rattle.mj_memory.proofs.counting.seven_honours.Goals as goal

pub loop-n-init : goal.loop-n-init
loop-n-init c = record { size = refl; read = λ k none. absurd (omega arith); rest = λ k past. zero_at 9 k }

pub loop-n-preserved : goal.loop-n-preserved
loop-n-preserved c = record {
  size = length-set _ _ _ ∙ c.loop-n.invariant.size;
  read = read_more _ _ _ _ _ (let s = c.loop-n.invariant.size in omega arith) refl c.loop-n.invariant.read;
  rest = rest_more _ _ _ c.loop-n.invariant.rest;
}

pub returns : goal.returns
returns c = seven_read c.loop-n.nine c.args.numbers.now c.loop-n.n c.loop-n.invariant.size (omega arith) (omega arith) c.loop-n.invariant.read c.loop-n.invariant.rest
