use Rattle.std.proofs.Common.{arith}
use Rattle.std.proofs.lemmas.List.{length-take-le}
use Rattle.mj_shanten.proofs.Pairs.{pairs_least}
use Rattle.mj_shanten.proofs.seven_pairs.missing_of_pairs.Goals as goal

pub returns : goal.returns
returns c = pairs_least c.args.held.now _ (omega arith) (length-take-le 34 c.args.held.now (omega arith)) (omega arith)
