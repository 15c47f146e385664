use Rattle.std.proofs.Common.{◌≡◌, arith, take, length, subst}
use Rattle.std.proofs.lemmas.List.{length-take-le}
use Rattle.mj_suits.specs.Improves.{Improves}
use Rattle.mj_shanten.proofs.Hands.{one_for_all}
use Rattle.mj_shanten.proofs.Pairs.{seven_are, nearest_seven}
use Rattle.mj_shanten.proofs.seven_pairs.take_pairs.Goals as goal

pub returns : goal.returns
returns c =
    let size : length (take 34 c.args.held.now) ≡ 34 = length-take-le 34 c.args.held.now (omega arith) in
    one_for_all _ _ _ _ _ (seven_are _ size) (nearest_seven _ (omega arith) size)
    (subst (λ u. Improves c.args.held.now (λ t. t ≡ u) c.args.best.now c.keep_nearer.new.best) c.pairs_of-target.ensures c.keep_nearer.ensures)
