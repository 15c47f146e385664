use Rattle.std.proofs.Common.{◌≡◌, ◌∙◌, ap, take, arith}
use Rattle.mj_shanten.specs.Inner.Special.{so_often}
use Rattle.mj_shanten.proofs.seven_pairs.kinds_held.Goals as goal

pub returns : goal.returns
returns c = (let all : c.loop-kind.kind ≡ 34 = omega arith in c.from.ensures ∙ c.loop-kind.invariant.many ∙ ap (λ n. so_often c.args.times (take n c.args.held.now)) all)
