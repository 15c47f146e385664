use Rattle.std.proofs.Common.{true, refl}
use Rattle.std.specs.Prelude.{Some}
use Rattle.mj_facts.proofs.FewKept.{lists_more}
use Rattle.mj_facts.proofs.few_tiles.FewTiles.push.Goals as goal

pub returns : goal.returns
returns c tiles few k =
    lists_more c.args.self.now tiles (Some c.args.tile) c.counted-self.result true c.placed-self.result c.placed-self-2.result c.placed-self-3.result
    c.placed-self-4.result c.placed-self-5.result few k
    refl c.counted-self.ensures.few c.placed-self.ensures c.placed-self-2.ensures c.placed-self-3.ensures c.placed-self-4.ensures c.placed-self-5.ensures
