use Rattle.mj_facts.proofs.FewKept.{lists_added, lists_stay}
use Rattle.mj_facts.proofs.few_tiles.FewTiles.add.Goals as goal

pub returns-in-Some : goal.returns-in-Some
returns-in-Some c tiles few k = lists_added c.push.new.self tiles c.args.tile c.in-Some.tile c.in-Some.is few (λ small. c.push.ensures tiles small k)

pub returns-in-None : goal.returns-in-None
returns-in-None c tiles few k = lists_stay c.args.self.now tiles c.args.tile c.in-None.is k
