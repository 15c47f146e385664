use Rattle.mj_wall.proofs.SeedWalls.{many_from, whole_from}
use Rattle.mj_telling.proofs.Supplies.{none_first}
use Rattle.mj_telling.proofs.shuffled.Shuffled.new.Goals as goal

pub invariant_of-result : goal.invariant_of-result
invariant_of-result c = none_first c.args.seed c.args.red c.args.first c.args.number c.new.result.items c.requires c.new.ensures.items

pub returns-clause-many : goal.returns-clause-many
returns-clause-many c = many_from c.args.seed c.args.red c.args.first c.args.number

pub returns-clause-whole : goal.returns-clause-whole
returns-clause-whole c = whole_from c.args.seed c.args.red c.args.first c.args.number
