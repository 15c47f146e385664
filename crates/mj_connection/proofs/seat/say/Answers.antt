use Rattle.std.proofs.Common.{rules, arith, []}
use Rattle.mj_connection.proofs.Speaking.{spoke_more, spoke_less}
use Rattle.mj_connection.proofs.seat.say.Goals as goal

pub returns-in-Taken-clause-hears : goal.returns-in-Taken-clause-hears
returns-in-Taken-clause-hears g c = λ start lines i. spoke_more _ _ _ start _ _ _ _ lines c.in-Taken.ensures.entries.1 i

pub returns-in-Late-clause-hears : goal.returns-in-Late-clause-hears
returns-in-Late-clause-hears g c = λ start lines i. spoke_more _ _ _ start _ _ _ _ lines c.in-Late.ensures.entries.1 i

pub returns-in-Ok-clause-hears : goal.returns-in-Ok-clause-hears
returns-in-Ok-clause-hears g c = λ start lines i. spoke_more _ _ _ start _ _ _ _ lines c.in-Refused.ensures.entries.1 i

pub returns-in-Refused-clause-hears : goal.returns-in-Refused-clause-hears
returns-in-Refused-clause-hears g c = λ start lines i. ([], omega arith, spoke_more _ _ _ start _ _ _ _ lines c.in-Refused.ensures.entries.1 i)

pub returns-in-Ok-control-clause-hears : goal.returns-in-Ok-control-clause-hears
returns-in-Ok-control-clause-hears g c = λ start lines i. (spoke_more _ _ _ start _ _ _ _ lines c.in-Closing.ensures.entries.1 i, search rules)

pub returns-in-Closing-clause-hears : goal.returns-in-Closing-clause-hears
returns-in-Closing-clause-hears g c = λ start lines i. ([], omega arith, spoke_more _ _ _ start _ _ _ _ lines c.in-Closing.ensures.entries.1 i)

pub returns-clause-hears : goal.returns-clause-hears
returns-clause-hears g c = λ start lines i. (_, omega arith, spoke_less _ _ _ start _ _ _ _ lines c.in-NoMemory.ensures.entries i)
