use Rattle.std.proofs.Common.{ap, ◌∙◌, false}
use Rattle.std.specs.Option.{option_map_or}
use Rattle.mj_deeds.specs.Course.{is_reach}
use Rattle.mj_machine.proofs.Reaches.{of_reach}
use Rattle.mj_machine.proofs.discards.is_of_reach.Goals as goal

pub returns-in-Some : goal.returns-in-Some
returns-in-Some c = c.is_reach.ensures ∙ ap (λ o. option_map_or is_reach o false) c.in-Some.ensures ∙ of_reach c.requires.small.red c.args.table.now.deeds c.requires.small.fit c.requires.discarded

pub returns-in-None : goal.returns-in-None
returns-in-None c = ap (λ o. option_map_or is_reach o false) c.in-None.ensures ∙ of_reach c.requires.small.red c.args.table.now.deeds c.requires.small.fit c.requires.discarded
