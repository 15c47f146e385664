use Rattle.std.proofs.Common.{sym, ◌∙◌}
use Rattle.mj_embedded.specs.Turns.{Chosen}
use Rattle.mj_embedded.proofs.Listed.{listed_form}
use Rattle.mj_embedded.proofs.turns.choose.Goals as goal

pub give-requires : goal.give-requires
give-requires c = listed_form _ _ _ _ c.in-Ok-Some.choice (sym c.in-Ok-Some.ensures ∙ c.in-Ok-Some.field-0-is)

pub returns-in-Ok-Some : goal.returns-in-Ok-Some
returns-in-Ok-Some c = Chosen c.in-Ok-Some.choice c.if-seat-gt3.false (sym c.in-Ok-Some.ensures ∙ c.in-Ok-Some.field-0-is) c.give.ensures
