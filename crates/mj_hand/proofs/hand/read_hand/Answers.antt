use Rattle.std.proofs.Common.{map}
use Rattle.std.specs.String.{string_bytes}
use Rattle.mj_hand.proofs.HandLaw.{law_of}
use Rattle.mj_hand.proofs.HandSteps.{value_by}
use Rattle.mj_hand.proofs.hand.read_hand.Goals as goal

pub returns-in-Some-clause-law : goal.returns-in-Some-clause-law
returns-in-Some-clause-law c =
    law_of (map string_bytes c.args.words.now) _ (value_by (map string_bytes c.args.words.now) _ _ _ c.in_ok-gathered.ensures c.in-Some.is c.hand_with.ensures)
