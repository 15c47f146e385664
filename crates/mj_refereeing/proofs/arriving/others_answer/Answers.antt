use Rattle.mj_refereeing.proofs.PlayLaws.{others}
use Rattle.mj_refereeing.proofs.PassLaws.{said-as}
use Rattle.mj_refereeing.proofs.arriving.others_answer.Goals as goal

pub returns-in-Taken-clause-does : goal.returns-in-Taken-clause-does
returns-in-Taken-clause-does c = λ seat told text reads another play. others _ _ seat _ _ text told _ another play c.requires.present c.requires.asked
    (said-as text _ _ _ _ _ _ reads c.in-Taken.ensures.hears)

pub returns-in-Late-clause-does : goal.returns-in-Late-clause-does
returns-in-Late-clause-does c = λ seat told text reads another play. others _ _ seat _ _ text told _ another play c.requires.present c.requires.asked
    (said-as text _ _ _ _ _ _ reads c.in-Late.ensures.hears)

pub returns-in-Refused-clause-does : goal.returns-in-Refused-clause-does
returns-in-Refused-clause-does c = λ seat told text reads another play. others _ _ seat _ _ text told _ another play c.requires.present c.requires.asked
    (said-as text _ _ _ _ _ _ reads c.in-Refused.ensures.hears)

pub returns-in-Closing-clause-does : goal.returns-in-Closing-clause-does
returns-in-Closing-clause-does c = λ seat told text reads another play. others _ _ seat _ _ text told _ another play c.requires.present c.requires.asked
    (said-as text _ _ _ _ _ _ reads c.in-Closing.ensures.hears)
