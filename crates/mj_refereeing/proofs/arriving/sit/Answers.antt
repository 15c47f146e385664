use Rattle.mj_refereeing.proofs.PlayLaws.{sits, returns, back-small, sits-refused}
use Rattle.mj_refereeing.proofs.arriving.sit.Goals as goal

pub greet_again-requires : goal.greet_again-requires
greet_again-requires c = back-small _ _ _ _ _ _ c.requires c.in-Back.ensures.sits

pub returns-in_ok-greet-in-Sat-clause-does : goal.returns-in_ok-greet-in-Sat-clause-does
returns-in_ok-greet-in-Sat-clause-does c = sits _ _ _ _ _ _ _ c.requires c.in-Sat.ensures.sits (rw c.seat-seat.ensures at c.in_ok-greet-in-Sat.ensures)

pub returns-in_ok-greet_again-in-Back-clause-does : goal.returns-in_ok-greet_again-in-Back-clause-does
returns-in_ok-greet_again-in-Back-clause-does c = returns _ _ _ _ _ _ _ c.requires c.in-Back.ensures.sits (rw c.in-Back.ensures.seat at c.in_ok-greet_again-in-Back.ensures)

pub returns-in-Refused-clause-does : goal.returns-in-Refused-clause-does
returns-in-Refused-clause-does c = sits-refused _ _ _ _ _ _ c.requires c.in-Refused.ensures.sits
