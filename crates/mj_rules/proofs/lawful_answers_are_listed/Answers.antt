use Rattle.mj_rules.proofs.Apart.{played_in_turn}
use Rattle.mj_rules.proofs.Listed.{plain_is_listed}
use Rattle.mj_rules.proofs.ListedOrder.{listed_is_plain, listed_in_turn}
use Rattle.mj_rules.proofs.lawful_answers_are_listed.Goals as goal

pub returns : goal.returns
returns c = record { listed = plain_is_listed; plain = listed_is_plain; in_turn = listed_in_turn; played = played_in_turn }
