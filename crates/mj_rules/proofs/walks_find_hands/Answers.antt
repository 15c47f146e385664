use Rattle.mj_rules.proofs.Hands.{complete_is_found, waits_are_found, ready_is_found, readings_are_found, worth_is_found}
use Rattle.mj_rules.proofs.walks_find_hands.Goals as goal

pub returns : goal.returns
returns c = record { complete = complete_is_found; waits = waits_are_found; ready = ready_is_found; readings = readings_are_found; worth = worth_is_found }
