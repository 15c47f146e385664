use Rattle.mj_rules.proofs.HandRules.{kans_are_found, seat_waits_are_found, no_yaku_is_found}
use Rattle.mj_rules.proofs.rules_go_by_hands.Goals as goal

pub returns : goal.returns
returns c = record { kan = kans_are_found; waits = seat_waits_are_found; yaku = no_yaku_is_found }
