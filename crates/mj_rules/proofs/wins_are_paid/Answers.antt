use Rattle.mj_rules.proofs.Paid.{first_ron_is_paid, further_rons_are_paid, own_win_is_paid}
use Rattle.mj_rules.proofs.wins_are_paid.Goals as goal

pub returns : goal.returns
returns c = record { first = first_ron_is_paid; further = further_rons_are_paid; own = own_win_is_paid }
