use Rattle.std.proofs.Common.{sym, ◌∙◌}
use Rattle.mjai_lines.proofs.Lists.{hidden_hand, shown_hand}
use Rattle.mjai_lines.proofs.ending.push_hand.Goals as goal

pub returns-in-Some : goal.returns-in-Some
returns-in-Some c = rw (hidden_hand _ _ (sym c.hidden.ensures ∙ c.in-Some.is)) c.push_hidden.ensures

pub returns-in-None : goal.returns-in-None
returns-in-None c = rw (shown_hand _ (sym c.hidden.ensures ∙ c.in-None.is)) (rw (sym c.at.ensures) c.push_tiles_seen.ensures)
