use Rattle.mj_embedded.proofs.Rules.{tag_is, refused_told, closing_told}
use Rattle.mj_embedded.proofs.arrivals.tell.Goals as goal

pub returns-in-Refused : goal.returns-in-Refused
returns-in-Refused c = refused_told _ c.in-Refused.broken _ _ c.in-Refused.is (tag_is c.in-Refused.broken)

pub returns-in-Closing : goal.returns-in-Closing
returns-in-Closing c = closing_told _ c.in-Closing.broken _ _ c.in-Closing.is (tag_is c.in-Closing.broken)
