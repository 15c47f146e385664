use Rattle.std.proofs.Common.{sym}
use Rattle.mjai_lines.proofs.Chains.{◌▸◌, as_piece}
use Rattle.mjai_lines.proofs.Lists.{bracketed_four}
use Rattle.mjai_lines.proofs.ending.push_hands.Goals as goal

pub returns : goal.returns
returns c = as_piece (sym (bracketed_four _ _ _ _))
    (c.in_ok-push_all.ensures.ok
    ▸ c.in_ok-push_hand.ensures
    ▸ c.in_ok-push_all-2.ensures.ok
    ▸ c.in_ok-push_hand-2.ensures
    ▸ c.in_ok-push_all-3.ensures.ok
    ▸ c.in_ok-push_hand-3.ensures
    ▸ c.in_ok-push_all-4.ensures.ok
    ▸ c.in_ok-push_hand-4.ensures
    ▸ c.in_ok-push_all-5.ensures.ok)
