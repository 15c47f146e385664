use Rattle.mjai_lines.proofs.Chains.{◌▸◌}
use Rattle.mjai_lines.proofs.deed.push_dealt.Goals as goal

pub returns : goal.returns
returns c =
    c.in_ok-push_all.ensures.ok
    ▸ c.in_ok-push_tile.ensures
    ▸ c.in_ok-push_all-2.ensures.ok
    ▸ c.in_ok-push_hands.ensures
    ▸ c.in_ok-push_all-3.ensures.ok
