use Rattle.mjai_lines.proofs.Chains.{◌▸◌}
use Rattle.mjai_lines.proofs.winning.push_changes.Goals as goal

pub returns : goal.returns
returns c =
    c.in_ok-push_all.ensures.ok
    ▸ c.in_ok-push_points.ensures
    ▸ c.in_ok-push_all-2.ensures.ok
    ▸ c.in_ok-push_points-2.ensures
    ▸ c.in_ok-push_rest.ensures
