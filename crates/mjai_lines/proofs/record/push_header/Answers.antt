use Rattle.mj_forms.specs.Headers.{header_line}
use Rattle.mjai_lines.proofs.Chains.{◌▸◌}
use Rattle.mjai_lines.proofs.record.push_header.Goals as goal

pub returns : goal.returns
unfolding header_line
returns c =
    c.in_ok-push_all.ensures.ok
    ▸ c.in_ok-push_number.ensures.ok
    ▸ c.in_ok-push_all-2.ensures.ok
    ▸ c.in_ok-push_switch.ensures
    ▸ c.in_ok-push_all-3.ensures.ok
    ▸ c.in_ok-push_switch-2.ensures
    ▸ c.in_ok-push_all-4.ensures.ok
